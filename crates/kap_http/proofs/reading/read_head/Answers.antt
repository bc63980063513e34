use Rattle.std.proofs.Common.{◌≢◌, ◌≤◌, ◌<◌, ℕ, List, length, Some, None, Ok, Err}
use Rattle.std.specs.Prelude.{IfOk, IfSome, IfNone}
use Rattle.kap_http.specs.declared.fault.HttpFault.TheVariants as faults
use Rattle.kap_http.specs.declared.limits.TheConstants.{HEAD_LIMIT}
use Rattle.kap_http.specs.Reading.{HeadResult, GivesHead}
use Rattle.kap_http.proofs.HeadFirstLaws.{head_within, head_short}
use Rattle.kap_http.proofs.reading.read_head.Goals as goal

within_of : (bytes : List ℕ) (r : HeadResult) → (r ≢ Err faults.NoMemory → GivesHead bytes r) → IfOk r (λ o. IfSome o (λ h. (0 < h.len) × (h.len ≤ length bytes)))
within_of bytes (Ok (Some h)) gives = head_within bytes h (gives (λ e. cc))
within_of bytes (Ok None) gives = tt
within_of bytes (Err f) gives = tt

short_of : (bytes : List ℕ) (r : HeadResult) → (r ≢ Err faults.NoMemory → GivesHead bytes r) → IfOk r (λ o. IfNone o (length bytes < HEAD_LIMIT))
short_of bytes (Ok (Some h)) gives = tt
short_of bytes (Ok None) gives = head_short bytes (gives (λ e. cc))
short_of bytes (Err f) gives = tt

pub returns-clause-within : goal.returns-clause-within
returns-clause-within c = within_of c.args.bytes.now c.first_head.result c.first_head.ensures

pub returns-clause-short : goal.returns-clause-short
returns-clause-short c = short_of c.args.bytes.now c.first_head.result c.first_head.ensures
