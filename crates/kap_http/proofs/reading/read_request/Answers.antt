use Rattle.std.proofs.Common.{◌≢◌, ◌+◌, ◌≤◌, ◌<◌, ℕ, List, length, Some, None, Ok, Err}
use Rattle.std.specs.Prelude.{IfOk, IfSome, IfNone}
use Rattle.kap_http.specs.declared.fault.HttpFault.TheVariants as faults
use Rattle.kap_http.specs.declared.limits.TheConstants.{HEAD_LIMIT, WRITE_LIMIT}
use Rattle.kap_http.specs.Reading.{ReadResult, Gives}
use Rattle.kap_http.proofs.OneLaws.{gives_within}
use Rattle.kap_http.proofs.SizeLaws.{gives_short}
use Rattle.kap_http.proofs.reading.read_request.Goals as goal

within_of : (bytes : List ℕ) (r : ReadResult) → (r ≢ Err faults.NoMemory → Gives bytes r) → IfOk r (λ o. IfSome o (λ x. (0 < x.1) × (x.1 ≤ length bytes)))
within_of bytes (Ok (Some x)) gives = gives_within bytes x.0 x.1 (gives (λ e. cc))
within_of bytes (Ok None) gives = tt
within_of bytes (Err f) gives = tt

short_of : (bytes : List ℕ) (r : ReadResult) → (r ≢ Err faults.NoMemory → Gives bytes r) → IfOk r (λ o. IfNone o (length bytes < HEAD_LIMIT + WRITE_LIMIT))
short_of bytes (Ok (Some x)) gives = tt
short_of bytes (Ok None) gives = gives_short bytes (gives (λ e. cc))
short_of bytes (Err f) gives = tt

pub returns-clause-within : goal.returns-clause-within
returns-clause-within c = within_of c.args.bytes.now c.first_request.result c.first_request.ensures

pub returns-clause-short : goal.returns-clause-short
returns-clause-short c = short_of c.args.bytes.now c.first_request.result c.first_request.ensures
