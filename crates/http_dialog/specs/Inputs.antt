-- The bytes that came and that no request was taken of.
use Rattle.std.specs.Prelude.{◌≡◌, ◌≢◌, ◌≤◌, ℕ, ⊤, List, ◌++◌, length, drop, Option, Some, None, Result, Ok, Err}
use Rattle.http_dialog.specs.declared.input.Front.{Front}
use Rattle.http_dialog.specs.declared.input.Front.TheVariants as fronts
use Rattle.http_dialog.specs.declared.input.TheConstants.{HELD_LIMIT}
use Rattle.kap_http.specs.declared.fault.HttpFault.{HttpFault}
use Rattle.kap_http.specs.declared.fault.HttpFault.TheVariants as faults
use Rattle.kap_http.specs.HeadValues.{HeadValue}
use Rattle.kap_http.specs.RequestValues.{RequestValue}
use Rattle.kap_http.specs.Reading.{Gives, whole_in}

-- whatever follows, the bytes give the request of this head, or None until it is whole
abbrev pub IsHeadOf : HeadValue → List ℕ → Type 0
IsHeadOf head bytes = (more : List ℕ) → Gives (bytes ++ more) (Ok (whole_in head (bytes ++ more)))

-- what is known of the front of the bytes
abbrev pub Knows : List ℕ → Front → Type 0
Knows bytes fronts.Unknown = ⊤
Knows bytes fronts.Waits = Gives bytes (Ok None)
Knows bytes (fronts.Whole head) = IsHeadOf head bytes

-- bytes of which the first ones were taken, and what is known of the others
pub record IsInput (bytes : List ℕ) (taken : ℕ) (front : Front) : Type 0 where
  pub within : taken ≤ length bytes
  pub short : length (drop taken bytes) ≤ HELD_LIMIT
  pub known : Knows (drop taken bytes) front

-- The first request was taken out of the bytes; or they wait for more, or hold none, and stay. Where memory ran out
-- they stay, too.
abbrev pub Takes : List ℕ → List ℕ → Result (Option RequestValue) HttpFault → Type 0
Takes old new (Ok (Some r)) = (n : ℕ) × Gives old (Ok (Some (r, n))) × (new ≡ drop n old)
Takes old new (Ok None) = (new ≡ old) × Gives old (Ok None)
Takes old new (Err fault) = (new ≡ old) × (fault ≢ faults.NoMemory → Gives old (Err fault))
