-- What a Serve was asked and answered.
use Rattle.std.specs.Prelude.{◌≡◌, ℕ, List, [], ◌∷◌, ◌++◌, Option, Some, None}
use Rattle.kap_http.specs.RequestValues.{RequestValue}
use Rattle.kap_http.specs.ReplyValues.{ReplyValue}

-- a call: the number of the connection, the request and the reply
pub record Call : Type 0 where
  pub number : ℕ
  pub request : RequestValue
  pub reply : ReplyValue

-- these calls came behind the earlier ones, where they are told
abbrev pub AddsCalls : Option (List Call) → Option (List Call) → List Call → Type 0
AddsCalls None now calls = Unit {0}
AddsCalls (Some before) None calls = ⊥
AddsCalls (Some before) (Some now) calls = now ≡ before ++ calls

-- one call came behind the earlier ones
abbrev pub AddsCall : Option (List Call) → Option (List Call) → ℕ → RequestValue → ReplyValue → Type 0
AddsCall before now number request reply =
    AddsCalls before now (record { number = number; request = request; reply = reply } ∷ [])
