-- Calls by the number of their connection, where one Serve answers the requests of many.
use Rattle.std.specs.Prelude.{◌≡◌, ℕ, ⊤, ◌==◌, List, ◌++◌, Option, Some, None, All}
use Rattle.std.specs.List.{filter}
use Rattle.kap_http.specs.Calls.{Call, AddsCalls}
use Rattle.http_dialog.specs.Dialogs.{IsOf}

-- the calls of the connection with this number
abbrev pub calls_of : ℕ → List Call → List Call
calls_of number calls = filter (λ c. c.number == number) calls

-- of the calls with this number these came behind the earlier ones, where they are told
abbrev pub AddsOf : ℕ → Option (List Call) → Option (List Call) → List Call → Type 0
AddsOf number None now calls = ⊤
AddsOf number (Some before) None calls = ⊥
AddsOf number (Some before) (Some now) calls = calls_of number now ≡ calls_of number before ++ calls

-- all calls that came are of this number
abbrev pub AddsOnly : ℕ → Option (List Call) → Option (List Call) → Type 0
AddsOnly number before now = (calls : List Call) × AddsCalls before now calls × All (IsOf number) calls
