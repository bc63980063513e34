-- The values of a query.
use Rattle.std.specs.Prelude.{ℕ, List, [], ◌∷◌, bytes_eq, if◌then◌else◌}
use Rattle.form_urlencoded.specs.Form.{decode}

-- the value of the first pair with this name, decoded; no bytes where there is none
abbrev pub value_of : List ℕ → List (List ℕ × List ℕ) → List ℕ
value_of name [] = []
value_of name (p ∷ pairs) = if bytes_eq (decode p.0) name then decode p.1 else value_of name pairs
