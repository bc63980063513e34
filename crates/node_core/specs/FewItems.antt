-- A list that is kept as its first item and the others.
use Rattle.std.specs.Prelude.{List, ◌∷◌, Option, Some, None}

-- the first item, where there is one, and the others
abbrev pub few_items : {A : Type 0} → Option A → List A → List A
few_items None more = more
few_items (Some item) more = item ∷ more
