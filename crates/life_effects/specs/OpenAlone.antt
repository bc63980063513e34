-- Lives of which the open ones alone have seen points, and these all points.
use Rattle.std.specs.Prelude.{◌≡◌, ⊤, Bool, true, false, List, [], ◌∷◌, if◌then◌else◌}
use Rattle.kap_base.specs.Points.{PointValue}
use Rattle.store_records.specs.Held.{is_open}
use Rattle.store_records.specs.declared.task.Life.{Life}
use Rattle.life_effects.specs.Effects.{seen_by}

-- of a list, which has an item for each life, the items of the open ones
abbrev pub of_open : {A : Type 0} → List Life → List A → List A
of_open [] xs = []
of_open (life ∷ lives) [] = []
of_open (life ∷ lives) (x ∷ xs) = if is_open life then x ∷ of_open lives xs else of_open lives xs

-- an open life began before the first point; another one has seen none of the points
abbrev pub IsAlone : Bool → List PointValue → Life → Type 0
IsAlone true points life = life.first ≡ 1
IsAlone false points life = seen_by life points ≡ []

-- and so each
abbrev pub AreOpenAlone : List PointValue → List Life → Type 0
AreOpenAlone points [] = ⊤
AreOpenAlone points (life ∷ lives) = IsAlone (is_open life) points life × AreOpenAlone points lives
