-- Which lives of a store run in a net, where more points come of which none begins or ends one.
use Rattle.std.specs.Prelude.{◌≡◌, ℕ, ◌+◌, ◌-◌, ◌<◌, ◌≤◌, ◌⊎◌, ⊤, Bool, true, false, if◌then◌else◌, List, [], ◌∷◌, length, drop, Option, None, IfSome, slice_get, Some}
use Rattle.std.specs.List.{AllByRecursion as Each}
use Rattle.std.specs.Option.{option_map_or}
use Rattle.store_records.specs.declared.task.Life.{Life}

-- ---- of all lives some run

-- of a list those at whose place the other one has true
abbrev pub picked : {A : Type 0} → List Bool → List A → List A
picked [] xs = []
picked (b ∷ bs) [] = []
picked (b ∷ bs) (x ∷ xs) = if b then x ∷ picked bs xs else picked bs xs

-- the numbers of a list's items, the first of which has this one
abbrev pub numbers_from : {A : Type 0} → ℕ → List A → List ℕ
numbers_from n [] = []
numbers_from n (x ∷ xs) = n ∷ numbers_from (n + 1) xs

-- ---- the points that come

-- Behind k points, where n more come, a life is open all the way: it began behind them or before, and its last stamp,
-- if it has one, isn't below those of the points.
pub record IsOpenOver (k n : ℕ) (life : Life) : Type 0 where
  pub first : 0 < life.first
  pub began : life.first ≤ k + 1
  pub onward : IfSome life.last (λ last. k + n ≤ last)

-- behind k points it has ended
pub record HasEnded (k : ℕ) (life : Life) : Type 0 where
  pub first : 0 < life.first
  pub began : life.first ≤ k + 1
  pub last : ℕ
  pub is : life.last ≡ Some last
  pub ended : last ≤ k

-- behind k points, where n more come, it begins behind these, or has ended before them
abbrev pub IsAway : ℕ → ℕ → Life → Type 0
IsAway k n life = (k + n < life.first) ⊎ HasEnded k life

-- a life that runs is open all the way, and one that runs no more has ended
abbrev pub IsThere : ℕ → ℕ → Bool → Life → Type 0
IsThere k n true life = IsOpenOver k n life
IsThere k n false life = HasEnded k life

-- and so of the first lives, one by one
abbrev pub AreThere : ℕ → ℕ → List Bool → List Life → Type 0
AreThere k n [] lives = ⊤
AreThere k n (b ∷ bs) [] = ⊥
AreThere k n (b ∷ bs) (life ∷ lives) = IsThere k n b life × AreThere k n bs lives

-- Behind k points, where n more come, of the first lives just those with true run, and none of the others does.
pub record Spans (k n : ℕ) (runs : List Bool) (lives : List Life) : Type 0 where
  pub there : AreThere k n runs lives
  pub away : Each (IsAway k n) (drop (length runs) lives)

-- ---- where lives end and begin

-- the last stamp of the life with this number; none where it is open, or where there is no such life
abbrev pub last_of : List Life → ℕ → Option ℕ
last_of lives number = option_map_or (λ life. life.last) (slice_get lives (number - 1)) None

-- a last stamp, if there is one, isn't below this one
abbrev pub IsOnward : ℕ → Option ℕ → Type 0
IsOnward stamp last = IfSome last (λ l. stamp ≤ l)

-- the first stamps of lives don't fall
abbrev pub FirstsRise : List Life → Type 0
FirstsRise [] = ⊤
FirstsRise (life ∷ lives) = Each (λ other. life.first ≤ other.first) lives × FirstsRise lives

-- it is a last stamp of a life that has ended behind so many points
abbrev pub HasEndedBy : ℕ → Option ℕ → Type 0
HasEndedBy points None = ⊥
HasEndedBy points (Some last) = last ≤ points
