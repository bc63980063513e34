-- The lives of a store, seen later.
use Rattle.std.specs.Prelude.{◌≡◌, ℕ, ◌<◌, List, [], ◌∷◌, Option, Some, None}
use Rattle.std.specs.List.{AllByRecursion as Each}
use Rattle.store_records.specs.declared.task.Life.{Life}
use Rattle.engine_runs.specs.Spans.{IsOnward}

-- a last stamp that was there is the same later; where there was none there is one later that isn't below the number of
-- points, or none
abbrev pub IsLastLater : ℕ → Option ℕ → Option ℕ → Type 0
IsLastLater k (Some last) later = later ≡ Some last
IsLastLater k None later = IsOnward k later

-- a life that was there behind k points, and what it is later
pub record IsLater (k : ℕ) (life later : Life) : Type 0 where
  pub task : later.task ≡ life.task
  pub script : later.script ≡ life.script
  pub first : later.first ≡ life.first
  pub last : IsLastLater k life.last later.last

-- lives that were there behind k points, and what they are later, with others behind them that began since
abbrev pub AreLater : ℕ → List Life → List Life → Type 0
AreLater k [] others = Each (λ life. k < life.first) others
AreLater k (life ∷ lives) [] = ⊥
AreLater k (life ∷ lives) (later ∷ others) = IsLater k life later × AreLater k lives others
