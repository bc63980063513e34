-- The edge that waits, as a relation: by which point it was set, and what came behind that point.
use Rattle.std.specs.Prelude.{◌≡◌, ℤ, ◌≤ℤ◌, ◌<ℤ◌, List, ◌∷◌, ◌++◌, All, ◌⊎◌}
use Rattle.window_node.specs.declared.edges.EdgeWindow.{EdgeWindow}
use Rattle.window_node.specs.Edges.{edge_behind, following}

-- one of the times wasn't before the edge that waited there, and so set this one; all times behind it are before this
-- edge
pub record IsSet (w : EdgeWindow) (start : ℤ) (ts : List ℤ) (edge : ℤ) : Type 0 where
  pub before : List ℤ
  pub time : ℤ
  pub behind : List ℤ
  pub parts : ts ≡ before ++ time ∷ behind
  pub emits : edge_behind w start before ≤ℤ time
  pub next : edge ≡ following w time
  pub waits : All (λ t. t <ℤ edge) behind

-- behind a first edge and these times: the first edge still waits, since all are before it, or one of them set this
-- edge
abbrev pub Waits : EdgeWindow → ℤ → List ℤ → ℤ → Type 0
Waits w start ts edge = ((edge ≡ start) × All (λ t. t <ℤ edge) ts) ⊎ IsSet w start ts edge
