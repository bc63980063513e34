-- How many points an epoch has.
use Rattle.std.specs.Prelude.{◌≡◌, ℕ, ◌-◌, List, ◌++◌, length}
use Rattle.kap_base.specs.Points.{PointValue}
use Rattle.kap_base.specs.declared.items.Effect.{Effect}
use Rattle.node_core.specs.Meaning.{Answer}
use Rattle.net_run.specs.Paces.{next_limit}
use Rattle.task_run.specs.Graphs.{Placed}
use Rattle.task_run.specs.Lives.{effects_of}

-- Behind an epoch of these points, whose effects and text come behind those of the others, so many points may the next
-- one have, where it could have this many.
abbrev pub Paces : {P : Type 0} → (P → Answer) → List (List (Placed P)) → List PointValue → List PointValue → List ℕ
    → List ℕ → ℕ → ℕ → Type 0
Paces answer lives points new due due_after limit next =
    (effects : List Effect) → effects_of answer lives (points ++ new) ≡ effects_of answer lives points ++ effects
    → next ≡ next_limit limit (length new) (length effects) (length due_after - length due)
