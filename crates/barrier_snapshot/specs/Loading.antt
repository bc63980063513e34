-- Lives whose nodes take the states that bytes hold.
use Rattle.std.specs.Prelude.{◌≡◌, ℕ, List, ◌++◌, map}
use Rattle.std.specs.List.{AllZip}
use Rattle.node_core.specs.declared.node.Node.{Ghosts}
use Rattle.state_code.specs.Places.{Passes, Place}
use Rattle.task_run.specs.Plans.{PlanValue}
use Rattle.barrier_snapshot.specs.Captures.{IsCapture, in_lives}
use Rattle.barrier_snapshot.specs.Reading.{read_each}

module _ {N P : Type 0} (spec : N → P) where
  -- the same life, whose nodes may be in other states
  pub record IsSameLife (plan other : PlanValue N) : Type 0 where
    pub life : other.life ≡ plan.life
    pub specs : map spec other.nodes ≡ map spec plan.nodes
    pub parents : other.parents ≡ plan.parents

module _ {N P S : Type 0} (g : Ghosts N P S) where
  -- lives whose nodes took the states that stand at a place were put behind others
  pub record LoadsLives (plans : List (PlanValue N)) (old new : Place)
      (before after : List (PlanValue N)) : Type 0 where
    pub loaded : List (PlanValue N)
    pub added : after ≡ before ++ loaded
    pub same : AllZip (IsSameLife g.spec) plans loaded
    pub passes : Passes (read_each g.read (in_lives g.spec plans)) old new (in_lives g.state loaded)

  -- the same lives, whose nodes are in the states that the bytes hold
  pub record AreInStates (plans : List (PlanValue N)) (bytes : List ℕ) (loaded : List (PlanValue N)) : Type 0 where
    pub same : AllZip (IsSameLife g.spec) plans loaded
    pub states : IsCapture g.fits g.spell (in_lives g.spec plans) (in_lives g.state loaded) bytes
