-- A net in the states that bytes hold.
use Rattle.std.specs.Prelude.{◌≡◌, ℕ, false, List, []}
use Rattle.std.specs.List.{AllByRecursion as Each}
use Rattle.kap_base.specs.declared.items.Stamp.{Stamp}
use Rattle.node_core.specs.declared.node.Node.{Ghosts}
use Rattle.task_run.specs.Plans.{PlanValue}
use Rattle.flow_core.specs.Making.{AreLivesBehind}
use Rattle.flow_core.specs.Nets.{IsResting, NetValue}
use Rattle.barrier_snapshot.specs.Loading.{AreInStates}

module _ {N P S : Type 0} (g : Ghosts N P S) where
  -- A net of these lives, at rest behind a barrier, whose nodes are in the states that the bytes hold, each also the
  -- one at the barrier.
  pub record Restores (plans : List (PlanValue N)) (there : Stamp) (bytes : List ℕ) (net : NetValue N) : Type 0 where
    pub loaded : List (PlanValue N)
    pub are : AreInStates g plans bytes loaded
    pub lives : AreLivesBehind g there.0 loaded net.lives
    pub rest : Each IsResting net.lives
    pub gathered : net.gathered ≡ []
    pub last : net.last ≡ there
    pub unspent : net.spent ≡ false
