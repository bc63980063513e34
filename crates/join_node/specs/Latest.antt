-- The greatest of rounded times, in words.
use Rattle.std.specs.Prelude.{◌≡◌, ℤ, false, List, IsTrue, int_lt}
use Rattle.std.specs.List.{list_any}
use Rattle.std.specs.Ordering.{int_eq}
use Rattle.node_core.specs.Groups.{Came}
use Rattle.task_graph.specs.declared.spec.JoinSpec.{JoinSpec}
use Rattle.join_node.specs.Joins.{rounded}

-- some point has this rounded time, and none has a greater one
pub record IsGreatest (j : JoinSpec) (cs : List Came) (time : ℤ) : Type 0 where
  pub there : IsTrue (list_any (λ c. int_eq (rounded j c) time) cs)
  pub above : list_any (λ c. int_lt time (rounded j c)) cs ≡ false
