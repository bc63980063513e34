use Rattle.std.proofs.Common.{◌≡◌, ◌++◌}
use Rattle.node_core.specs.Numbering.{items_at}
use Rattle.node_core.proofs.numbered.give_more_items.Given as goal

abbrev pub invariant-giving : goal.invariant-giving
invariant-giving l = l.out ≡ l.fn.out ++ items_at l.stamp l.yielded
