use Rattle.std.proofs.Common.{◌≡◌, ◌+◌, ◌-◌, ◌++◌, length, drop}
use Rattle.task_run.specs.Graphs.{stamped_from}
use Rattle.flow_core.specs.Messages.{marked, stamped_up_to}
use Rattle.flow_core.proofs.loads.messages.Given as goal

-- the messages of the points that were passed, and behind them those of the others, are all
abbrev pub invariant-stamping : goal.invariant-stamping
invariant-stamping l = record {
  stamp : l.stamp ≡ l.fn.upto.0 - length l.fn.points + l.point-index;
  made : l.msgs.items ++ marked (stamped_from (l.stamp + 1) (drop l.point-index l.fn.points)) l.rest ≡ marked (stamped_up_to l.fn.upto l.fn.points) l.fn.marks;
}
