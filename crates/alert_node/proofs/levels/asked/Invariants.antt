use Rattle.std.proofs.Common.{◌≡◌, length}
use Rattle.alert_node.specs.Asking.{asked}
use Rattle.alert_node.specs.Watches.{truth_of}
use Rattle.alert_node.proofs.levels.asked.Given as goal

-- the alert is as it was, and what is left gives the whole
abbrev pub invariant-asking : goal.invariant-asking
invariant-asking l = record {
  kept : l.alert ≡ l.fn.alert;
  same : asked (truth_of l.fn.alert l.watch l.point) l.rest l.tally ≡ asked (truth_of l.fn.alert l.watch l.point) l.asks l.watch;
}

abbrev pub decreases-asking : goal.decreases-asking
decreases-asking l = length l.rest
