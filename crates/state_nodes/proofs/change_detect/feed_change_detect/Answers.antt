use Rattle.std.proofs.Common.{sym}
use Rattle.state_nodes.proofs.ChangeLaws.{kept_is}
use Rattle.state_nodes.proofs.change_detect.feed_change_detect.Goals as goal

pub returns-then-not-is_change-clause-kept : goal.returns-then-not-is_change-clause-kept
returns-then-not-is_change-clause-kept c = kept_is c.args.names.now c.args.kept.now c.args.point (rw c.value.ensures at (sym c.if-not-is_change.ensures))
