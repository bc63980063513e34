use Rattle.std.proofs.Common.{◌≡◌, length}
use Rattle.basic_nodes.specs.Defaults.{with_defaults}
use Rattle.basic_nodes.proofs.defaults.set_all.Given as goal

abbrev pub invariant-setting : goal.invariant-setting
invariant-setting l = with_defaults l.rest l.point ≡ with_defaults l.settings l.fn.point

abbrev pub decreases-setting : goal.decreases-setting
decreases-setting l = length l.rest
