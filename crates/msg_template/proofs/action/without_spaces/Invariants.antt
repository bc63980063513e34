use Rattle.std.proofs.Common.{◌≡◌, length}
use Rattle.msg_template.specs.Actions.{without_spaces}
use Rattle.msg_template.proofs.action.without_spaces.Given as goal

-- the spaces at the front of the rest are still to be passed
abbrev pub invariant-spaces : goal.invariant-spaces
invariant-spaces l = without_spaces l.rest ≡ without_spaces l.bytes

abbrev pub decreases-spaces : goal.decreases-spaces
decreases-spaces l = length l.rest
