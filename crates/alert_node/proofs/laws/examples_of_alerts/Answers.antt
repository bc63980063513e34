use Rattle.std.proofs.Common.{refl}
use Rattle.alert_node.proofs.laws.examples_of_alerts.Goals as goal

pub returns-clause-held_by_a_reset : goal.returns-clause-held_by_a_reset
returns-clause-held_by_a_reset c = refl

pub returns-clause-highest_first : goal.returns-clause-highest_first
returns-clause-highest_first c = refl

pub returns-clause-reset_decides : goal.returns-clause-reset_decides
returns-clause-reset_decides c = refl

pub returns-clause-behind_a_reset : goal.returns-clause-behind_a_reset
returns-clause-behind_a_reset c = refl

pub returns-clause-above_first : goal.returns-clause-above_first
returns-clause-above_first c = refl

pub returns-clause-each_above_ok : goal.returns-clause-each_above_ok
returns-clause-each_above_ok c = refl

pub returns-clause-changes_only : goal.returns-clause-changes_only
returns-clause-changes_only c = refl

pub returns-clause-no_recoveries : goal.returns-clause-no_recoveries
returns-clause-no_recoveries c = refl
