use Rattle.std.proofs.Common.{◌≡◌}
use Rattle.std.specs.FinMap.{entries}
use Rattle.topic_core.specs.Topics.{greatest_level, worst_level}
use Rattle.reply_bodies.proofs.topics.greatest.Given as goal

-- the rest is still to be compared
abbrev pub invariant-levels : goal.invariant-levels
invariant-levels l = worst_level l.greatest l.level-iterator ≡ greatest_level (entries l.ids)
