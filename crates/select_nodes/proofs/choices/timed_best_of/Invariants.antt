use Rattle.std.proofs.Common.{◌≡◌, map}
use Rattle.select_nodes.specs.Choices.{timed_reading}
use Rattle.select_nodes.proofs.choices.timed_best_of.Given as goal

abbrev pub invariant-timing : goal.invariant-timing
invariant-timing l = l.picks.items ≡ map (timed_reading l.spec.use_point_times l.tmax) l.yielded
