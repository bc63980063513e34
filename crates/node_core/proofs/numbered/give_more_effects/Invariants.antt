use Rattle.std.proofs.Common.{◌≡◌, ◌++◌, ◌+◌, length}
use Rattle.node_core.specs.Numbering.{effects_from}
use Rattle.node_core.proofs.numbered.give_more_effects.Given as goal

abbrev pub invariant-giving : goal.invariant-giving
invariant-giving l = record { given : l.effects ≡ l.fn.effects ++ effects_from l.life l.node l.stamp l.seq l.yielded; next : l.next ≡ l.seq + length l.yielded }
