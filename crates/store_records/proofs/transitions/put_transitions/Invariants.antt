use Rattle.std.proofs.Common.{length, take}
use Rattle.std.specs.Int.{w32}
use Rattle.state_code.specs.Spelling.{spell_number}
use Rattle.state_code.proofs.Loops.{Put}
use Rattle.store_records.specs.Transitions.{FitsTransition, spell_transition}
use Rattle.store_records.proofs.transitions.put_transitions.Given as goal

abbrev pub invariant-putting : goal.invariant-putting
invariant-putting l = Put FitsTransition spell_transition l.fn.to (spell_number w32 (length l.transitions)) (take l.transition-index l.transitions) l.to
