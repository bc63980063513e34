use Rattle.state_code.proofs.Loops.{Taken}
use Rattle.store_records.specs.Transitions.{read_transition}
use Rattle.store_records.proofs.transitions.read_many.Given as goal

abbrev pub invariant-reading : goal.invariant-reading
invariant-reading l = Taken read_transition l.count l.counter l.transitions l.fn.from l.from
