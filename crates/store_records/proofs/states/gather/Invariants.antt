use Rattle.store_records.proofs.StateLoops.{Gathering}
use Rattle.store_records.proofs.states.gather.Given as goal

abbrev pub invariant-reading : goal.invariant-reading
invariant-reading l = Gathering l.count l.counter l.fn.from l.from l.states
