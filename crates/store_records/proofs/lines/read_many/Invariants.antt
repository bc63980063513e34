use Rattle.state_code.proofs.Loops.{Taken}
use Rattle.store_records.specs.Lines.{read_point}
use Rattle.store_records.proofs.lines.read_many.Given as goal

abbrev pub invariant-reading : goal.invariant-reading
invariant-reading l = Taken (read_point l.db l.rp) l.count l.counter l.points l.fn.from l.from
