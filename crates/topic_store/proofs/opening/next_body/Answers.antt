use Rattle.std.proofs.Common.{sym, subst}
use Rattle.std.specs.declared.result.Result.TheVariants.{Err}
use Rattle.topic_store.specs.Opening.{NextOrNot}
use Rattle.topic_store.specs.declared.fault.StoreFault.{StoreFault}
use Rattle.topic_store.proofs.Reading.{moves_found, next_found, next_refused}
use Rattle.topic_store.proofs.opening.next_body.Goals as goal

pub returns-in-Err-clause-next : goal.returns-in-Err-clause-next
returns-in-Err-clause-next g c = λ tells bodies read.
    subst (λ (f : StoreFault). NextOrNot bodies (g.D.Disk.seen c.next.new.disk) (g.D.Disk.may_leave c.next.new.disk) c.args.reader.now c.next.new.self (Err f)) (sym c.fault_at.ensures)
    (next_refused bodies (g.D.Disk.seen c.next.new.disk) (g.D.Disk.may_leave c.next.new.disk) c.args.reader.now c.next.new.self c.in-Err.fault
    c.in-Err.ensures.goes_on read.at (c.in-Err.ensures.next tells bodies read))

pub returns-in-Ok-clause-next : goal.returns-in-Ok-clause-next
returns-in-Ok-clause-next g c = λ tells bodies read.
    next_found bodies (g.D.Disk.seen c.next.new.disk) (g.D.Disk.may_leave c.next.new.disk) c.args.reader.now c.next.new.self c.in-Ok.found
    (c.in-Ok.ensures.next tells bodies read)

pub returns-in-Ok-clause-goes_on : goal.returns-in-Ok-clause-goes_on
returns-in-Ok-clause-goes_on g c = moves_found c.args.reader.now c.next.new.self c.in-Ok.found c.in-Ok.ensures.goes_on
