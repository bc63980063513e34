use Rattle.std.proofs.Common.{[], sym, subst}
use Rattle.std.specs.declared.result.Result.TheVariants.{Err}
use Rattle.kap_io.specs.Disk.{Image}
use Rattle.kap_io.specs.declared.disk.Part.{Part}
use Rattle.gate_log.specs.Readers.{HasRead}
use Rattle.topic_store.specs.Opening.{ReadsOrNot}
use Rattle.topic_store.specs.declared.fault.StoreFault.{StoreFault}
use Rattle.topic_store.proofs.Found.{log_refused}
use Rattle.topic_store.proofs.opening.open_part.Goals as goal

pub returns-in-Err-clause-found : goal.returns-in-Err-clause-found
returns-in-Err-clause-found g c = λ tells.
    subst (λ (f : StoreFault). ReadsOrNot c.args.part (g.D.Disk.seen c.args.disk.now) (g.D.Disk.may_leave c.read_log.new.disk) (Err f)) (sym c.fault_in.ensures)
    (log_refused c.args.part (g.D.Disk.seen c.args.disk.now) (g.D.Disk.may_leave c.read_log.new.disk) (g.D.Disk.may_leave c.read_log.new.disk) _
    (c.in-Err.ensures.found tells))

pub returns-in-Ok-clause-found : goal.returns-in-Ok-clause-found
returns-in-Ok-clause-found g c = λ tells.
    let left = g.D.Disk.may_leave c.read_records.new.disk in
    let reads = (c.read_log.ensures.quiet tells).reads in
    let found = subst (λ (i : Image). ReadsOrNot c.in-Ok.reader.part i left c.read_records.result) reads
    (c.read_records.ensures.found tells (subst (λ (i : Image). HasRead [] i (g.D.Disk.may_leave c.read_log.new.disk) c.in-Ok.reader) (sym reads) (c.in-Ok.ensures.found tells))) in
    subst (λ (p : Part). ReadsOrNot p (g.D.Disk.seen c.args.disk.now) left c.read_records.result) c.in-Ok.ensures.reader found
