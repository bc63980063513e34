use Rattle.gate_log.proofs.Onward.{refused}
use Rattle.gate_log.proofs.reader.read_log.Goals as goal

pub returns-clause-header : goal.returns-clause-header
returns-clause-header g c = λ tells none.
    refused (g.D.Disk.seen c.args.disk.now) (g.D.Disk.may_leave c.begin.new.disk) c.args.part c.begin.result c.begin.ensures.reader (c.begin.ensures.found tells) none
