use Rattle.kap_io.specs.declared.disk.Part.TheVariants.{Head}
use Rattle.gate_log.proofs.Exact.{no_head_there, run_there}
use Rattle.gate_log.proofs.head.read_head.Goals as goal

pub returns-clause-run : goal.returns-clause-run
returns-clause-run g c = λ tells run head. run_there run (g.D.Disk.seen c.args.disk.now Head) _ (c.count_gates.ensures.found tells) head

pub returns-clause-header : goal.returns-clause-header
returns-clause-header g c = λ tells none. no_head_there (g.D.Disk.seen c.args.disk.now Head) _ (c.count_gates.ensures.found tells) none
