use Rattle.std.proofs.Common.{arith}
use Rattle.gate_log.proofs.Filling.{reads_on}
use Rattle.gate_log.proofs.read.read_on.Goals as goal

pub returns-clause-bytes : goal.returns-clause-bytes
returns-clause-bytes g c = λ tells. reads_on c.args.at c.args.count _ _ c.args.buf.now c.read.new.buf _ (omega arith) (c.in_ok-more.ensures.bound)
    (c.in_ok-more.ensures.bytes tells)
