use Rattle.tick_parser.proofs.OneFault.{one_fault}
use Rattle.tick_parser.proofs.parser.one_fault.Goals as goal

pub returns : goal.returns
returns c = one_fault 64 512 4096
