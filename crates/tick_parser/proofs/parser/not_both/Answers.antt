use Rattle.tick_parser.proofs.Reading.{not_both}
use Rattle.tick_parser.proofs.parser.not_both.Goals as goal

pub returns : goal.returns
returns c = λ tokens script fault h refused. not_both 64 512 4096 tokens script fault h.0 h.1 refused
