use Rattle.tick_parser.proofs.Reading.{one_tree}
use Rattle.tick_parser.proofs.parser.one_tree.Goals as goal

pub returns : goal.returns
returns c = one_tree
