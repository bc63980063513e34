use Rattle.tick_print.proofs.Again.{text_again}
use Rattle.tick_print.proofs.law.print_is_read_again.Goals as goal

pub returns : goal.returns
returns c = text_again
