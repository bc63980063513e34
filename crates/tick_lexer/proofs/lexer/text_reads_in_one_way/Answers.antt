use Rattle.tick_lexer.proofs.Texts.{one_list, one_fault, not_both, some_answer}
use Rattle.tick_lexer.proofs.lexer.text_reads_in_one_way.Goals as goal

pub returns : goal.returns
returns c = record { tokens = one_list; fault = one_fault; not_both = not_both; some = some_answer }
