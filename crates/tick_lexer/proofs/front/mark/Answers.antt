use Rattle.std.proofs.Common.{arith}
use Rattle.tick_lexer.proofs.Scans.{cut_behind}
use Rattle.tick_lexer.proofs.front.mark.Goals as goal

pub split_at-requires : goal.split_at-requires
split_at-requires c = cut_behind c.args.text.now c.args.at c.args.byte c.utf8.text c.requires.place c.requires.byte (omega arith)

pub split_at-requires-then-byte-eq34 : goal.split_at-requires-then-byte-eq34
split_at-requires-then-byte-eq34 c = cut_behind c.args.text.now c.args.at c.args.byte c.utf8.text c.requires.place c.requires.byte (omega arith)

pub split_at-requires-then-pattern : goal.split_at-requires-then-pattern
split_at-requires-then-pattern c = cut_behind c.args.text.now c.args.at c.args.byte c.utf8.text c.requires.place c.requires.byte (omega arith)
