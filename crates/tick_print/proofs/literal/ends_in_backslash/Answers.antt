use Rattle.tick_print.proofs.Escaping.{ends_behind}
use Rattle.tick_print.proofs.literal.ends_in_backslash.Goals as goal

pub returns-in-Some : goal.returns-in-Some
returns-in-Some c = let split = c.in-Some.ensures.cases in ends_behind 92 c.in-Some.last.now c.in-Some.field-0-1.now c.args.text.now split.0
