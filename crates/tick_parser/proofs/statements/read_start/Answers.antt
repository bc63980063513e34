use Rattle.std.proofs.Common.{rules, tests}
use Rattle.tick_parser.proofs.Stacks.{script_length}
use Rattle.tick_parser.proofs.statements.read_start.Goals as goal

pub returns-in_ok-copy-in-Ident : goal.returns-in_ok-copy-in-Ident
returns-in_ok-copy-in-Ident c = search (rules, tests, script_length) depth 60 fits 40000
