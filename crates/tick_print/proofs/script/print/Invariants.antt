use Rattle.std.proofs.Common.{◌≡◌, ◌++◌, drop, string_bytes}
use Rattle.tick_parser.specs.Trees.{script_tree}
use Rattle.tick_print.specs.Print.{script_text}
use Rattle.tick_print.proofs.script.print.Given as goal

-- What was written and the text of the statements that are left are the whole text.
abbrev pub invariant-stmts : goal.invariant-stmts
invariant-stmts l = string_bytes l.out ++ script_text (script_tree (drop l.stmt-index l.tree)) ≡ script_text (script_tree l.tree)
