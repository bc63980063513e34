use Rattle.std.proofs.Common.{◌≡◌, drop}
use Rattle.tick_parser.specs.Trees.{script_tree}
use Rattle.tick_vars.specs.Binding.{at_first, bound_stmts}
use Rattle.tick_vars.specs.Making.{made_by}
use Rattle.tick_vars.proofs.binder.bind_all.Given as goal

-- From here what is left gives what the whole gives from the start.
abbrev pub invariant-binding : goal.invariant-binding
invariant-binding l = bound_stmts (made_by l.binder) (script_tree (drop l.stmt-index l.stmts)) ≡ bound_stmts at_first (script_tree l.stmts)
