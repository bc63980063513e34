use Rattle.std.proofs.Common.{◌≡◌, ◌++◌, drop, map}
use Rattle.tick_vars.specs.Nodes.{arg_trees}
use Rattle.tick_compile.specs.Typing.{given_of}
use Rattle.tick_compile.proofs.untyped.untyped_args.Given as goal

abbrev pub invariant-copying : goal.invariant-copying
invariant-copying l = l.givens ++ map given_of (arg_trees (drop l.arg-index l.args)) ≡ map given_of (arg_trees l.args)
