use Rattle.std.proofs.Common.{◌≡◌, ◌≤◌, ◌++◌, cond, string_bytes}
use Rattle.kap_base.specs.Tree.{trees_of}
use Rattle.kap_base.specs.declared.expr.Exprs.{size-Exprs}
use Rattle.tick_print.specs.Print.{args_text, further_text}
use Rattle.tick_print.proofs.expr.+print.Given as goal

-- What was written and the text of what is left are the whole text.
abbrev pub invariant-write_args-loop-rest : goal.invariant-write_args-loop-rest
invariant-write_args-loop-rest l = record {
  no_deeper : size-Exprs l.rest ≤ size-Exprs l.fn.args;
  same : string_bytes l.out ++ cond l.is_first (args_text (trees_of l.rest)) (further_text (trees_of l.rest)) ≡ string_bytes l.fn.out ++ args_text (trees_of l.fn.args);
}
