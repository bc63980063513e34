use Rattle.std.proofs.Common.{◌≡◌, ◌≤◌, ◌++◌, cond, string_bytes}
use Rattle.tick_parser.specs.Trees.{joints_tree, vals_tree}
use Rattle.tick_parser.specs.declared.script.Links.{size-Links}
use Rattle.tick_parser.specs.declared.script.Vals.{size-Vals}
use Rattle.tick_print.specs.Print.{joints_text, more_text, vals_text}
use Rattle.tick_print.proofs.script.+print.Given as goal

-- What was written and the text of what is left are the whole text.
abbrev pub invariant-write_vals-loop-rest : goal.invariant-write_vals-loop-rest
invariant-write_vals-loop-rest l = record {
  no_deeper : size-Vals l.rest ≤ size-Vals l.fn.vals;
  same : string_bytes l.out ++ cond l.is_first (vals_text (vals_tree l.rest)) (more_text (vals_tree l.rest)) ≡ string_bytes l.fn.out ++ vals_text (vals_tree l.fn.vals);
}

abbrev pub invariant-write_links-loop-rest : goal.invariant-write_links-loop-rest
invariant-write_links-loop-rest l = record {
  no_deeper : size-Links l.rest ≤ size-Links l.fn.links;
  same : string_bytes l.out ++ joints_text (joints_tree l.rest) ≡ string_bytes l.fn.out ++ joints_text (joints_tree l.fn.links);
}
