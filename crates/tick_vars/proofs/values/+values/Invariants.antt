use Rattle.std.proofs.Common.{◌≡◌, ◌≤◌, []}
use Rattle.tick_parser.specs.Trees.{joints_tree, vals_tree}
use Rattle.tick_parser.specs.declared.script.Links.{size-Links}
use Rattle.tick_parser.specs.declared.script.Vals.{size-Vals}
use Rattle.tick_vars.specs.Binding.{bound_links, bound_vals}
use Rattle.tick_vars.specs.Names.{scope_of}
use Rattle.tick_vars.specs.Nodes.{arg_trees, node_trees}
use Rattle.tick_vars.proofs.values.+values.Given as goal

-- From here what is left gives what the whole gives from the start.
abbrev pub invariant-bind_links-loop-rest : goal.invariant-bind_links-loop-rest
invariant-bind_links-loop-rest l = record {
  no_deeper : size-Links l.rest ≤ size-Links l.fn.links;
  same : bound_links (scope_of l.names) (record { value = l.last; nodes = node_trees l.nodes.items }) (joints_tree l.rest)
      ≡ bound_links (scope_of l.names) (record { value = l.fn.number; nodes = node_trees l.fn.nodes.items }) (joints_tree l.fn.links);
}

abbrev pub invariant-bind_vals-loop-rest : goal.invariant-bind_vals-loop-rest
invariant-bind_vals-loop-rest l = record {
  no_deeper : size-Vals l.rest ≤ size-Vals l.fn.vals;
  same : bound_vals (scope_of l.names) (record { value = arg_trees l.args; nodes = node_trees l.nodes.items }) (vals_tree l.rest)
      ≡ bound_vals (scope_of l.names) (record { value = []; nodes = node_trees l.fn.nodes.items }) (vals_tree l.fn.vals);
}
