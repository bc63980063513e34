use Rattle.std.proofs.Common.{◌≡◌, ◌≤◌, drop}
use Rattle.task_graph.specs.Graphs.{fault_from, first_graph_fault}
use Rattle.task_graph.specs.declared.graph.TheConstants.{NODE_LIMIT}
use Rattle.task_graph.proofs.graph.first_fault.Given as goal

-- From here what is left has the fault of the whole, and a node behind the last has one.
abbrev pub invariant-checking : goal.invariant-checking
invariant-checking l = record {
  number : l.number ≡ l.node-index;
  few : l.number ≤ NODE_LIMIT;
  same : fault_from l.nodes l.number (drop l.node-index l.nodes) ≡ first_graph_fault l.nodes;
}
