use Rattle.std.proofs.Common.{◌≡◌}
use Rattle.node_core.specs.Cut.{AllAtPorts}
use Rattle.node_core.proofs.RunLaws.{Ran}
use Rattle.node_core.proofs.runs.run.Given as goal

abbrev pub invariant-feeding : goal.invariant-feeding
invariant-feeding g l =
    let node = g.N.Node in record {
      spec : node.spec l.node ≡ node.spec l.fn.node;
      ports : AllAtPorts (node.ports (node.spec l.fn.node)) l.port-iterator.rest.items;
      ran : Ran (node.step (node.spec l.fn.node)) (node.first (node.spec l.fn.node)) l.yielded (node.state l.node) l.fn.out l.out l.fn.effects l.effects;
    }
