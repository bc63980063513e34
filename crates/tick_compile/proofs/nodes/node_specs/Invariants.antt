use Rattle.std.proofs.Common.{◌≡◌, []}
use Rattle.std.specs.Vec.Iter.{into_iter_items}
use Rattle.tick_compile.specs.Nodes.{specs_from}
use Rattle.tick_compile.proofs.nodes.node_specs.Given as goal

abbrev pub invariant-reading : goal.invariant-reading
invariant-reading g l = specs_from l.fn.dbrps l.specs (into_iter_items l.node-iterator) ≡ specs_from l.fn.dbrps [] l.fn.nodes
