use Rattle.std.proofs.Common.{◌≡◌, ◌++◌, drop, map}
use Rattle.tick_vars.specs.Nodes.{node_trees}
use Rattle.tick_compile.specs.Typing.{node_of}
use Rattle.tick_compile.proofs.untyped.untyped_nodes.Given as goal

abbrev pub invariant-copying : goal.invariant-copying
invariant-copying l = l.untyped ++ map node_of (node_trees (drop l.node-index l.nodes)) ≡ map node_of (node_trees l.nodes)
