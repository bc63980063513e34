-- What a net at rest has carried since its load is whole.
use Rattle.std.specs.List.{AllByRecursion as Each}
use Rattle.node_core.specs.declared.node.Node.{Ghosts}
use Rattle.flow_core.specs.Nets.{HasStreamsCarried, IsLifeIn, NetValue}

-- Cells keep what those of a life keep, and since the load each edge has carried its stream.
pub record IsWhole {N P S : Type 0} (g : Ghosts N P S) (net : NetValue N) : Type 0 where
  pub kept : Each (IsLifeIn g) net.lives
  pub streams : Each (HasStreamsCarried g) net.lives
