-- What the edges of a net have carried since they were made.
use Rattle.std.specs.Prelude.{◌≡◌, ℕ, false, List, [], Some, map, slice_index_or}
use Rattle.std.specs.List.{AllByRecursion as Each, AllZip}
use Rattle.kap_base.specs.Points.{PointValue}
use Rattle.node_core.specs.declared.node.Node.{Ghosts}
use Rattle.merge_node.specs.Merge.{items}
use Rattle.edge_queue.specs.Edges.{ring_received}
use Rattle.flow_cells.specs.declared.parts.InEdge.{InEdge}
use Rattle.flow_cells.specs.Outs.{item_msgs}
use Rattle.flow_life.specs.Places.{in_of}
use Rattle.task_run.specs.Active.{placed}
use Rattle.task_run.specs.Graphs.{Placed, graph_gives, outs_of}
use Rattle.flow_core.specs.LifeLoads.{acts_of}
use Rattle.flow_core.specs.Nets.{IsResting, NetValue, NumberedLife}

module _ {N P S : Type 0} (g : Ghosts N P S) where
  -- its cells are these nodes, and each of its edges has carried, barriers aside, what its parent gives out for these
  -- points
  pub record LifeHasCarried (points : List PointValue) (nodes : List (Placed P)) (l : NumberedLife N) : Type 0 where
    pub nodes_are : map placed (acts_of g l.life.cells) ≡ nodes
    pub edges : (j k : ℕ) (e : InEdge) → in_of l.life.cells j k ≡ Some e
        → items (ring_received e.head)
        ≡ item_msgs (slice_index_or (outs_of (graph_gives g.answer points nodes)) e.from [])

  -- a net of lives of these nodes is at rest, and each of its edges has carried what its parent gives out for these
  -- points
  pub record HasCarried (lives : List (List (Placed P))) (points : List PointValue) (net : NetValue N) : Type 0 where
    pub unspent : net.spent ≡ false
    pub rest : Each IsResting net.lives
    pub lives_are : AllZip (LifeHasCarried points) lives net.lives
