-- A cell may go to another thread where its node may.
use denote.RattleType.{RattleType}
use denote.Param.Send.{IsSend, struct_send, recorded_send, view_send, sendable}
use denote.Struct.Declared as Declared
use Rattle.std.proofs.Crossing.{crosses}
use Rattle.edge_queue.proofs.Crossing.{Tail_field, Head_field, snapshot_send}
use Rattle.kap_base.proofs.items.Effect.TheSendSync as Effect_
use Rattle.kap_base.proofs.items.Item.TheSendSync as Item_
use Rattle.kap_base.proofs.items.Stamp.TheSendSync as Stamp_
use Rattle.kap_base.proofs.item_list.ItemList.TheSendSync as ItemList_
use Rattle.merge_node.proofs.queue.Queue.TheSendSync as Queue_
use Rattle.merge_node.proofs.buffers.MergeBuf.TheSendSync as MergeBuf_
use Rattle.node_core.specs.declared.node.Node as Node
use Rattle.flow_cells.specs.contracts.parts.OutEdge as OutEdge
use Rattle.flow_cells.specs.contracts.parts.InEdge as InEdge
use Rattle.flow_cells.specs.contracts.parts.Core as Core
use Rattle.flow_cells.specs.contracts.parts.CellParts as CellParts
use Rattle.flow_cells.specs.contracts.cell.Cell as Cell
use Rattle.flow_cells.specs.contracts.cell.Cell.TheInside as Inside

OutEdge_field : IsSend (OutEdge.the_field).row
OutEdge_field = struct_send (Declared.shape OutEdge.the_type) (Tail_field, (search (crosses, sendable, Queue_.the_send) depth 60 fits 20000, (search sendable, (search sendable, tt))))

OutEdge_send : IsSend OutEdge.the_row
OutEdge_send = recorded_send (OutEdge.the_field).row _ _ (OutEdge.the_type).to_one OutEdge_field

InEdge_field : IsSend (InEdge.the_field).row
InEdge_field = struct_send (Declared.shape InEdge.the_type) (Head_field, (search sendable, (search sendable, tt)))

InEdge_send : IsSend InEdge.the_row
InEdge_send = recorded_send (InEdge.the_field).row _ _ (InEdge.the_type).to_one InEdge_field

Core_field : (N : RattleType) → IsSend N → IsSend (Core.the_field N).row
Core_field N s = struct_send (Declared.shape (Core.the_type N)) (
  s,
  (search (crosses, sendable, OutEdge_send) depth 60 fits 20000, (search (crosses, sendable, ItemList_.the_send, Item_.the_send) depth 60 fits 20000, (search (crosses, sendable) depth 60 fits 20000, (search (crosses, sendable, ItemList_.the_send, Effect_.the_send) depth 60 fits 20000, (search (crosses, sendable, Stamp_.the_send) depth 60 fits 20000, (search sendable, (search sendable, (search (crosses, sendable, ItemList_.the_send) depth 60 fits 20000, tt)))))))),
)

Parts_field : (N : RattleType) → IsSend N → IsSend (CellParts.the_field N).row
Parts_field N s = struct_send (Declared.shape (CellParts.the_type N)) (
  Core_field N s,
  (search (crosses, sendable, MergeBuf_.the_send) depth 60 fits 20000, (search (crosses, sendable, InEdge_send) depth 60 fits 20000, (search (crosses, sendable) depth 60 fits 20000, (snapshot_send (Core.the_row N), (search sendable, tt))))),
)

pub Cell_send : (N P S : RattleType) (g : Node.Ghosts N.Denot P.Denot S.Denot) → IsSend N → IsSend (Cell.the_row N P S g)
Cell_send N P S g s =
    view_send (Inside.the_row N P S g) _ _ _ _
    (recorded_send (Inside.the_field N P S g).row _ _ (Inside.the_type N P S g).to_one (struct_send (Declared.shape (Inside.the_type N P S g)) (Parts_field N s, tt)))
