-- A life may go to another thread where its node may.
use denote.RattleType.{RattleType}
use denote.Param.Send.{IsSend, struct_send, recorded_send, view_send, sendable}
use denote.Struct.Declared as Declared
use Rattle.std.proofs.Crossing.{crosses}
use Rattle.flow_cells.proofs.Crossing.{Cell_send}
use Rattle.node_core.specs.declared.node.Node as Node
use Rattle.flow_life.specs.contracts.life.Life as Life
use Rattle.flow_life.specs.contracts.life.Life.TheInside as Inside

pub Life_send : (N P S : RattleType) (g : Node.Ghosts N.Denot P.Denot S.Denot) → IsSend N → IsSend (Life.the_row N P S g)
Life_send N P S g s =
    view_send (Inside.the_row N P S g) _ _ _ _
    (recorded_send (Inside.the_field N P S g).row _ _ (Inside.the_type N P S g).to_one (struct_send (Declared.shape (Inside.the_type N P S g)) (search (crosses, sendable, Cell_send N P S g s) depth 60 fits 20000, (search sendable, tt))))
