-- A part of a replay may go to another thread where its nodes may.
use denote.RattleType.{RattleType}
use denote.Param.Send.{IsSend, struct_send, recorded_send, sendable}
use denote.Struct.Declared as Declared
use Rattle.effect_text.proofs.printing.Printed.TheSendSync as Printed_
use Rattle.node_core.specs.declared.node.Node as Node
use Rattle.net_run.proofs.Crossing.{NetRun_send}
use Rattle.kap_server.specs.contracts.parts.Part as Part

pub Part_send : (N P S : RattleType) (g : Node.Ghosts N.Denot P.Denot S.Denot) → IsSend N → IsSend (Part.the_row N P S g)
Part_send N P S g s =
    recorded_send (Part.the_field N P S g).row _ _ (Part.the_type N P S g).to_one (struct_send (Declared.shape (Part.the_type N P S g)) (
      NetRun_send N P S g s,
      (Printed_.the_send, (search sendable, tt)),
    ))
