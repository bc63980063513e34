use denote.Exit.{no}
use denote.Param.Send.{param_send, arg_send}
use Rattle.node_set.proofs.Crossing.{AnyNode_send}
use Rattle.node_set.proofs.sends.send_any_node.Goals as goal

pub hand_on-requires-send-T : goal.hand_on-requires-send-T
hand_on-requires-send-T c κs = param_send 0 _ (arg_send _ no _ AnyNode_send)
