use denote.Exit.{no}
use denote.Param.Send.{param_send, arg_send}
use Rattle.edge_queue.proofs.Crossing.{Head_send}
use Rattle.edge_queue.proofs.sends.send_head.Goals as goal

pub hand_on-requires-send-T : goal.hand_on-requires-send-T
hand_on-requires-send-T c κs = param_send 0 _ (arg_send _ no _ Head_send)
