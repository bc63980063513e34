use denote.Exit.{no}
use denote.Param.Send.{param_send, arg_send}
use Rattle.node_set.proofs.Crossing.{AnyNode_send}
use Rattle.kapd.proofs.main.Goals as goal

pub answer-requires-send-N : goal.answer-requires-send-N
answer-requires-send-N g c κs = param_send 1 _ (arg_send _ no _ AnyNode_send)
