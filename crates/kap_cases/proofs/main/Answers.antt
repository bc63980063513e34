use denote.Exit.{no}
use denote.Param.Send.{param_send, arg_send}
use Rattle.node_set.proofs.Crossing.{AnyNode_send}
use Rattle.kap_cases.proofs.main.Goals as goal

pub run-requires-send-N : goal.run-requires-send-N
run-requires-send-N g c κs = param_send 1 _ (arg_send _ no _ AnyNode_send)
