use denote.Exit.{no}
use denote.Param.Send.{arg_send, param_send}
use Rattle.node_set.proofs.Crossing.{AnyNode_send}
use Rattle.service_engine.proofs.disk_engine.DiskEngineEngine.spent.Goals as goal

pub is_spent-requires-send-N : goal.is_spent-requires-send-N
is_spent-requires-send-N g c κs = param_send 0 _ (arg_send _ no _ AnyNode_send)
