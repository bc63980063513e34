use denote.Exit.{no}
use denote.Param.Send.{arg_send, param_send}
use Rattle.node_set.proofs.Crossing.{AnyNode_send}
use Rattle.service_engine.proofs.disk_engine.DiskEngineEngine.transitions.Goals as goal

pub read_behind-requires-send-N : goal.read_behind-requires-send-N
read_behind-requires-send-N g c κs within = param_send 1 _ (arg_send _ no _ AnyNode_send)
