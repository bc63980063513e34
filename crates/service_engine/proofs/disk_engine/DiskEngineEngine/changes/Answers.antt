use denote.Exit.{no}
use denote.Param.Send.{arg_send, param_send}
use Rattle.node_set.proofs.Crossing.{AnyNode_send}
use Rattle.service_engine.proofs.disk_engine.DiskEngineEngine.changes.Goals as goal

pub changes_in-requires-send-N : goal.changes_in-requires-send-N
changes_in-requires-send-N g c κs = param_send 0 _ (arg_send _ no _ AnyNode_send)
