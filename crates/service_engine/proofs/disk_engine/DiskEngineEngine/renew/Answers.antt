use denote.Exit.{no}
use denote.Param.Send.{arg_send, param_send}
use Rattle.node_set.proofs.Crossing.{AnyNode_send}
use Rattle.service_engine.proofs.disk_engine.DiskEngineEngine.renew.Goals as goal

pub renew_by-requires-send-N : goal.renew_by-requires-send-N
renew_by-requires-send-N g c κs within = param_send 2 _ (arg_send _ no _ AnyNode_send)
