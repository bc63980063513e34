use denote.Exit.{no}
use denote.Param.{param}
use denote.Param.Send.{arg_send, param_send}
use Rattle.service_engine.proofs.Crossing.{DiskEngine_send}
use Rattle.service_engine.proofs.sends.send_engine.Goals as goal

pub hand_on-requires-send-T : goal.hand_on-requires-send-T
hand_on-requires-send-T g c κs within = param_send 0 _ (arg_send _ no _ (DiskEngine_send (param 0 g.row.D) (param 1 g.row.P) (param 2 g.row.R) c.type_bounds.send-D c.type_bounds.send-P))
