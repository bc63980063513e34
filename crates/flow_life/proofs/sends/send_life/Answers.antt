use denote.Exit.{no}
use denote.Param.{param}
use denote.Param.Send.{param_send, arg_send}
use Rattle.flow_life.proofs.Crossing.{Life_send}
use Rattle.flow_life.proofs.sends.send_life.Goals as goal

pub hand_on-requires-send-T : goal.hand_on-requires-send-T
hand_on-requires-send-T g c κs within = param_send 0 _ (arg_send _ no _ (Life_send _ (param 1 g.row.N-Spec) (param 2 g.row.N-State) _ c.type_bounds.send-N))
