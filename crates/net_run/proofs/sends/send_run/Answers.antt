use denote.Exit.{no}
use denote.Param.{param}
use denote.Param.Send.{param_send, arg_send}
use Rattle.net_run.proofs.Crossing.{NetRun_send}
use Rattle.net_run.proofs.sends.send_run.Goals as goal

pub hand_on-requires-send-T : goal.hand_on-requires-send-T
hand_on-requires-send-T g c κs within = param_send 0 _ (arg_send _ no _ (NetRun_send _ (param 1 g.row.N-Spec) (param 2 g.row.N-State) _ c.type_bounds.send-N))
