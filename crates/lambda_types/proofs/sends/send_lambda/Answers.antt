use denote.Exit.{no}
use denote.Param.Send.{param_send, arg_send}
use Rattle.lambda_types.proofs.Crossing.{Lambda_send}
use Rattle.lambda_types.proofs.sends.send_lambda.Goals as goal

pub hand_on-requires-send-T : goal.hand_on-requires-send-T
hand_on-requires-send-T c κs = param_send 0 _ (arg_send _ no _ Lambda_send)
