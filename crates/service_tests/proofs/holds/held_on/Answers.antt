use denote.Exit.{no}
use denote.Param.{param}
use denote.Param.Send.{arg_send, param_send}
use Rattle.lambda_types.proofs.patterns.RegexPatterns.TheSendSync as RegexPatterns_
use Rattle.lambda_types.specs.contracts.patterns.RegexPatterns as RegexPatterns
use Rattle.service_engine.proofs.Crossing.{DiskEngine_send}
use Rattle.service_tests.proofs.holds.held_on.Goals as goal

pub held-requires-send-E : goal.held-requires-send-E
held-requires-send-E g c κs within = param_send 0 _ (arg_send _ no _ (DiskEngine_send (param 0 g.row.D) RegexPatterns.the_row (param 1 g.row.R) c.type_bounds.send-D RegexPatterns_.the_send))
