use denote.Exit.{no}
use denote.Param.{param}
use denote.Param.Send.{arg_send, param_send}
use Rattle.kap_io.proofs.mem_disk.MemDisk.TheSendSync as MemDisk_
use Rattle.kap_io.specs.contracts.mem_disk.MemDisk as MemDisk
use Rattle.lambda_types.proofs.patterns.RegexPatterns.TheSendSync as RegexPatterns_
use Rattle.lambda_types.specs.contracts.patterns.RegexPatterns as RegexPatterns
use Rattle.service_engine.proofs.Crossing.{DiskEngine_send}
use Rattle.service_tests.proofs.one_post.stores_two.Goals as goal

pub day-requires-send-E : goal.day-requires-send-E
day-requires-send-E g c κs within = param_send 0 _ (arg_send _ no _ (DiskEngine_send MemDisk.the_row RegexPatterns.the_row (param 0 g.row.R) MemDisk_.the_send RegexPatterns_.the_send))
