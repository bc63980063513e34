use Rattle.std.proofs.Common.{Err, ap, arith}
use Rattle.recording_file.proofs.PointLaws.{named_text, named_not}
use Rattle.recording_file.proofs.group.set_name.Goals as goal

pub returns-then-is_text-clause-set : goal.returns-then-is_text-clause-set
returns-then-is_text-clause-set c = (named_text c.args.line.now c.args.name.now (omega arith) c.if-is_text.ensures.utf8 c.if-is_text.ensures.same, c.if-is_text.ensures.same)

pub returns-in-Ok-clause-set : goal.returns-in-Ok-clause-set
returns-in-Ok-clause-set c = (named_text c.args.line.now c.in-Ok.text (omega arith) c.in-Ok.ensures.utf8 c.in-Ok.ensures.text, c.in-Ok.ensures.text)

pub returns-in-Err-NotUtf8-clause-fault : goal.returns-in-Err-NotUtf8-clause-fault
returns-in-Err-NotUtf8-clause-fault c = λ _. named_not c.args.line.now (omega arith) (c.in-Err-NotUtf8.ensures.not_utf8 (ap Err c.in-Err-NotUtf8.field-0-is))
