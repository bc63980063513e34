use Rattle.std.proofs.Common.{refl}
use Rattle.store_records.proofs.BatchLaws.{no_line}
use Rattle.store_records.proofs.fronts.line_text.Goals as goal

pub returns-in-Err-NotUtf8 : goal.returns-in-Err-NotUtf8
returns-in-Err-NotUtf8 c = rw (no_line c.args.bytes.now (c.from_bytes.ensures.not_utf8 (rw c.in-Err-NotUtf8.field-0-is at c.in-Err-NotUtf8.is))) refl
