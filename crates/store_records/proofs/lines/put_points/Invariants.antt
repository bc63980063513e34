use Rattle.std.proofs.Common.{length, take}
use Rattle.std.specs.Int.{w32}
use Rattle.state_code.specs.Spelling.{spell_number}
use Rattle.state_code.proofs.Loops.{Put}
use Rattle.store_records.specs.Lines.{FitsPoint, spell_point}
use Rattle.store_records.proofs.lines.put_points.Given as goal

abbrev pub invariant-putting : goal.invariant-putting
invariant-putting l = Put (FitsPoint l.db l.rp) spell_point l.fn.to (spell_number w32 (length l.points)) (take l.point-index l.points) l.to
