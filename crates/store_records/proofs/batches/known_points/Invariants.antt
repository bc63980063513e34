use Rattle.store_records.proofs.BatchLaws.{IsReading}
use Rattle.store_records.proofs.batches.known_points.Given as goal

abbrev pub invariant-reading : goal.invariant-reading
invariant-reading l = IsReading l.db l.rp l.count l.bytes l.counter l.rest l.points
