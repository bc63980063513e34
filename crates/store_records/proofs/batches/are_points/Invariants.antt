use Rattle.store_records.proofs.BatchLaws.{Checking}
use Rattle.store_records.proofs.batches.are_points.Given as goal

abbrev pub invariant-checking : goal.invariant-checking
invariant-checking l = Checking l.db l.rp l.count l.bytes l.counter l.rest
