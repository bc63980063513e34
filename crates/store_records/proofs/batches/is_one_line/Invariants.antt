use Rattle.std.proofs.Common.{◌≡◌, take}
use Rattle.kap_base.specs.Texts.{has_line_feed}
use Rattle.store_records.proofs.batches.is_one_line.Given as goal

abbrev pub invariant-looking : goal.invariant-looking
invariant-looking l = l.found ≡ has_line_feed (take l.byte-index l.bytes)
