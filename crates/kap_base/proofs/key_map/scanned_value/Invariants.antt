use Rattle.std.proofs.Common.{◌≡◌, length}
use Rattle.std.specs.FinMap.{find}
use Rattle.kap_base.specs.Maps.{byte_order}
use Rattle.kap_base.proofs.key_map.scanned_value.Given as goal

-- what stands at the key is still for the rest to say
abbrev pub invariant-looking : goal.invariant-looking
invariant-looking g l = find byte_order l.key l.rest ≡ find byte_order l.key l.entries

abbrev pub decreases-looking : goal.decreases-looking
decreases-looking g l = length l.rest
