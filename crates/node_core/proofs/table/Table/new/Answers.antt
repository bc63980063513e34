use Rattle.std.proofs.Common.{ap}
use Rattle.std.specs.FinMap.{from_entries}
use Rattle.kap_base.specs.Maps.{byte_order}
use Rattle.node_core.proofs.table.Table.new.Goals as goal

pub returns : goal.returns
returns g c = ap (from_entries {R = byte_order}) c.with_hasher.ensures.empty
