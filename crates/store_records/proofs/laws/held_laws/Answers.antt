use Rattle.store_records.proofs.OrderLaws.{in_order}
use Rattle.store_records.proofs.laws.held_laws.Goals as goal

pub returns : goal.returns
returns c rs follow = in_order rs follow
