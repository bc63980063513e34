use Rattle.store_lists.proofs.ExportLaws.{read_again_as_stored}
use Rattle.store_lists.proofs.laws.exports_are_read_again.Goals as goal

pub returns : goal.returns
returns c = read_again_as_stored c.records_are_read_again.ensures
