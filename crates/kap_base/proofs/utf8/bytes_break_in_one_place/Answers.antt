use Rattle.kap_base.proofs.Utf8Laws.{breaks_there, one_place}
use Rattle.kap_base.proofs.utf8.bytes_break_in_one_place.Goals as goal

pub returns-clause-place : goal.returns-clause-place
returns-clause-place c = breaks_there

pub returns-clause-one : goal.returns-clause-one
returns-clause-one c = one_place
