use Rattle.kap_server.proofs.CheckLaws.{some_status, one_status}
use Rattle.kap_server.proofs.laws.texts_check_in_one_way.Goals as goal

pub returns-clause-some : goal.returns-clause-some
returns-clause-some c = some_status

pub returns-clause-one : goal.returns-clause-one
returns-clause-one c = one_status
