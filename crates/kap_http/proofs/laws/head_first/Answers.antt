use Rattle.kap_http.proofs.HeadFirstLaws.{whole_gives, none_gives, fault_gives}
use Rattle.kap_http.proofs.laws.head_first.Goals as goal

pub returns-clause-whole : goal.returns-clause-whole
returns-clause-whole c = whole_gives

pub returns-clause-waits : goal.returns-clause-waits
returns-clause-waits c = none_gives

pub returns-clause-refused : goal.returns-clause-refused
returns-clause-refused c = fault_gives
