use Rattle.gate_log.proofs.Exact.{headerless, opens, torn_there}
use Rattle.gate_log.proofs.open.open_log.Goals as goal

pub returns-clause-opened : goal.returns-clause-opened
returns-clause-opened g c = λ tells bodies log. opens _ _ c.args.part bodies c.find_log.result c.find_log.ensures.log (c.find_log.ensures.found tells) log

pub returns-clause-header : goal.returns-clause-header
returns-clause-header g c = λ tells none. headerless _ _ c.args.part c.find_log.result c.find_log.ensures.log (c.find_log.ensures.found tells) none

pub returns-clause-torn : goal.returns-clause-torn
returns-clause-torn g c = λ tells offset torn. torn_there _ _ c.args.part offset c.find_log.result c.find_log.ensures.log (c.find_log.ensures.found tells) torn
