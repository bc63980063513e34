use Rattle.flow_core.proofs.GatheredLaws.{gathered_loaded, gathered_moved}
use Rattle.flow_core.proofs.laws.effects_are_gathered.Goals as goal

pub returns-clause-loaded : goal.returns-clause-loaded
returns-clause-loaded g c = gathered_loaded

pub returns-clause-moved : goal.returns-clause-moved
returns-clause-moved g c = gathered_moved
