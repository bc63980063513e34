use Rattle.std.proofs.Common.{refl}
use Rattle.engine_runs.proofs.RunLaws.{new_run}
use Rattle.engine_runs.proofs.runs.EngineRun.new.Goals as goal

pub returns-clause-runs : goal.returns-clause-runs
returns-clause-runs g c = λ lives tasks firsts.
    new_run g.N.Node g.N.ScriptNode.planned lives tasks _ firsts c.new.ensures.lives c.new.ensures.gathered c.new.ensures.last c.new.ensures.spent c.new-2.ensures c.new-3.ensures.items refl
