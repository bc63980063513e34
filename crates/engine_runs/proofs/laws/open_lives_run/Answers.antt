use Rattle.engine_runs.proofs.RunLaws.{open_numbers, open_runs, open_stands}
use Rattle.engine_runs.proofs.laws.open_lives_run.Goals as goal

pub returns-clause-run : goal.returns-clause-run
returns-clause-run g c = λ lives tasks points n r fit h. open_runs g.N.Node g.N.ScriptNode.planned lives tasks points n r fit h

pub returns-clause-numbers : goal.returns-clause-numbers
returns-clause-numbers g c = λ lives tasks points r fit h. open_numbers g.N.Node g.N.ScriptNode.planned lives tasks points r fit h

pub returns-clause-stands : goal.returns-clause-stands
returns-clause-stands g c = λ lives tasks points r fit h. open_stands g.N.Node g.N.ScriptNode.planned lives tasks points r fit h
