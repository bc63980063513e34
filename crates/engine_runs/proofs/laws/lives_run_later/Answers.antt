use Rattle.engine_runs.proofs.ChangeLaws.{run_later}
use Rattle.engine_runs.proofs.laws.lives_run_later.Goals as goal

pub returns : goal.returns
returns g c = λ lives others tasks more points n r are later run. run_later g.N.Node g.N.ScriptNode.planned lives others tasks more are points later n r run
