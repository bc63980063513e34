use Rattle.kap_server.proofs.PairLaws.{same_status, same_tasks, some_meaning, tasks_or_none}
use Rattle.kap_server.proofs.laws.pairs_have_one_meaning.Goals as goal

pub returns-clause-some : goal.returns-clause-some
returns-clause-some c = some_meaning

pub returns-clause-tasks : goal.returns-clause-tasks
returns-clause-tasks c = same_tasks

pub returns-clause-refusal : goal.returns-clause-refusal
returns-clause-refusal c = same_status

pub returns-clause-apart : goal.returns-clause-apart
returns-clause-apart c = tasks_or_none
