use Rattle.tick_compile.proofs.PatternLaws.{pattern_is_refused}
use Rattle.tick_compile.proofs.ScriptLaws.{apart, one_fault, one_task, same_script, some_answer}
use Rattle.tick_compile.proofs.law.scripts_have_one_answer.Goals as goal

pub returns-clause-script : goal.returns-clause-script
returns-clause-script c = same_script

pub returns-clause-task : goal.returns-clause-task
returns-clause-task c = one_task

pub returns-clause-fault : goal.returns-clause-fault
returns-clause-fault c = one_fault

pub returns-clause-apart : goal.returns-clause-apart
returns-clause-apart c = apart

pub returns-clause-some : goal.returns-clause-some
returns-clause-some c = some_answer

pub returns-clause-pattern : goal.returns-clause-pattern
returns-clause-pattern c = pattern_is_refused
