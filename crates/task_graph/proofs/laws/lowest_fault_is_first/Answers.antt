use Rattle.task_graph.proofs.GraphLaws.{lowest_fault, no_fault}
use Rattle.task_graph.proofs.laws.lowest_fault_is_first.Goals as goal

pub returns-clause-fault : goal.returns-clause-fault
returns-clause-fault c = λ nodes fault h. lowest_fault nodes fault h

pub returns-clause-none : goal.returns-clause-none
returns-clause-none c = λ nodes h. no_fault nodes h
