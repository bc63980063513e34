use Rattle.tick_vars.proofs.FirstFaults.{first, only}
use Rattle.tick_vars.proofs.law.first_fault_of_names.Goals as goal

pub returns-clause-first : goal.returns-clause-first
returns-clause-first c = first

pub returns-clause-only : goal.returns-clause-only
returns-clause-only c = only
