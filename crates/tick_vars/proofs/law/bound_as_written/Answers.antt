use Rattle.tick_vars.proofs.Written.{settled, written}
use Rattle.tick_vars.proofs.law.bound_as_written.Goals as goal

pub returns-clause-written : goal.returns-clause-written
returns-clause-written c = written

pub returns-clause-settled : goal.returns-clause-settled
returns-clause-settled c = settled
