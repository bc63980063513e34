use Rattle.tick_vars.proofs.Naming.{bound, named}
use Rattle.tick_vars.proofs.law.bound_where_well_named.Goals as goal

pub returns-clause-named : goal.returns-clause-named
returns-clause-named c = named

pub returns-clause-bound : goal.returns-clause-bound
returns-clause-bound c = bound
