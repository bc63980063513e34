use Rattle.tick_vars.proofs.NameLaws.{first_put}
use Rattle.tick_vars.specs.Names.{scope_of}
use Rattle.tick_vars.proofs.binder.first_names.Goals as goal

pub returns : goal.returns
returns c = first_put c.new-names.result (scope_of c.put_name.new.names) c.new-names.ensures.empty c.in_ok-put_name.ensures
