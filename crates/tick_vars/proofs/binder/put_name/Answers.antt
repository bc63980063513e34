use Rattle.std.proofs.Common.{ap, sym, Ok}
use Rattle.tick_vars.proofs.NameLaws.{name_put}
use Rattle.tick_vars.proofs.binder.put_name.Goals as goal

pub returns : goal.returns
returns c = sym (ap (λ scope. Ok scope) (name_put c.args.names.now c.insert.new.self c.args.name.now c.args.arg c.in_ok-insert.ensures.updates))
