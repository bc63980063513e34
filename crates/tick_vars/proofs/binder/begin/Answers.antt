use Rattle.tick_vars.specs.Names.{scope_of}
use Rattle.tick_vars.proofs.NameLaws.{begun}
use Rattle.tick_vars.proofs.binder.begin.Goals as goal

pub returns : goal.returns
returns c =
    begun (scope_of c.in_ok-first_names.field-0) c.in_ok-stream.field-0 c.new-nodes.result.items c.push.new.self.items c.new.result.items
    c.in_ok-first_names.ensures c.in_ok-stream.ensures c.new-nodes.ensures.items c.in_ok-push.ensures.items c.new.ensures.items
