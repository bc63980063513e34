use Rattle.kap_base.proofs.KeyMapLaws.{sorted-put, insert-put}
use Rattle.kap_base.proofs.key_map.KeyMap.insert.Goals as goal

pub invariant_of-self-2 : goal.invariant_of-self-2
invariant_of-self-2 g c = sorted-put c.self.inside.entries.items c.put.new.entries.items c.args.key c.args.value c.self.invariant c.in_ok-put.ensures.ok

pub returns-clause-ok : goal.returns-clause-ok
returns-clause-ok g c = insert-put c.self.inside.entries.items c.put.new.entries.items c.args.self.now c.args.key c.args.value c.self.invariant c.self.view_is c.in_ok-put.ensures.ok
