use Rattle.std.proofs.Common.{◌∙◌}
use Rattle.kap_base.proofs.KeyMapLaws.{get-of}
use Rattle.kap_base.proofs.key_map.KeyMap.get.Goals as goal

pub returns : goal.returns
returns g c = rw c.deref.ensures.value at c.value_at.ensures ∙ get-of c.self.inside.entries.items c.args.self.now c.args.key.now c.self.invariant c.self.view_is
