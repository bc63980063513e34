use Rattle.kap_base.proofs.KeyMapLaws.{entries-of}
use Rattle.kap_base.proofs.key_map.KeyMapPartialEq.eq.Goals as goal

pub returns : goal.returns
returns g c = rw (entries-of c.self.inside.entries.items c.args.self.now c.self.invariant c.self.view_is, entries-of c.other.inside.entries.items c.args.other.now c.other.invariant c.other.view_is) c.eq.ensures
