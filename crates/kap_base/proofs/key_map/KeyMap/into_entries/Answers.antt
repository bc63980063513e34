use Rattle.std.proofs.Common.{sym}
use Rattle.kap_base.proofs.KeyMapLaws.{entries-of}
use Rattle.kap_base.proofs.key_map.KeyMap.into_entries.Goals as goal

pub returns : goal.returns
returns g c = sym (entries-of c.self.inside.entries.items c.args.self c.self.invariant c.self.view_is)
