use Rattle.std.proofs.Common.{◌≡◌, ◌∙◌, length, arith}
use Rattle.std.proofs.lemmas.Grind.{common_steps}
use Rattle.kap_base.proofs.KeyMapLaws.{len-of}
use Rattle.kap_base.proofs.key_map.KeyMap.len.Goals as goal

pub returns : goal.returns
returns g c = let same : c.len.result ≡ length c.self.inside.entries.items = grind (arith, common_steps) in same ∙ len-of c.self.inside.entries.items c.args.self.now c.self.invariant c.self.view_is
