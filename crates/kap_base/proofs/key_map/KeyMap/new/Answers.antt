use Rattle.kap_base.proofs.KeyMapLaws.{empty-from_sorted}
use Rattle.kap_base.proofs.key_map.KeyMap.new.Goals as goal

pub returns : goal.returns
returns g c = empty-from_sorted _ c.new.ensures.items
