use Rattle.std.proofs.Common.{◌≡◌, take}
use Rattle.kap_base.proofs.key_map.copies_of.Given as goal

-- what was passed is copied
abbrev pub invariant-copying : goal.invariant-copying
invariant-copying g l = l.copies.items ≡ take l.entry-index l.entries
