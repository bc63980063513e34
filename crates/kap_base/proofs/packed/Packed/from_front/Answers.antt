use Rattle.kap_base.proofs.TextLaws.{front_counts}
use Rattle.kap_base.proofs.packed.Packed.from_front.Goals as goal

pub returns-then-line-ge-SHORT_LIMIT-clause-utf8 : goal.returns-then-line-ge-SHORT_LIMIT-clause-utf8
returns-then-line-ge-SHORT_LIMIT-clause-utf8 c = front_counts _ _ c.args.line.now c.args.len c.new.ensures.bytes c.from_front.ensures c.utf8.line c.requires
