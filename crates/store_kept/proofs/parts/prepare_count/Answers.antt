use Rattle.std.proofs.Common.{subst}
use Rattle.store_records.specs.declared.rec.Rec.TheVariants as kinds
use Rattle.store_kept.specs.Changing.{ArePartsFor}
use Rattle.store_kept.specs.Keeping.{KeptValue}
use Rattle.store_kept.proofs.parts.prepare_count.Goals as goal

pub returns-clause-parts : goal.returns-clause-parts
returns-clause-parts c db rp points long =
    subst (λ (k : KeptValue). ArePartsFor c.args.at (kinds.Batch db rp points) k c.in_ok-parts.parts) c.in_ok-reserve.ensures.same (c.in_ok-parts.ensures db rp points long)
