use Rattle.store_kept.specs.Keeping.{kept_of}
use Rattle.store_kept.proofs.Keeping.{valid_put}
use Rattle.store_kept.proofs.Records.{batch_committed}
use Rattle.store_records.specs.declared.rec.Rec.TheVariants as kinds
use Rattle.store_kept.proofs.taking.take_batch.Goals as goal

pub returns-clause-takes : goal.returns-clause-takes
returns-clause-takes c rs body topics batch holds at =
    batch_committed rs body c.args.count c.args.gate (kept_of c.args.kept.now) (kept_of c.prepare_count.new.kept) (kept_of c.commit_batch.new.kept) topics c.in_ok-parts.parts
    holds at batch c.in_ok-parts.ensures.same c.in_ok-parts.ensures.parts c.commit_batch.ensures

pub returns-clause-valid : goal.returns-clause-valid
returns-clause-valid c body batch valid =
    valid_put (kinds.Batch batch.db batch.rp batch.points) c.args.gate (kept_of c.args.kept.now) (kept_of c.prepare_count.new.kept) (kept_of c.commit_batch.new.kept) c.in_ok-parts.parts
    c.in_ok-parts.ensures.same (c.in_ok-parts.ensures.parts batch.db batch.rp batch.points batch.count_is) (λ n. c.commit_batch.ensures n batch.db batch.rp batch.points) tt valid
