use Rattle.store_kept.specs.Keeping.{kept_of}
use Rattle.store_kept.proofs.Batches.{batch_kept}
use Rattle.store_kept.proofs.parts.commit_batch.Goals as goal

pub returns : goal.returns
returns c = λ at db rp points are. batch_kept at db rp points (kept_of c.args.kept.now) c.args.parts are c.put_mark.new.marks.items c.put_mark.ensures
