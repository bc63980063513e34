use Rattle.std.proofs.Common.{subst}
use Rattle.std.specs.declared.result.Result.TheVariants.{Err}
use Rattle.std.proofs.lemmas.Result.{err_from_is_err_and}
use Rattle.kap_io.specs.Disk.{Image}
use Rattle.kap_io.specs.Moments.{quiet_images}
use Rattle.store_kept.specs.Keeping.{kept_of}
use Rattle.topic_store.specs.Opening.{AreRead, IsOnWith, ReadsOrNot}
use Rattle.topic_store.proofs.Found.{head_refused, opened, part_refused}
use Rattle.topic_store.proofs.store.find_store.Goals as goal

pub returns-in_err-part-clause-found : goal.returns-in_err-part-clause-found
returns-in_err-part-clause-found g c = λ tells.
    let p = err_from_is_err_and c.from_residual.result c.from_residual.ensures.1 in
    rw (p.1, p.2) (head_refused (IsOnWith (g.D.Disk.seen c.args.disk.now) (g.D.Disk.may_leave c.synced_head.new.disk)) (g.D.Disk.seen c.args.disk.now)
    c.in_err-part.field-0.0 (c.in_err-part.ensures.found tells))

pub returns-in_err-reached-clause-found : goal.returns-in_err-reached-clause-found
returns-in_err-reached-clause-found g c = λ tells.
    let p = err_from_is_err_and c.from_residual-in_err-reached.result c.from_residual-in_err-reached.ensures.1 in
    let left = g.D.Disk.may_leave c.open_part.new.disk in
    let refused = subst (λ (i : Image). ReadsOrNot c.in_ok-part.part i left (Err c.in_err-reached.field-0.0)) (c.synced_head.ensures.quiet tells).reads
    (c.in_err-reached.ensures.found tells) in
    rw (p.1, p.2) (part_refused (IsOnWith (g.D.Disk.seen c.args.disk.now) left) (g.D.Disk.seen c.args.disk.now) c.in_ok-part.part left
    c.in_err-reached.field-0.0 (c.in_ok-part.ensures.found tells) refused)

pub returns-clause-found : goal.returns-clause-found
returns-clause-found g c = λ tells.
    let left = g.D.Disk.may_leave c.open_part.new.disk in
    let reached = c.in_ok-reached.reached in
    let read = subst (λ (i : Image). AreRead i left reached.log (kept_of reached.kept) reached.topics) (c.synced_head.ensures.quiet tells).reads
    (c.in_ok-reached.ensures.found tells) in
    opened (g.D.Disk.seen c.args.disk.now) left c.in_ok-part.part reached.log (kept_of reached.kept) reached.topics (c.in_ok-part.ensures.found tells)
    (λ i now. c.in_ok-part.ensures.durable tells i
    (quiet_images g.D.Disk.seen g.D.Disk.moment g.D.Disk.may_leave g.D.Disk.left_since c.synced_head.new.disk c.open_part.new.disk
    (c.open_part.ensures.quiet tells) i now))
    c.in_ok-reached.ensures.log.0 read
