use Rattle.kap_io.specs.Moments.{weaker}
use Rattle.store_records.specs.Records.{spell_record}
use Rattle.std.proofs.Common.{map}
use Rattle.store_kept.specs.Keeping.{kept_of}
use Rattle.store_kept.proofs.Keeping.{valid_put}
use Rattle.topic_store.proofs.Adding.{kept_put}
use Rattle.topic_store.proofs.Copies.{put_behind_log}
use Rattle.topic_store.proofs.copying.put_body.Goals as goal

pub returns-in-Ok-clause-put : goal.returns-in-Ok-clause-put
returns-in-Ok-clause-put g c = λ tells ks is put.
    let k = kept_of c.args.kept.now in
    let parts = c.in_ok-parts.parts in
    put_behind_log ks c.args.rec.now c.args.body.now (g.D.Disk.seen c.append.new.disk) (g.D.Disk.may_leave c.append.new.disk) c.args.log.now c.append.new.self k
    (kept_of c.prepare.new.kept) (kept_of c.commit.new.kept) parts.mark c.end.result (g.D.Disk.seen c.args.disk.now) (g.D.Disk.may_leave c.args.disk.now) put is c.end.ensures
    (c.in-Ok.ensures.added tells (map spell_record ks) put.rests)
    (kept_put c.args.rec.now c.end.result k (kept_of c.prepare.new.kept) (kept_of c.commit.new.kept) parts c.in_ok-parts.ensures.same c.in_ok-parts.ensures.parts c.commit.ensures)
    c.in_ok-parts.ensures.parts.mark

pub returns-in-Ok-clause-any_moment : goal.returns-in-Ok-clause-any_moment
returns-in-Ok-clause-any_moment g c = λ tells ks put.
    weaker g.D.Disk.moment g.D.Disk.may_leave g.D.Disk.left_since _ _ _ _ (c.append.ensures.any_moment tells (map spell_record ks) put.rests)
    (λ a b was how. record { step = tt; elsewhere = how.elsewhere })

pub returns-in-Ok-clause-valid : goal.returns-in-Ok-clause-valid
returns-in-Ok-clause-valid g c = λ defines valid.
    valid_put c.args.rec.now c.end.result (kept_of c.args.kept.now) (kept_of c.prepare.new.kept) (kept_of c.commit.new.kept) c.in_ok-parts.parts
    c.in_ok-parts.ensures.same c.in_ok-parts.ensures.parts c.commit.ensures defines valid
