use Rattle.std.proofs.Common.{ℕ, ◌≤◌, List, length, inl, sym, ap, subst, map, arith}
use Rattle.kap_io.specs.Moments.{no_call, weaker}
use Rattle.store_records.specs.declared.rec.Rec.{Rec}
use Rattle.store_records.specs.declared.rec.Rec.TheVariants as kinds
use Rattle.store_records.specs.Records.{IsBodyOf, spell_record}
use Rattle.store_kept.specs.Changing.{ArePartsFor}
use Rattle.store_kept.specs.Keeping.{KeptValue, kept_of}
use Rattle.store_kept.proofs.Keeping.{valid_put}
use Rattle.gate_log.specs.declared.log.TheConstants.{BODY_LIMIT}
use Rattle.topic_store.specs.Stores.{store_of}
use Rattle.topic_store.proofs.Adding.{added, image_stands, kept_put, stands}
use Rattle.topic_store.proofs.store.add_points.Goals as goal

pub returns-in_err-body-clause-any_moment : goal.returns-in_err-body-clause-any_moment
returns-in_err-body-clause-any_moment g c = λ tells rs on.
    no_call g.D.Disk.moment g.D.Disk.may_leave g.D.Disk.left_since c.args.disk.now _ (λ i left. inl (image_stands rs _ _ _ on i left))

pub returns-in-Ok-clause-added : goal.returns-in-Ok-clause-added
returns-in-Ok-clause-added g c = λ tells rs on.
    let r : Rec = kinds.Batch c.args.db.now c.args.rp.now c.args.points.now in
    let body : IsBodyOf r c.as_slice.result.now = subst (IsBodyOf r) (sym c.as_slice.ensures) c.in_ok-body.ensures in
    let short : length c.as_slice.result.now ≤ BODY_LIMIT = omega (arith, ap (λ (b : List ℕ). length b) c.as_slice.ensures, c.len.ensures) in
    let k = kept_of c.args.kept.now in
    let parts = c.in_ok-parts.parts in
    let are = subst (λ (n : ℕ). ArePartsFor n r k parts) c.end.ensures (c.in_ok-parts.ensures.parts c.args.db.now c.args.rp.now) in
    added rs r c.as_slice.result.now body (c.requires.lines, c.requires.points) short (g.D.Disk.seen c.args.disk.now) (g.D.Disk.may_leave c.args.disk.now) (store_of c.args.log.now k) on
    (g.D.Disk.seen c.append.new.disk) (g.D.Disk.may_leave c.append.new.disk) c.append.new.self (kept_of c.commit_batch.new.kept) parts.mark _
    c.append.ensures.part (c.append.ensures.elsewhere tells) (c.append.ensures.any_moment tells (map spell_record rs) on.log).now (c.in-Ok.ensures.added tells (map spell_record rs) on.log)
    (kept_put r c.args.log.now.end k (kept_of c.prepare_batch.new.kept) (kept_of c.commit_batch.new.kept) parts c.in_ok-parts.ensures.same are (λ n. c.commit_batch.ensures n c.args.db.now c.args.rp.now c.args.points.now)) are.mark

pub returns-in-Ok-clause-any_moment : goal.returns-in-Ok-clause-any_moment
returns-in-Ok-clause-any_moment g c = λ tells rs on.
    let r : Rec = kinds.Batch c.args.db.now c.args.rp.now c.args.points.now in
    let body : IsBodyOf r c.as_slice.result.now = subst (IsBodyOf r) (sym c.as_slice.ensures) c.in_ok-body.ensures in
    let short : length c.as_slice.result.now ≤ BODY_LIMIT = omega (arith, ap (λ (b : List ℕ). length b) c.as_slice.ensures, c.len.ensures) in
    weaker g.D.Disk.moment g.D.Disk.may_leave g.D.Disk.left_since _ _ _ _ (c.append.ensures.any_moment tells (map spell_record rs) on.log)
    (λ d i was how. stands rs r c.as_slice.result.now body (c.requires.lines, c.requires.points) short _ _ (store_of c.args.log.now (kept_of c.args.kept.now)) on d i was how)

pub returns-clause-any_moment : goal.returns-clause-any_moment
returns-clause-any_moment g c = λ tells rs on.
    let r : Rec = kinds.Batch c.args.db.now c.args.rp.now c.args.points.now in
    let body : IsBodyOf r c.as_slice.result.now = subst (IsBodyOf r) (sym c.as_slice.ensures) c.in_ok-body.ensures in
    let short : length c.as_slice.result.now ≤ BODY_LIMIT = omega (arith, ap (λ (b : List ℕ). length b) c.as_slice.ensures, c.len.ensures) in
    weaker g.D.Disk.moment g.D.Disk.may_leave g.D.Disk.left_since _ _ _ _ (c.append.ensures.any_moment tells (map spell_record rs) on.log)
    (λ d i was how. stands rs r c.as_slice.result.now body (c.requires.lines, c.requires.points) short _ _ (store_of c.args.log.now (kept_of c.args.kept.now)) on d i was how)

pub returns-in-Ok-clause-valid : goal.returns-in-Ok-clause-valid
returns-in-Ok-clause-valid g c = λ valid.
    let r : Rec = kinds.Batch c.args.db.now c.args.rp.now c.args.points.now in
    let k = kept_of c.args.kept.now in
    let parts = c.in_ok-parts.parts in
    let are = subst (λ (n : ℕ). ArePartsFor n r k parts) c.end.ensures (c.in_ok-parts.ensures.parts c.args.db.now c.args.rp.now) in
    valid_put r c.args.log.now.end k (kept_of c.prepare_batch.new.kept) (kept_of c.commit_batch.new.kept) parts c.in_ok-parts.ensures.same are (λ n. c.commit_batch.ensures n c.args.db.now c.args.rp.now c.args.points.now)
    tt valid

pub returns-in-Ok-clause-count : goal.returns-in-Ok-clause-count
returns-in-Ok-clause-count g c =
    let r : Rec = kinds.Batch c.args.db.now c.args.rp.now c.args.points.now in
    let k = kept_of c.args.kept.now in
    let parts = c.in_ok-parts.parts in
    let are = subst (λ (n : ℕ). ArePartsFor n r k parts) c.end.ensures (c.in_ok-parts.ensures.parts c.args.db.now c.args.rp.now) in
    ap (λ (kept : KeptValue). kept.points)
    (kept_put r c.args.log.now.end k (kept_of c.prepare_batch.new.kept) (kept_of c.commit_batch.new.kept) parts c.in_ok-parts.ensures.same are (λ n. c.commit_batch.ensures n c.args.db.now c.args.rp.now c.args.points.now))
