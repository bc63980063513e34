use Rattle.std.proofs.Common.{ℕ, ◌≤◌, List, length, inl, sym, ap, subst, map, arith}
use Rattle.kap_io.specs.Moments.{no_call, weaker}
use Rattle.store_records.specs.Records.{IsBodyOf, spell_record}
use Rattle.store_kept.specs.Changing.{ArePartsFor}
use Rattle.store_kept.specs.Keeping.{kept_of}
use Rattle.store_kept.proofs.Keeping.{valid_put}
use Rattle.gate_log.specs.declared.log.TheConstants.{BODY_LIMIT}
use Rattle.topic_store.specs.Stores.{store_of}
use Rattle.topic_store.proofs.Adding.{added, image_stands, kept_put, stands}
use Rattle.topic_store.proofs.store.add_record.Goals as goal

pub returns-in_err-body-clause-any_moment : goal.returns-in_err-body-clause-any_moment
returns-in_err-body-clause-any_moment g c = λ tells rs may on.
    no_call g.D.Disk.moment g.D.Disk.may_leave g.D.Disk.left_since c.args.disk.now _ (λ i left. inl (image_stands rs _ _ _ on i left))

pub returns-in-Ok-clause-added : goal.returns-in-Ok-clause-added
returns-in-Ok-clause-added g c = λ tells rs may on.
    let body : IsBodyOf c.args.rec.now c.as_slice.result.now = subst (IsBodyOf c.args.rec.now) (sym c.as_slice.ensures) c.in_ok-body.ensures in
    let short : length c.as_slice.result.now ≤ BODY_LIMIT = omega (arith, ap (λ (b : List ℕ). length b) c.as_slice.ensures, c.len.ensures) in
    let k = kept_of c.args.kept.now in
    let parts = c.in_ok-parts.parts in
    let are = subst (λ (n : ℕ). ArePartsFor n c.args.rec.now k parts) c.end.ensures c.in_ok-parts.ensures.parts in
    added rs c.args.rec.now c.as_slice.result.now body may short (g.D.Disk.seen c.args.disk.now) (g.D.Disk.may_leave c.args.disk.now) (store_of c.args.log.now k) on
    (g.D.Disk.seen c.append.new.disk) (g.D.Disk.may_leave c.append.new.disk) c.append.new.self (kept_of c.commit.new.kept) parts.mark _
    c.append.ensures.part (c.append.ensures.elsewhere tells) (c.append.ensures.any_moment tells (map spell_record rs) on.log).now (c.in-Ok.ensures.added tells (map spell_record rs) on.log)
    (kept_put c.args.rec.now c.args.log.now.end k (kept_of c.prepare.new.kept) (kept_of c.commit.new.kept) parts c.in_ok-parts.ensures.same are c.commit.ensures) are.mark

pub returns-in-Ok-clause-any_moment : goal.returns-in-Ok-clause-any_moment
returns-in-Ok-clause-any_moment g c = λ tells rs may on.
    let body : IsBodyOf c.args.rec.now c.as_slice.result.now = subst (IsBodyOf c.args.rec.now) (sym c.as_slice.ensures) c.in_ok-body.ensures in
    let short : length c.as_slice.result.now ≤ BODY_LIMIT = omega (arith, ap (λ (b : List ℕ). length b) c.as_slice.ensures, c.len.ensures) in
    weaker g.D.Disk.moment g.D.Disk.may_leave g.D.Disk.left_since _ _ _ _ (c.append.ensures.any_moment tells (map spell_record rs) on.log)
    (λ d i was how. stands rs c.args.rec.now c.as_slice.result.now body may short _ _ (store_of c.args.log.now (kept_of c.args.kept.now)) on d i was how)

pub returns-clause-any_moment : goal.returns-clause-any_moment
returns-clause-any_moment g c = λ tells rs may on.
    let body : IsBodyOf c.args.rec.now c.as_slice.result.now = subst (IsBodyOf c.args.rec.now) (sym c.as_slice.ensures) c.in_ok-body.ensures in
    let short : length c.as_slice.result.now ≤ BODY_LIMIT = omega (arith, ap (λ (b : List ℕ). length b) c.as_slice.ensures, c.len.ensures) in
    weaker g.D.Disk.moment g.D.Disk.may_leave g.D.Disk.left_since _ _ _ _ (c.append.ensures.any_moment tells (map spell_record rs) on.log)
    (λ d i was how. stands rs c.args.rec.now c.as_slice.result.now body may short _ _ (store_of c.args.log.now (kept_of c.args.kept.now)) on d i was how)

pub returns-in-Ok-clause-valid : goal.returns-in-Ok-clause-valid
returns-in-Ok-clause-valid g c = λ defines valid.
    let k = kept_of c.args.kept.now in
    let parts = c.in_ok-parts.parts in
    let are = subst (λ (n : ℕ). ArePartsFor n c.args.rec.now k parts) c.end.ensures c.in_ok-parts.ensures.parts in
    valid_put c.args.rec.now c.args.log.now.end k (kept_of c.prepare.new.kept) (kept_of c.commit.new.kept) parts c.in_ok-parts.ensures.same are c.commit.ensures
    defines valid
