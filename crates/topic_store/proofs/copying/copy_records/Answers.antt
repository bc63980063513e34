use Rattle.std.proofs.Common.{ℕ, ◌∙◌, subst, arith}
use Rattle.std.specs.Prelude.{Option, Ok}
use Rattle.kap_io.specs.Disk.{Elsewhere}
use Rattle.kap_io.specs.declared.disk.Part.{Part}
use Rattle.store_kept.specs.Keeping.{kept_of}
use Rattle.topic_store.specs.Rewriting.{CopiesOrNot}
use Rattle.topic_store.proofs.Copies.{on_then}
use Rattle.topic_store.proofs.Rereading.{none_of}
use Rattle.topic_store.proofs.copying.copy_records.Goals as goal

pub copying-preserved : goal.copying-preserved
copying-preserved g c = record {
  so_far = λ tells rs source rests apart.
      subst
      (λ (o : Option ℕ). CopiesOrNot rs (g.D.Disk.seen c.copy_record.new.disk) (g.D.Disk.may_leave c.copy_record.new.disk) c.args.old.now (kept_of c.args.all.now) c.copy_record.new.log
      (kept_of c.copy_record.new.kept) (Ok o)) c.in-Some.is
      (c.in_ok-next.ensures.copied tells rs (c.copying.invariant.so_far tells rs source rests apart));
  moments = λ tells rs source rests apart.
      on_then g.D.Disk.moment g.D.Disk.may_leave g.D.Disk.left_since c.args.begun.part c.copying.log.part c.copying.invariant.part c.args.disk.now c.copying.disk c.copy_record.new.disk
      (c.copying.invariant.moments tells rs source rests apart) (c.copy_record.ensures.any_moment tells rs (c.copying.invariant.so_far tells rs source rests apart));
  elsewhere = λ tells.
      let here = subst (λ (p : Part). Elsewhere p (g.D.Disk.seen c.copying.disk) (g.D.Disk.seen c.copy_record.new.disk)) c.copying.invariant.part (c.copy_record.ensures.elsewhere tells) in
      λ q no. here q no ∙ c.copying.invariant.elsewhere tells q no;
  part = c.copy_record.ensures.part ∙ c.copying.invariant.part;
  usable = c.in_ok-next.ensures.usable;
  valid = c.copy_record.ensures.valid c.copying.invariant.valid;
  first = omega (arith, c.copying.invariant.first, rw c.in-Some.is at c.in_ok-next.ensures.rises);
  faults = omega (arith, c.copying.invariant.faults, c.copy_record.ensures.cause.later);
}

pub returns-in_err-next-clause-any_moment : goal.returns-in_err-next-clause-any_moment
returns-in_err-next-clause-any_moment g c = λ tells rs source rests apart.
    on_then g.D.Disk.moment g.D.Disk.may_leave g.D.Disk.left_since c.args.begun.part c.copying.log.part c.copying.invariant.part c.args.disk.now c.copying.disk c.copy_record.new.disk
    (c.copying.invariant.moments tells rs source rests apart) (c.copy_record.ensures.any_moment tells rs (c.copying.invariant.so_far tells rs source rests apart))

pub returns-clause-copied : goal.returns-clause-copied
returns-clause-copied g c = λ tells rs source rests apart.
    subst
    (λ (o : Option ℕ). CopiesOrNot rs (g.D.Disk.seen c.copy_record.new.disk) (g.D.Disk.may_leave c.copy_record.new.disk) c.args.old.now (kept_of c.args.all.now) c.copy_record.new.log
    (kept_of c.copy_record.new.kept) (Ok o)) (none_of _ c.in_default.not-Some)
    (c.in_ok-next.ensures.copied tells rs (c.copying.invariant.so_far tells rs source rests apart))

pub returns-clause-any_moment : goal.returns-clause-any_moment
returns-clause-any_moment g c = λ tells rs source rests apart.
    on_then g.D.Disk.moment g.D.Disk.may_leave g.D.Disk.left_since c.args.begun.part c.copying.log.part c.copying.invariant.part c.args.disk.now c.copying.disk c.copy_record.new.disk
    (c.copying.invariant.moments tells rs source rests apart) (c.copy_record.ensures.any_moment tells rs (c.copying.invariant.so_far tells rs source rests apart))
