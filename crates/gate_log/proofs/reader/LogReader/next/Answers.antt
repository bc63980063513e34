use Rattle.std.proofs.Common.{ℕ, List, subst}
use Rattle.std.specs.Prelude.{Option}
use Rattle.std.specs.declared.result.Result.TheVariants.{Ok}
use Rattle.std.proofs.lemmas.Result.{err_from_is_err_and}
use Rattle.kap_io.specs.Moments.{quiet_images}
use Rattle.gate_log.specs.Reading.{ShortRecordAt}
use Rattle.gate_log.proofs.Onward.{reads_fault, reads_last, reads_more}
use Rattle.gate_log.proofs.reader.LogReader.next.Goals as goal

pub returns-in_err-short_record_at-clause-next : goal.returns-in_err-short_record_at-clause-next
returns-in_err-short_record_at-clause-next g c =
    rw (← c.self.view_is) (
    λ tells bodies read.
    let p = err_from_is_err_and c.from_residual.result c.from_residual.ensures.1 in
    rw (p.1, p.2) (
    reads_fault bodies _ _ _ _ _ read (c.short_record_at.ensures.quiet tells).reads
    (λ i left. quiet_images g.D.Disk.seen g.D.Disk.moment g.D.Disk.may_leave g.D.Disk.left_since _ _ (c.short_record_at.ensures.quiet tells) i left)
    (record { part = c.self.inside.part; size = c.self.inside.size; gate = c.self.inside.gate }) _ (c.in_err-short_record_at.ensures.found tells read.whole read.within))
    )

pub returns-in-None-clause-next : goal.returns-in-None-clause-next
returns-in-None-clause-next g c =
    rw (← c.self.view_is) (
    λ tells bodies read.
    let found = subst (λ (o : Option (List ℕ × ℕ)). ShortRecordAt c.self.inside.gate (g.D.Disk.seen c.args.disk.now c.self.inside.part) (Ok o)) c.in-None.is
    (c.in_ok-short_record_at.ensures.found tells read.whole read.within) in
    reads_last bodies _ _ _ _ _ read (c.short_record_at.ensures.quiet tells).reads
    (λ i left. quiet_images g.D.Disk.seen g.D.Disk.moment g.D.Disk.may_leave g.D.Disk.left_since _ _ (c.short_record_at.ensures.quiet tells) i left) found
    )

pub returns-in-Some-clause-next : goal.returns-in-Some-clause-next
returns-in-Some-clause-next g c =
    rw (← c.self.view_is) (
    λ tells bodies read.
    let found = subst (λ (o : Option (List ℕ × ℕ)). ShortRecordAt c.self.inside.gate (g.D.Disk.seen c.args.disk.now c.self.inside.part) (Ok o)) c.in-Some.is
    (c.in_ok-short_record_at.ensures.found tells read.whole read.within) in
    reads_more bodies _ _ _ _ _ read (c.short_record_at.ensures.quiet tells).reads
    (λ i left. quiet_images g.D.Disk.seen g.D.Disk.moment g.D.Disk.may_leave g.D.Disk.left_since _ _ (c.short_record_at.ensures.quiet tells) i left)
    c.in-Some.next c.in-Some.body found
    )
