use Rattle.std.proofs.Common.{◌≡◌, ℕ, Bool, true, false, List, map, sym, ap, ◌∙◌, subst, arith}
use Rattle.std.specs.Prelude.{Option, Ok}
use Rattle.std.proofs.lemmas.Result.{err_from_is_err_and}
use Rattle.kap_io.specs.Disk.{Image}
use Rattle.kap_io.specs.Moments.{quiet_then}
use Rattle.gate_log.specs.Logs.{LogState}
use Rattle.gate_log.specs.Readers.{GoesOn, log_at}
use Rattle.store_records.specs.Records.{spell_record}
use Rattle.store_kept.specs.Keeping.{kept_of}
use Rattle.topic_store.specs.Opening.{AddsOrNot, AreRead, NextOrNot}
use Rattle.topic_store.specs.declared.fault.StoreFault.{StoreFault}
use Rattle.topic_store.proofs.Reading.{all_read, gate_there, goes_on, next_fault, stops_in}
use Rattle.topic_store.proofs.Rereading.{none_of}
use Rattle.topic_store.proofs.opening.read_records.Goals as goal

pub reading-preserved : goal.reading-preserved
reading-preserved g c =
    let moves = subst (λ (o : Option (ℕ × List ℕ)). GoesOn {F = StoreFault} c.reading.reader c.next_body.new.reader (Ok o)) c.in-Some.is
    c.in_ok-gate.ensures.goes_on in
    record {
      so_far = λ tells read.
          let so = c.reading.invariant.so_far tells read in
          let seen = g.D.Disk.seen c.next_body.new.disk in
          let left = g.D.Disk.may_leave c.next_body.new.disk in
          let next = subst
          (λ (o : Option (ℕ × List ℕ)). NextOrNot (map spell_record so.records) seen left c.reading.reader c.next_body.new.reader (Ok o)) c.in-Some.is
          (c.in_ok-gate.ensures.next tells (map spell_record so.records) so.read) in
          let took = subst (λ (b : Bool). AddsOrNot so.records c.as_slice.result.now (kept_of c.take_record.new.kept) c.take_record.new.topics b)
          c.if-not-branch.false
          (c.in_ok-take_record.ensures.adds so.records so.holds (gate_there _ seen _ left c.reading.reader _ _ so c.in-Some.gate moves.at)) in
          let adds = subst (λ (b : List ℕ). AddsOrNot so.records b (kept_of c.take_record.new.kept) c.take_record.new.topics true) c.as_slice.ensures took in
          goes_on (g.D.Disk.seen c.reading.disk) seen (g.D.Disk.may_leave c.reading.disk) left c.reading.reader (kept_of c.reading.kept) c.reading.topics so
          c.next_body.new.reader c.in-Some.body (kept_of c.take_record.new.kept) c.take_record.new.topics next adds;
      part = moves.part ∙ c.reading.invariant.part;
      quiet = λ tells. quiet_then g.D.Disk.seen g.D.Disk.moment g.D.Disk.may_leave g.D.Disk.left_since _ _ _ (c.reading.invariant.quiet tells)
          (c.next_body.ensures.quiet tells);
      faults = omega (arith, c.reading.invariant.faults, c.next_body.ensures.cause.later);
      valid = c.take_record.ensures.valid c.reading.invariant.valid;
    }

pub returns-then-not-branch-clause-found : goal.returns-then-not-branch-clause-found
returns-then-not-branch-clause-found g c = λ tells read.
    let so = c.reading.invariant.so_far tells read in
    let seen = g.D.Disk.seen c.next_body.new.disk in
    let left = g.D.Disk.may_leave c.next_body.new.disk in
    let moves = subst (λ (o : Option (ℕ × List ℕ)). GoesOn {F = StoreFault} c.reading.reader c.next_body.new.reader (Ok o)) c.in-Some.is
    c.in_ok-gate.ensures.goes_on in
    let next = subst (λ (o : Option (ℕ × List ℕ)). NextOrNot (map spell_record so.records) seen left c.reading.reader c.next_body.new.reader (Ok o))
    c.in-Some.is (c.in_ok-gate.ensures.next tells (map spell_record so.records) so.read) in
    let not_took = subst (λ (b : Bool). AddsOrNot so.records c.as_slice.result.now (kept_of c.take_record.new.kept) c.take_record.new.topics b)
    c.if-not-branch.true
    (c.in_ok-take_record.ensures.adds so.records so.holds (gate_there _ seen _ left c.reading.reader _ _ so c.in-Some.gate moves.at)) in
    let none = subst (λ (b : List ℕ). AddsOrNot so.records b (kept_of c.take_record.new.kept) c.take_record.new.topics false) c.as_slice.ensures not_took in
    let reads : seen ≡ g.D.Disk.seen c.args.disk.now = (c.next_body.ensures.quiet tells).reads ∙ (c.reading.invariant.quiet tells).reads in (
      c.part.ensures ∙ moves.part ∙ c.reading.invariant.part,
      stops_in (g.D.Disk.seen c.reading.disk) seen (g.D.Disk.may_leave c.reading.disk) left c.reading.reader (kept_of c.reading.kept) c.reading.topics so
          (g.D.Disk.seen c.args.disk.now) c.args.begun.part reads c.reading.invariant.part c.next_body.new.reader c.in-Some.body c.in-Some.gate next moves.part moves.at none,
    )

pub returns-in_err-gate-clause-found : goal.returns-in_err-gate-clause-found
returns-in_err-gate-clause-found g c = λ tells read.
    let p = err_from_is_err_and c.from_residual.result c.from_residual.ensures.1 in
    let so = c.reading.invariant.so_far tells read in
    rw (p.1, p.2) (
    next_fault (g.D.Disk.seen c.reading.disk) (g.D.Disk.seen c.next_body.new.disk) (g.D.Disk.may_leave c.reading.disk) (g.D.Disk.may_leave c.next_body.new.disk)
    c.reading.reader (kept_of c.reading.kept) c.reading.topics so (g.D.Disk.seen c.args.disk.now) c.args.begun.part (c.reading.invariant.quiet tells).reads
    c.reading.invariant.part c.next_body.new.reader c.in_err-gate.field-0.0 (c.in_err-gate.ensures.next tells (map spell_record so.records) so.read)
    (c.next_body.ensures.quiet tells).reads)

pub returns-clause-found : goal.returns-clause-found
returns-clause-found g c = λ tells read.
    let so = c.reading.invariant.so_far tells read in
    let seen = g.D.Disk.seen c.next_body.new.disk in
    let left = g.D.Disk.may_leave c.next_body.new.disk in
    let kept = kept_of c.reading.kept in
    let next = subst
    (λ (o : Option (ℕ × List ℕ)). NextOrNot (map spell_record so.records) seen left c.reading.reader c.next_body.new.reader (Ok o))
    (none_of _ c.in_default.not-Some) (c.in_ok-gate.ensures.next tells (map spell_record so.records) so.read) in
    let stays = subst (λ (o : Option (ℕ × List ℕ)). GoesOn {F = StoreFault} c.reading.reader c.next_body.new.reader (Ok o)) (none_of _ c.in_default.not-Some)
    c.in_ok-gate.ensures.goes_on in
    let reads : seen ≡ g.D.Disk.seen c.args.disk.now = (c.next_body.ensures.quiet tells).reads ∙ (c.reading.invariant.quiet tells).reads in
    let log : log_at c.reading.reader ≡ c.into_log.result = ap log_at (sym stays) ∙ sym c.into_log.ensures in
    subst (λ (i : Image). AreRead i left c.into_log.result kept c.reading.topics) reads
    (subst (λ (l : LogState). AreRead seen left l kept c.reading.topics) log
    (all_read (g.D.Disk.seen c.reading.disk) seen (g.D.Disk.may_leave c.reading.disk) left c.reading.reader kept c.reading.topics so next))
