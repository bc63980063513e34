use Rattle.std.proofs.Common.{◌≡◌, ℕ, ◌-◌, ◌<◌, ◌≤◌, ◌++◌, List, drop, length, length-append, map, take, ap, ◌∙◌, subst, arith}
use Rattle.std.specs.Prelude.{Option, Ok}
use Rattle.std.specs.List.{flat_map}
use Rattle.std.proofs.lemmas.List.{length-take}
use Rattle.std.proofs.lemmas.Result.{err_from_is_err_and}
use Rattle.kap_io.specs.Moments.{quiet_images, quiet_then}
use Rattle.store_records.specs.Records.{spell_record}
use Rattle.store_records.specs.declared.rec.Rec.{Rec}
use Rattle.topic_store.specs.Stored.{RecordOrNot}
use Rattle.topic_store.proofs.PieceLaws.{not_ended, piece_fault, put_is, reads_on, split_at, still_rests, whole}
use Rattle.topic_store.proofs.Rereading.{none_of}
use Rattle.topic_store.proofs.pieces.piece_from.Goals as goal

pub reading-preserved : goal.reading-preserved
reading-preserved g c =
    let stored = g.T.Numbered.stored in
    let piece = c.reading.piece.items in
    record {
      so_far = λ tells rs before behind follow rests split at.
          let so = c.reading.invariant.so_far tells rs before behind follow rests split at in
          let quiet = c.reading.invariant.quiet tells in
          let now = still_rests (map spell_record rs) (g.D.Disk.seen c.args.disk.now) (g.D.Disk.seen c.reading.disk) (g.D.Disk.may_leave c.args.disk.now)
          (g.D.Disk.may_leave c.reading.disk) c.args.log.now quiet.reads
          (quiet_images g.D.Disk.seen g.D.Disk.moment g.D.Disk.may_leave g.D.Disk.left_since c.args.disk.now c.reading.disk quiet) rests in
          let there = subst (λ (o : Option (Rec × ℕ)). RecordOrNot (Ok o) (before ++ so.passed) so.rest) c.in-Some.is
          (c.in_ok-rec.ensures.found tells rs (before ++ so.passed) so.rest follow now
          (split_at stored before behind c.args.start.skip c.args.wanted c.reading.gate c.reading.skip piece so rs split) so.at_gate) in
          let fewer : c.saturating_sub-skip.result ≡ c.reading.skip - length (stored c.in-Some.rec) =
          omega (arith, c.saturating_sub-skip.ensures, c.len-count.ensures, ap (λ (l : List g.row.T.Denot). length l) c.stored_in-items.ensures) in
          let room : c.args.wanted - c.len-in-reading.result ≡ c.args.wanted - length piece =
          omega (arith, c.len-in-reading.ensures, c.reading.piece.ok) in
          let more = put_is piece c.put_behind.new.piece.items c.stored_in-items.result (stored c.in-Some.rec) c.reading.skip
          (c.args.wanted - c.len-in-reading.result) c.args.wanted c.in_ok-put_behind.ensures room c.stored_in-items.ensures in
          reads_on stored before behind c.args.start.skip c.args.wanted c.reading.gate c.reading.skip piece so c.in-Some.rec c.in-Some.next
          c.saturating_sub-skip.result c.put_behind.new.piece.items there fewer more;
      few = omega (
        arith,
        ap (λ (l : List g.row.T.Denot). length l) c.in_ok-put_behind.ensures,
        length-append piece (take (c.args.wanted - c.len-in-reading.result) (drop c.reading.skip c.stored_in-items.result)),
        length-take (c.args.wanted - c.len-in-reading.result) (drop c.reading.skip c.stored_in-items.result),
        c.len-in-reading.ensures,
        c.reading.piece.ok,
        c.reading.invariant.few,
      );
      quiet = λ tells. quiet_then g.D.Disk.seen g.D.Disk.moment g.D.Disk.may_leave g.D.Disk.left_since _ _ _ (c.reading.invariant.quiet tells)
          (c.record_at.ensures.quiet tells);
      faults = omega (arith, c.reading.invariant.faults, c.record_at.ensures.cause.later);
    }

pub returns-in_err-rec-clause-found : goal.returns-in_err-rec-clause-found
returns-in_err-rec-clause-found g c = λ tells rs before behind follow rests split at enough.
    let p = err_from_is_err_and c.from_residual.result c.from_residual.ensures.1 in
    let so = c.reading.invariant.so_far tells rs before behind follow rests split at in
    let quiet = c.reading.invariant.quiet tells in
    let now = still_rests (map spell_record rs) (g.D.Disk.seen c.args.disk.now) (g.D.Disk.seen c.reading.disk) (g.D.Disk.may_leave c.args.disk.now)
    (g.D.Disk.may_leave c.reading.disk) c.args.log.now quiet.reads
    (quiet_images g.D.Disk.seen g.D.Disk.moment g.D.Disk.may_leave g.D.Disk.left_since c.args.disk.now c.reading.disk quiet) rests in
    rw (p.1, p.2) (piece_fault (before ++ so.passed) so.rest (take c.args.wanted (drop c.args.start.skip (flat_map g.T.Numbered.stored behind)))
    c.in_err-rec.field-0.0
    (c.in_err-rec.ensures.found tells rs (before ++ so.passed) so.rest follow now
    (split_at g.T.Numbered.stored before behind c.args.start.skip c.args.wanted c.reading.gate c.reading.skip c.reading.piece.items so rs split) so.at_gate))

pub returns-in_default-clause-found : goal.returns-in_default-clause-found
returns-in_default-clause-found g c = λ tells rs before behind follow rests split at enough.
    let so = c.reading.invariant.so_far tells rs before behind follow rests split at in
    let quiet = c.reading.invariant.quiet tells in
    let now = still_rests (map spell_record rs) (g.D.Disk.seen c.args.disk.now) (g.D.Disk.seen c.reading.disk) (g.D.Disk.may_leave c.args.disk.now)
    (g.D.Disk.may_leave c.reading.disk) c.args.log.now quiet.reads
    (quiet_images g.D.Disk.seen g.D.Disk.moment g.D.Disk.may_leave g.D.Disk.left_since c.args.disk.now c.reading.disk quiet) rests in
    let none = subst (λ (o : Option (Rec × ℕ)). RecordOrNot (Ok o) (before ++ so.passed) so.rest) (none_of _ c.in_default.not-Some)
    (c.in_ok-rec.ensures.found tells rs (before ++ so.passed) so.rest follow now
    (split_at g.T.Numbered.stored before behind c.args.start.skip c.args.wanted c.reading.gate c.reading.skip c.reading.piece.items so rs split) so.at_gate) in
    let short : length c.reading.piece.items < c.args.wanted = omega (arith, c.len.ensures, c.reading-test.true, c.reading.piece.ok) in
    absurd (not_ended g.T.Numbered.stored before behind c.args.start.skip c.args.wanted c.reading.gate c.reading.skip c.reading.piece.items so none enough short)

pub returns-clause-found : goal.returns-clause-found
returns-clause-found g c = λ tells rs before behind follow rests split at enough.
    let so = c.reading.invariant.so_far tells rs before behind follow rests split at in
    let full : c.args.wanted ≤ length c.reading.piece.items = omega (arith, c.len.ensures, c.reading-test.false, c.reading.piece.ok) in
    c.from_items.ensures
    ∙ whole g.T.Numbered.stored before behind c.args.start.skip c.args.wanted c.reading.gate c.reading.skip c.reading.piece.items so full
