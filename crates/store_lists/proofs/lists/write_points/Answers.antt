use Rattle.std.proofs.Common.{◌≡◌, Err, List, [], ℕ, ◌≤◌, length, refl, sym, subst, ◌∙◌, arith}
use Rattle.std.proofs.lemmas.Bool.Decides.{nat_tests}
use Rattle.kap_io.specs.Moments.{quiet_start, quiet_then}
use Rattle.recording_file.specs.Printed.{record_text}
use Rattle.store_records.specs.Histories.{held}
use Rattle.topic_store.proofs.Quietly.{on_quietly}
use Rattle.store_lists.specs.Lists.{points_text}
use Rattle.store_lists.specs.Writing.{HasWritten, Lists}
use Rattle.store_lists.specs.declared.fault.ListFault.{ListFault}
use Rattle.store_lists.proofs.PieceLaws.{listing_cut, listing_next, listing_out, listing_rest, nil_of, points_failed}
use Rattle.store_lists.proofs.WriteLaws.{written_none}
use Rattle.store_lists.proofs.lists.write_points.Goals as goal

pub writing-init : goal.writing-init
writing-init g c = record {
  so_far = λ tells rs on.
      let w = g.K.Sink.written c.args.out.now in (
        record {
          passed = [];
          others = (held rs).points;
          split = refl;
          written = subst (λ (t : List ℕ). HasWritten [] t w w) (sym c.new-text.ensures) (written_none [] w);
        },
        c.read_points-reader.ensures rs on.kept,
      );
  quiet = λ tells. quiet_start g.D.Disk.seen g.D.Disk.moment g.D.Disk.may_leave g.D.Disk.left_since c.args.disk.now;
  later = omega arith;
  disk_later = omega arith;
}

pub returns-in-Err-clause-lists : goal.returns-in-Err-clause-lists
returns-in-Err-clause-lists g c = λ tells rs on.
    let there = on_quietly g.D.Disk.seen g.D.Disk.moment g.D.Disk.may_leave g.D.Disk.left_since _ _ rs c.args.store.now (c.writing.invariant.quiet tells) on in
    let s = c.writing.invariant.so_far tells rs on in
    let w = g.K.Sink.written c.args.out.now in
    let v = g.K.Sink.written c.writing.out in
    subst (λ (f : ListFault). Lists {T = Unit {0}} (Err f) (points_text (held rs).points) w v) (sym c.from.ensures)
    (points_failed record_text (held rs).points c.in-Err.fault c.writing.text w v rs s.0.others s.0 (c.in-Err.ensures.points tells rs s.0.others there s.1))

pub returns-then-is_empty-clause-lists : goal.returns-then-is_empty-clause-lists
returns-then-is_empty-clause-lists g c = λ tells rs on.
    let there = on_quietly g.D.Disk.seen g.D.Disk.moment g.D.Disk.may_leave g.D.Disk.left_since _ _ rs c.args.store.now (c.writing.invariant.quiet tells) on in
    let s = c.writing.invariant.so_far tells rs on in
    let none : length c.in-Ok.given.0.items ≡ 0 = grind (arith, nat_tests) in
    listing_rest record_text (held rs).points c.write_rest.result c.writing.text (g.K.Sink.written c.args.out.now) (g.K.Sink.written c.writing.out) (g.K.Sink.written c.write_rest.new.out) c.in-Ok.given.0.items s.0
    (c.in-Ok.ensures.points tells rs s.0.others there s.1).0 (nil_of c.in-Ok.given.0.items none) c.write_rest.ensures.lists

pub returns-in-Err-put_all-clause-lists : goal.returns-in-Err-put_all-clause-lists
returns-in-Err-put_all-clause-lists g c = λ tells rs on.
    let there = on_quietly g.D.Disk.seen g.D.Disk.moment g.D.Disk.may_leave g.D.Disk.left_since _ _ rs c.args.store.now (c.writing.invariant.quiet tells) on in
    let s = c.writing.invariant.so_far tells rs on in
    listing_cut record_text (held rs).points c.in-Err-put_all.fault c.writing.text c.put_all.new.text (g.K.Sink.written c.args.out.now) (g.K.Sink.written c.writing.out) (g.K.Sink.written c.put_all.new.out) c.deref.result.now s.0
    (c.deref.ensures.value ∙ (c.in-Ok.ensures.points tells rs s.0.others there s.1).0) c.in-Err-put_all.ensures.puts

pub writing-preserved : goal.writing-preserved
writing-preserved g c =
    let before : g.K.Sink.faults c.args.out.now ≤ g.K.Sink.faults c.writing.out = c.writing.invariant.later in
    let after : g.K.Sink.faults c.writing.out ≤ g.K.Sink.faults c.put_all.new.out = c.put_all.ensures.cause.later in
    let disk_before : g.D.Disk.faults c.args.disk.now ≤ g.D.Disk.faults c.writing.disk = c.writing.invariant.disk_later in
    let disk_after : g.D.Disk.faults c.writing.disk ≤ g.D.Disk.faults c.next.new.disk = c.next.ensures.cause.later in
    record {
      so_far = λ tells rs on.
          let there = on_quietly g.D.Disk.seen g.D.Disk.moment g.D.Disk.may_leave g.D.Disk.left_since _ _ rs c.args.store.now (c.writing.invariant.quiet tells) on in
          let s = c.writing.invariant.so_far tells rs on in
          let gives = c.in-Ok.ensures.points tells rs s.0.others there s.1 in (
            listing_next record_text (held rs).points c.writing.text c.put_all.new.text (g.K.Sink.written c.args.out.now) (g.K.Sink.written c.writing.out) (g.K.Sink.written c.put_all.new.out) c.deref.result.now s.0
                (c.deref.ensures.value ∙ gives.0) c.in_default.ensures.puts,
            gives.1,
          );
      quiet = λ tells. quiet_then g.D.Disk.seen g.D.Disk.moment g.D.Disk.may_leave g.D.Disk.left_since _ _ _ (c.writing.invariant.quiet tells) (c.next.ensures.quiet tells);
      later = omega (arith, before, after);
      disk_later = omega (arith, disk_before, disk_after);
    }

pub returns-clause-lists : goal.returns-clause-lists
returns-clause-lists g c = λ tells rs on.
    let s = c.writing.invariant.so_far tells rs on in
    listing_out record_text (held rs).points c.writing.text (g.K.Sink.written c.args.out.now) (g.K.Sink.written c.writing.out) s.0
