use Rattle.std.proofs.Common.{Err, List, [], ℕ, ◌+◌, ◌≤◌, length, refl, sym, ap, subst, ◌∙◌, arith, length-append}
use Rattle.kap_io.specs.Moments.{quiet_start, quiet_then}
use Rattle.store_records.specs.Histories.{held}
use Rattle.topic_core.specs.Print.{transition_line}
use Rattle.topic_store.specs.Pieces.{piece_behind}
use Rattle.topic_store.proofs.Quietly.{on_quietly}
use Rattle.store_lists.specs.Lists.{transitions_text}
use Rattle.store_lists.specs.Writing.{HasWritten, Lists}
use Rattle.store_lists.specs.declared.fault.ListFault.{ListFault}
use Rattle.store_lists.proofs.PieceLaws.{listing_cut, listing_next, listing_out, listing_rest, piece_failed, piece_next}
use Rattle.store_lists.proofs.WriteLaws.{written_none}
use Rattle.store_lists.proofs.lists.write_transitions.Goals as goal

pub writing-init : goal.writing-init
writing-init g c = record {
  so_far = λ tells rs on.
      let w = g.K.Sink.written c.args.out.now in (
        record {
          passed = [];
          others = (held rs).transitions;
          split = refl;
          written = subst (λ (t : List ℕ). HasWritten [] t w w) (sym c.new-text.ensures) (written_none [] w);
        },
        refl,
      );
  quiet = λ tells. quiet_start g.D.Disk.seen g.D.Disk.moment g.D.Disk.may_leave g.D.Disk.left_since c.args.disk.now;
  later = omega arith;
  disk_later = omega arith;
}

pub returns-in-Err-clause-lists : goal.returns-in-Err-clause-lists
returns-in-Err-clause-lists g c = λ tells rs on.
    let there = on_quietly g.D.Disk.seen g.D.Disk.moment g.D.Disk.may_leave g.D.Disk.left_since _ _ rs c.args.store.now (c.writing.invariant.quiet tells) on in
    let s = c.writing.invariant.so_far tells rs on in
    let w = g.K.Sink.written c.args.out.now in
    let v = g.K.Sink.written c.writing.out in
    subst (λ (f : ListFault). Lists {T = Unit {0}} (Err f) (transitions_text (held rs).transitions) w v) (sym c.from.ensures)
    (piece_failed transition_line (held rs).transitions c.in-Err.fault c.writing.text w v (piece_behind c.writing.after (held rs).transitions) s.0 (c.in-Err.ensures.transitions tells rs there))

pub returns-then-is_empty-clause-lists : goal.returns-then-is_empty-clause-lists
returns-then-is_empty-clause-lists g c = λ tells rs on.
    let there = on_quietly g.D.Disk.seen g.D.Disk.moment g.D.Disk.may_leave g.D.Disk.left_since _ _ rs c.args.store.now (c.writing.invariant.quiet tells) on in
    let s = c.writing.invariant.so_far tells rs on in
    let w = g.K.Sink.written c.args.out.now in
    let v = g.K.Sink.written c.writing.out in
    listing_rest transition_line (held rs).transitions c.write_rest.result c.writing.text w v (g.K.Sink.written c.write_rest.new.out) c.in-Ok.piece s.0
    (piece_next transition_line (held rs).transitions c.writing.text w v c.in-Ok.piece c.writing.after s.0 s.1 (c.in-Ok.ensures.transitions tells rs there)) (c.is_empty.ensures.0 c.if-is_empty.true) c.write_rest.ensures.lists

pub returns-in-Err-put_all-clause-lists : goal.returns-in-Err-put_all-clause-lists
returns-in-Err-put_all-clause-lists g c = λ tells rs on.
    let there = on_quietly g.D.Disk.seen g.D.Disk.moment g.D.Disk.may_leave g.D.Disk.left_since _ _ rs c.args.store.now (c.writing.invariant.quiet tells) on in
    let s = c.writing.invariant.so_far tells rs on in
    let w = g.K.Sink.written c.args.out.now in
    let v = g.K.Sink.written c.writing.out in
    listing_cut transition_line (held rs).transitions c.in-Err-put_all.fault c.writing.text c.put_all.new.text w v (g.K.Sink.written c.put_all.new.out) c.as_slice.result.now s.0
    (c.as_slice.ensures ∙ piece_next transition_line (held rs).transitions c.writing.text w v c.in-Ok.piece c.writing.after s.0 s.1 (c.in-Ok.ensures.transitions tells rs there)) c.in-Err-put_all.ensures.puts

pub returns-in_default-checked_add-clause-lists : goal.returns-in_default-checked_add-clause-lists
returns-in_default-checked_add-clause-lists g c = λ tells rs on.
    let there = on_quietly g.D.Disk.seen g.D.Disk.moment g.D.Disk.may_leave g.D.Disk.left_since _ _ rs c.args.store.now (c.writing.invariant.quiet tells) on in
    let s = c.writing.invariant.so_far tells rs on in
    let w = g.K.Sink.written c.args.out.now in
    let v = g.K.Sink.written c.writing.out in
    let x = g.K.Sink.written c.put_all.new.out in
    listing_out transition_line (held rs).transitions c.put_all.new.text w x
    (listing_next transition_line (held rs).transitions c.writing.text c.put_all.new.text w v x c.as_slice.result.now s.0
    (c.as_slice.ensures ∙ piece_next transition_line (held rs).transitions c.writing.text w v c.in-Ok.piece c.writing.after s.0 s.1 (c.in-Ok.ensures.transitions tells rs there)) c.in_default.ensures.puts)

pub writing-preserved : goal.writing-preserved
writing-preserved g c =
    let before : g.K.Sink.faults c.args.out.now ≤ g.K.Sink.faults c.writing.out = c.writing.invariant.later in
    let after : g.K.Sink.faults c.writing.out ≤ g.K.Sink.faults c.put_all.new.out = c.put_all.ensures.cause.later in
    let disk_before : g.D.Disk.faults c.args.disk.now ≤ g.D.Disk.faults c.writing.disk = c.writing.invariant.disk_later in
    let disk_after : g.D.Disk.faults c.writing.disk ≤ g.D.Disk.faults c.transitions.new.disk = c.transitions.ensures.cause.later in
    record {
      so_far = λ tells rs on.
          let there = on_quietly g.D.Disk.seen g.D.Disk.moment g.D.Disk.may_leave g.D.Disk.left_since _ _ rs c.args.store.now (c.writing.invariant.quiet tells) on in
          let s = c.writing.invariant.so_far tells rs on in
          let w = g.K.Sink.written c.args.out.now in
          let v = g.K.Sink.written c.writing.out in
          let x = g.K.Sink.written c.put_all.new.out in (
            listing_next transition_line (held rs).transitions c.writing.text c.put_all.new.text w v x c.as_slice.result.now s.0
                (c.as_slice.ensures ∙ piece_next transition_line (held rs).transitions c.writing.text w v c.in-Ok.piece c.writing.after s.0 s.1 (c.in-Ok.ensures.transitions tells rs there)) c.in_default.ensures.puts,
            c.in-Some.ensures.1 ∙ ap (λ (n : ℕ). c.writing.after + n) (c.len.ensures ∙ sym (ap length c.as_slice.ensures)) ∙ ap (λ (n : ℕ). n + length c.as_slice.result.now) s.1 ∙ sym (length-append s.0.passed c.as_slice.result.now),
          );
      quiet = λ tells. quiet_then g.D.Disk.seen g.D.Disk.moment g.D.Disk.may_leave g.D.Disk.left_since _ _ _ (c.writing.invariant.quiet tells) (c.transitions.ensures.quiet tells);
      later = omega (arith, before, after);
      disk_later = omega (arith, disk_before, disk_after);
    }

pub returns-clause-lists : goal.returns-clause-lists
returns-clause-lists g c = λ tells rs on.
    let s = c.writing.invariant.so_far tells rs on in
    listing_out transition_line (held rs).transitions c.writing.text (g.K.Sink.written c.args.out.now) (g.K.Sink.written c.writing.out) s.0
