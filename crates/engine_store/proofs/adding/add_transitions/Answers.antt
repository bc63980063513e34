use Rattle.std.proofs.Common.{◌≡◌, ◌<◌, ◌≤◌, ◌++◌, length, List, [], refl, sym, ap, ◌∙◌, append-nil, append_assoc, arith}
use Rattle.std.proofs.lemmas.Bool.Decides.{nat_tests}
use Rattle.kap_io.specs.Moments.{no_call, then_run}
use Rattle.topic_core.specs.declared.transition.Transition.{Transition}
use Rattle.engine_store.proofs.AddLaws.{added_all, adding_more, adding_none, came_behind, cut_at, next_may, none_yet, some_of}
use Rattle.engine_store.proofs.PassLaws.{nil_of}
use Rattle.engine_store.proofs.adding.add_transitions.Goals as goal

not_none : (rest : List Transition) → rest ≡ [] → 0 < length rest → ⊥
not_none rest e lt = let none : length rest ≡ 0 = ap length e in omega (arith, none, lt)

pub adding-init : goal.adding-init
adding-init g c = record {
  so_far = λ tells rs on may. adding_none rs c.args.due.items (g.D.Disk.seen c.args.disk.now) (g.D.Disk.may_leave c.args.disk.now) c.args.store.now on;
  moments = λ tells rs on may. no_call g.D.Disk.moment g.D.Disk.may_leave g.D.Disk.left_since c.args.disk.now _ (λ i left. none_yet rs c.args.due.items _ _ _ on i left);
  given = sym (ap (λ (l : List Transition). l ++ c.args.due.items) c.new-given.ensures.items);
  none = λ e. (e, refl);
  usable = c.requires.usable;
  valid = λ v. v;
  later = omega arith;
}

pub returns-in-Err-add_piece-clause-any_moment : goal.returns-in-Err-add_piece-clause-any_moment
returns-in-Err-add_piece-clause-any_moment g c = λ tells rs on may.
    let a = c.adding.invariant.so_far tells rs on may in
    let some : 0 < length c.adding.rest.items = grind (arith, nat_tests) in
    let cut =
    cut_at c.piece_len-count.result c.adding.rest.items c.deref.result.now c.split_off.new.self.items c.from_items.result c.in-Ok.behind.items c.deref.ensures.value c.in-Ok.ensures.items c.from_items.ensures c.in-Ok.ensures.tail some
    c.piece_len-count.ensures.some c.piece_len-count.ensures.within c.piece_len-count.ensures.closed c.piece_len-count.ensures.over in
    let next = next_may rs c.args.due.items c.adding.rest.items c.from_items.result c.in-Ok.behind.items _ _ _ a cut may in
    then_run g.D.Disk.moment g.D.Disk.may_leave g.D.Disk.left_since c.args.disk.now c.adding.disk c.add_piece.new.disk _ _ _
    (c.adding.invariant.moments tells rs on may) (c.add_piece.ensures.any_moment tells a.records a.on next cut.some cut.closed)
    (λ x y was how. how)
    (λ x y z was how left s. some_of rs c.args.due.items c.adding.rest.items c.from_items.result c.in-Ok.behind.items _ _ _ a cut z s)

pub returns-then-is_err-clause-any_moment : goal.returns-then-is_err-clause-any_moment
returns-then-is_err-clause-any_moment g c = λ tells rs on may.
    let a = c.adding.invariant.so_far tells rs on may in
    let some : 0 < length c.adding.rest.items = grind (arith, nat_tests) in
    let cut =
    cut_at c.piece_len-count.result c.adding.rest.items c.deref.result.now c.split_off.new.self.items c.from_items.result c.in-Ok.behind.items c.deref.ensures.value c.in-Ok.ensures.items c.from_items.ensures c.in-Ok.ensures.tail some
    c.piece_len-count.ensures.some c.piece_len-count.ensures.within c.piece_len-count.ensures.closed c.piece_len-count.ensures.over in
    let next = next_may rs c.args.due.items c.adding.rest.items c.from_items.result c.in-Ok.behind.items _ _ _ a cut may in
    then_run g.D.Disk.moment g.D.Disk.may_leave g.D.Disk.left_since c.args.disk.now c.adding.disk c.add_piece.new.disk _ _ _
    (c.adding.invariant.moments tells rs on may) (c.add_piece.ensures.any_moment tells a.records a.on next cut.some cut.closed)
    (λ x y was how. how)
    (λ x y z was how left s. some_of rs c.args.due.items c.adding.rest.items c.from_items.result c.in-Ok.behind.items _ _ _ a cut z s)

pub adding-preserved : goal.adding-preserved
adding-preserved g c =
    let some : 0 < length c.adding.rest.items = grind (arith, nat_tests) in
    let cut =
    cut_at c.piece_len-count.result c.adding.rest.items c.deref.result.now c.split_off.new.self.items c.from_items.result c.in-Ok.behind.items c.deref.ensures.value c.in-Ok.ensures.items c.from_items.ensures c.in-Ok.ensures.tail some
    c.piece_len-count.ensures.some c.piece_len-count.ensures.within c.piece_len-count.ensures.closed c.piece_len-count.ensures.over in
    let before : g.D.Disk.faults c.args.disk.now ≤ g.D.Disk.faults c.adding.disk = c.adding.invariant.later in
    let after : g.D.Disk.faults c.adding.disk ≤ g.D.Disk.faults c.add_piece.new.disk = c.add_piece.ensures.later in
    let long =
    came_behind c.append.result c.adding.given.items c.into_items-items.result.items c.append.new.self.items c.append.ensures.items (sym c.is_err.ensures.value ∙ c.if-is_err.false)
    ∙ ap (λ (l : List Transition). c.adding.given.items ++ l) (c.into_items-items.ensures ∙ c.in-Ok-add_piece.ensures.same) in
    record {
      so_far = λ tells rs on may.
          let a = c.adding.invariant.so_far tells rs on may in
          let next = next_may rs c.args.due.items c.adding.rest.items c.from_items.result c.in-Ok.behind.items _ _ _ a cut may in
          adding_more rs c.args.due.items c.adding.rest.items c.from_items.result c.in-Ok.behind.items _ _ _ a cut _ _ _ (c.in-Ok-add_piece.ensures.added tells a.records a.on next);
      moments = λ tells rs on may.
          let a = c.adding.invariant.so_far tells rs on may in
          let next = next_may rs c.args.due.items c.adding.rest.items c.from_items.result c.in-Ok.behind.items _ _ _ a cut may in
          then_run g.D.Disk.moment g.D.Disk.may_leave g.D.Disk.left_since c.args.disk.now c.adding.disk c.add_piece.new.disk _ _ _
          (c.adding.invariant.moments tells rs on may) (c.add_piece.ensures.any_moment tells a.records a.on next cut.some cut.closed)
          (λ x y was how. how)
          (λ x y z was how left s. some_of rs c.args.due.items c.adding.rest.items c.from_items.result c.in-Ok.behind.items _ _ _ a cut z s);
      given =
          c.adding.invariant.given
          ∙ ap (λ (l : List Transition). c.adding.given.items ++ l) cut.split
          ∙ sym (append_assoc c.adding.given.items c.from_items.result c.in-Ok.behind.items)
          ∙ ap (λ (l : List Transition). l ++ c.in-Ok.behind.items) (sym long);
      none = λ e. absurd (not_none c.adding.rest.items (c.adding.invariant.none e).0 some);
      usable = c.in-Ok-add_piece.ensures.usable;
      valid = λ v. c.add_piece.ensures.valid (c.adding.invariant.valid v);
      later = omega (arith, before, after);
    }

pub returns-clause-added : goal.returns-clause-added
returns-clause-added g c = λ tells rs on may.
    added_all rs c.args.due.items c.adding.rest.items _ _ _ (c.adding.invariant.so_far tells rs on may) (nil_of c.adding.rest.items (let none : length c.adding.rest.items ≡ 0 = grind (arith, nat_tests) in none))

pub returns-clause-same : goal.returns-clause-same
returns-clause-same g c =
    let none : length c.adding.rest.items ≡ 0 = grind (arith, nat_tests) in
    c.from_items-2.ensures ∙ sym (append-nil c.adding.given.items) ∙ ap (λ (l : List Transition). c.adding.given.items ++ l) (sym (nil_of c.adding.rest.items none)) ∙ sym c.adding.invariant.given
