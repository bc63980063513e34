use Rattle.std.proofs.Common.{◌≡◌, ◌≤◌, ◌^◌, ◌∙◌, ◌++◌, [], ap, arith, length, subst, sym}
use Rattle.std.proofs.lemmas.Bool.{eq-eqb, eqb-true, false≢true}
use Rattle.std.proofs.lemmas.List.{nil_from_length}
use Rattle.std.specs.List.{AllZip}
use Rattle.std.specs.Int.{w32}
use Rattle.state_code.specs.Places.{Passes}
use Rattle.state_code.specs.Spelling.{read_number, value_then}
use Rattle.barrier_snapshot.specs.Captures.{in_lives}
use Rattle.barrier_snapshot.specs.Loading.{AreInStates, IsSameLife}
use Rattle.barrier_snapshot.specs.Reading.{StopsBy, read_each}
use Rattle.barrier_snapshot.proofs.FaultLaws.{from_start, other_number, too_many_states, with_more, without_number, without_state}
use Rattle.barrier_snapshot.proofs.LifeLaws.{same_fault, same_offset, stops_at, stops_none, taken_at}
use Rattle.barrier_snapshot.proofs.ReadLaws.{capture_only, more_behind, no_number, no_states, other_count, too_many}
use Rattle.barrier_snapshot.proofs.loading.load_capture.Goals as goal

pub returns-in-Err-clause-at : goal.returns-in-Err-clause-at
returns-in-Err-clause-at g c = λ offset states e is.
    let node = g.N.Node in
    let none = (taken_at (read_number w32) c.new-from.result c.u32.new.self c.in-Err.fault offset (same_fault c.in-Err.fault _ e) c.in-Err.ensures).none in
    no_number g.met.N.Node.spelled (in_lives node.spec c.args.plans.items) states c.args.bytes.now (ap (λ p. read_number w32 p.rest) (sym c.new-from.ensures) ∙ none) is

pub returns-in_default-clause-at : goal.returns-in_default-clause-at
returns-in_default-clause-at g c = λ offset states e is.
    let node = g.N.Node in
    too_many g.met.N.Node.spelled (in_lives node.spec c.args.plans.items) states c.args.bytes.now (subst (λ l. 2 ^ 32 ≤ length (in_lives node.spec l)) c.deref.ensures.value c.in_default.ensures) is

pub returns-then-own-number-clause-at : goal.returns-then-own-number-clause-at
returns-then-own-number-clause-at g c = λ offset states e is.
    let node = g.N.Node in
    let own = c.in-Some.ensures ∙ ap (λ l. length (in_lives node.spec l)) c.deref.ensures.value in
    let number = ap (λ p. read_number w32 p.rest) (sym c.new-from.ensures) ∙ c.in-Ok.ensures.reads in
    other_count g.met.N.Node.spelled (in_lives node.spec c.args.plans.items) states c.args.bytes.now c.u32.new.self.rest c.in-Ok.number number (λ same. c.if-own-number.true (own ∙ sym same)) is

pub returns-in-Err-load_lives-clause-at : goal.returns-in-Err-load_lives-clause-at
returns-in-Err-load_lives-clause-at g c = λ offset states e is.
    let node = g.N.Node in
    let number = ap (λ p. read_number w32 p.rest) (sym c.new-from.ensures) ∙ c.in-Ok.ensures.reads in
    let stops = subst (λ l. StopsBy node.read (in_lives node.spec l) c.u32.new.self c.in-Err-load_lives.fault) c.into_iter.ensures.rest c.in-Err-load_lives.ensures.err in
    let none = stops_none node.read (in_lives node.spec c.args.plans.items) c.u32.new.self offset (stops_at node.read (in_lives node.spec c.args.plans.items) c.u32.new.self c.in-Err-load_lives.fault offset (same_fault c.in-Err-load_lives.fault _ e) stops) in
    no_states g.met.N.Node.spelled (in_lives node.spec c.args.plans.items) states c.args.bytes.now c.u32.new.self.rest c.in-Ok.number number none is

pub returns-then-not-is_done-clause-at : goal.returns-then-not-is_done-clause-at
returns-then-not-is_done-clause-at g c = λ offset states e is.
    let node = g.N.Node in
    let loads = c.in_default-load_lives.ensures.ok in
    let more = c.load_lives.new.from.rest in
    let number = ap (λ p. read_number w32 p.rest) (sym c.new-from.ensures) ∙ c.in-Ok.ensures.reads in
    let reads = subst (λ l. read_each node.read (in_lives node.spec l) c.u32.new.self.rest ≡ value_then (in_lives node.state loads.loaded) more) c.into_iter.ensures.rest loads.passes.reads in
    more_behind g.met.N.Node.spelled (in_lives node.spec c.args.plans.items) states (in_lives node.state loads.loaded) c.args.bytes.now c.u32.new.self.rest more c.in-Ok.number number reads (λ none. false≢true (c.if-not-is_done.ensures ∙ eq-eqb (length more) 0 (ap (λ l. length l) none))) is

pub returns-in-Err-clause-named : goal.returns-in-Err-clause-named
returns-in-Err-clause-named g c = λ offset e.
    let refuses = taken_at (read_number w32) c.new-from.result c.u32.new.self c.in-Err.fault offset (same_fault c.in-Err.fault _ e) c.in-Err.ensures in
    without_number g.met.N.Node.spelled (in_lives g.N.Node.spec c.args.plans.items) c.args.bytes.now offset (refuses.named ∙ ap (λ p. p.offset) c.new-from.ensures) (ap (λ p. read_number w32 p.rest) (sym c.new-from.ensures) ∙ refuses.none)

pub returns-in_default-clause-named : goal.returns-in_default-clause-named
returns-in_default-clause-named g c = λ offset e.
    let node = g.N.Node in
    too_many_states g.met.N.Node.spelled (in_lives node.spec c.args.plans.items) c.args.bytes.now offset (sym (same_offset 0 offset e)) (subst (λ l. 2 ^ 32 ≤ length (in_lives node.spec l)) c.deref.ensures.value c.in_default.ensures)

pub returns-then-own-number-clause-named : goal.returns-then-own-number-clause-named
returns-then-own-number-clause-named g c = λ offset e.
    let node = g.N.Node in
    let own = c.in-Some.ensures ∙ ap (λ l. length (in_lives node.spec l)) c.deref.ensures.value in
    let number = ap (λ p. read_number w32 p.rest) (sym c.new-from.ensures) ∙ c.in-Ok.ensures.reads in
    other_number g.met.N.Node.spelled (in_lives node.spec c.args.plans.items) c.args.bytes.now c.u32.new.self.rest c.in-Ok.number offset (sym (same_offset 0 offset e)) number (λ same. c.if-own-number.true (own ∙ sym same))

pub returns-in-Err-load_lives-clause-named : goal.returns-in-Err-load_lives-clause-named
returns-in-Err-load_lives-clause-named g c = λ offset e.
    let node = g.N.Node in
    let specs = in_lives node.spec c.args.plans.items in
    let own = c.in-Some.ensures ∙ ap (λ l. length (in_lives node.spec l)) c.deref.ensures.value in
    let number = ap (λ p. read_number w32 p.rest) (sym c.new-from.ensures) ∙ c.in-Ok.ensures.reads in
    let from = from_start c.args.bytes.now c.new-from.result c.u32.new.self c.new-from.ensures c.in-Ok.ensures.offset in
    let stops = subst (λ l. StopsBy node.read (in_lives node.spec l) c.u32.new.self c.in-Err-load_lives.fault) c.into_iter.ensures.rest c.in-Err-load_lives.ensures.err in
    without_state g.met.N.Node.spelled specs c.args.bytes.now c.u32.new.self c.in-Ok.number offset (λ i. omega (arith, c.type_inv.bytes i)) number from (sym c.if-own-number.false ∙ own)
    (stops_at node.read specs c.u32.new.self c.in-Err-load_lives.fault offset (same_fault c.in-Err-load_lives.fault _ e) stops)

pub returns-then-not-is_done-clause-named : goal.returns-then-not-is_done-clause-named
returns-then-not-is_done-clause-named g c = λ offset e.
    let node = g.N.Node in
    let loads = c.in_default-load_lives.ensures.ok in
    let more = c.load_lives.new.from.rest in
    let own = c.in-Some.ensures ∙ ap (λ l. length (in_lives node.spec l)) c.deref.ensures.value in
    let number = ap (λ p. read_number w32 p.rest) (sym c.new-from.ensures) ∙ c.in-Ok.ensures.reads in
    let from = from_start c.args.bytes.now c.new-from.result c.u32.new.self c.new-from.ensures c.in-Ok.ensures.offset in
    let passes = subst (λ l. Passes (read_each node.read (in_lives node.spec l)) c.u32.new.self c.load_lives.new.from (in_lives node.state loads.loaded)) c.into_iter.ensures.rest loads.passes in
    with_more g.met.N.Node.spelled (in_lives node.spec c.args.plans.items) c.args.bytes.now c.u32.new.self c.load_lives.new.from (in_lives node.state loads.loaded) c.in-Ok.number offset (λ i. omega (arith, c.type_inv.bytes i)) number from (sym c.if-own-number.false ∙ own) passes
    (sym (same_offset _ offset e) ∙ c.offset.ensures) (λ none. false≢true (c.if-not-is_done.ensures ∙ eq-eqb (length more) 0 (ap (λ l. length l) none)))

pub returns-clause-ok : goal.returns-clause-ok
returns-clause-ok g c =
    let node = g.N.Node in
    let loads = c.in_default-load_lives.ensures.ok in
    let plans = c.args.plans.items in
    let more = c.load_lives.new.from.rest in
    let own = c.in-Some.ensures ∙ ap (λ l. length (in_lives node.spec l)) c.deref.ensures.value in
    let number = ap (λ p. read_number w32 p.rest) (sym c.new-from.ensures) ∙ c.in-Ok.ensures.reads in
    let reads = subst (λ l. read_each node.read (in_lives node.spec l) c.u32.new.self.rest ≡ value_then (in_lives node.state loads.loaded) more) c.into_iter.ensures.rest loads.passes.reads in
    let none : more ≡ [] = nil_from_length more (eqb-true _ _ (sym c.if-not-is_done.ensures)) in
    let here : AreInStates node plans c.args.bytes.now loads.loaded = record {
      same = subst (λ l. AllZip (IsSameLife node.spec) l loads.loaded) c.into_iter.ensures.rest loads.same;
      states = capture_only g.met.N.Node.spelled (in_lives node.spec plans) (in_lives node.state loads.loaded) c.args.bytes.now c.u32.new.self.rest more c.in-Ok.number (λ i. omega (arith, c.type_inv.bytes i)) number (sym c.if-own-number.false ∙ own) reads none;
    } in
    subst (AreInStates node plans c.args.bytes.now) (sym (loads.added ∙ ap (λ l. l ++ loads.loaded) c.new-loaded.ensures.items)) here
