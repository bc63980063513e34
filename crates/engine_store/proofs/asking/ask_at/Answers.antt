use Rattle.std.proofs.Common.{◌≡◌, ◌≤◌, ℕ, List, None, Option, Some, length, sym, subst, ◌∙◌}
use Rattle.std.specs.Prelude.{IfSome, option_map}
use Rattle.kap_base.specs.declared.limits.TheConstants.{SCRIPT_LIMIT}
use Rattle.engine_store.specs.Asking.{IsLastAsked, IsScript, IsWhyAt}
use Rattle.engine_store.proofs.AskLaws.{why_among}
use Rattle.engine_store.proofs.PassLaws.{next_among, next_holds, passed_more}
use Rattle.engine_store.proofs.asking.ask_at.Goals as goal
use Rattle.engine_store.proofs.asking.ask_at.Goals.{else-place-via-then-place+else-not-is_last, else-place-via-else-place}

last_script : {A : Type 0} (now : A → List ℕ) (asked : Option A) (text : List ℕ) → IfSome asked (λ a. IsScript (now a)) → IsLastAsked (option_map now asked) text → IsScript text
last_script now None text s l = absurd l
last_script now (Some a) text s l = subst IsScript l s

pub ask-requires : goal.ask-requires
ask-requires g c =
    let text = g.T.Defined.text in
    subst (λ (t : List ℕ). length t ≤ SCRIPT_LIMIT) (sym c.text-then-not-is_last.ensures)
    (next_holds (λ item. g.T.Defined.place item ≡ c.args.place → IsScript (text item)) (λ item. length (text item) ≤ SCRIPT_LIMIT) c.args.items.now c.asking.rest.now c.in-Some.others.now c.in-Some.item.now
    c.asking.invariant.items c.in-Some.ensures.cases.0 c.requires.short)

pub returns-in-Err-clause-why : goal.returns-in-Err-clause-why
returns-in-Err-clause-why g c =
    let text = g.T.Defined.text in
    let now = g.P.Patterns.refusals c.ask.new.pats in
    let refused = g.P.Patterns.refused c.ask.new.pats in
    why_among (g.P.Patterns.refusals c.args.pats.now) now refused g.T.Defined.place text c.args.items.now c.in-Some.item.now c.args.place c.in-Err.fault
    (next_among (λ item. g.T.Defined.place item ≡ c.args.place → IsScript (text item)) c.args.items.now c.asking.rest.now c.in-Some.others.now c.in-Some.item.now c.asking.invariant.items c.in-Some.ensures.cases.0)
    (sym c.place.ensures ∙ c.if-place.true)
    (subst (λ (t : List ℕ). IsWhyAt (g.P.Patterns.refusals c.args.pats.now) now refused c.args.place t c.in-Err.fault) c.text-then-not-is_last.ensures
    (subst (λ (n : ℕ). IsWhyAt n now refused c.args.place c.text-then-not-is_last.result.now c.in-Err.fault) c.asking.invariant.kept c.in-Err.ensures.why))

pub asking-preserved-in_default-ask : goal.asking-preserved-in_default-ask
asking-preserved-in_default-ask g c =
    let text = g.T.Defined.text in
    let is : IsScript (text c.in-Some.item.now) = subst IsScript c.text-then-not-is_last.ensures c.in_default-ask.ensures.ok in
    record {
      items =
          passed_more (λ item. g.T.Defined.place item ≡ c.args.place → IsScript (text item)) c.args.items.now c.asking.rest.now c.in-Some.others.now c.in-Some.item.now c.asking.invariant.items c.in-Some.ensures.cases.0
          (λ same. is);
      asked = subst IsScript (sym c.text-then-not-is_last-2.ensures) is;
      kept = c.in_default-ask.ensures.kept ∙ c.asking.invariant.kept;
    }

pub asking-preserved : goal.asking-preserved
asking-preserved g c =
    let text = g.T.Defined.text in
    let at = g.T.Defined.place in
    record {
      items =
          passed_more (λ item. at item ≡ c.args.place → IsScript (text item)) c.args.items.now c.asking.rest.now c.in-Some.others.now c.in-Some.item.now c.asking.invariant.items c.in-Some.ensures.cases.0
          (λ same. elim c.else-place.branch [
            | else-place-via-then-place+else-not-is_last w ↦ subst IsScript w.text.ensures (last_script (λ a. a.now) c.asking.asked w.text.result.now c.asking.invariant.asked (w.is_last.ensures w.if-not-is_last.false))
            | else-place-via-else-place w ↦ absurd (w.if-place.false (c.place.ensures ∙ same))
          ]);
      asked = c.asking.invariant.asked;
      kept = c.asking.invariant.kept;
    }
