use Rattle.std.proofs.Common.{◌≡◌, ◌++◌, ◌∙◌, [], ◌∷◌, List, Option, rules, subst, sym}
use Rattle.std.specs.FinMap.{get}
use Rattle.std.specs.Int.{w64}
use Rattle.std.specs.Option.{option_to_list}
use Rattle.std.proofs.lemmas.Int.{to_z-of_z}
use Rattle.kap_base.specs.Points.{PointValue}
use Rattle.kap_base.specs.declared.value.Value.{Value}
use Rattle.select_nodes.specs.Choices.{at_end}
use Rattle.select_nodes.specs.Picks.{PickValue}
use Rattle.select_nodes.specs.Steps.{Told}
use Rattle.select_nodes.proofs.DistinctLaws.{told_again, told_new}
use Rattle.kap_base.proofs.EntryLaws.{field_is_value}
use Rattle.select_nodes.proofs.distinct.tell.Goals as goal

pub invariant_of-push : goal.invariant_of-push
invariant_of-push c = record {
  value = rw c.in_ok-value.ensures (field_is_value c.point.inside.fields c.args.field.now c.in-Some.value.now c.point.invariant.fields (sym c.in-Some.ensures));
  time = search rules;
}

pub returns-in_ok-push : goal.returns-in_ok-push
returns-in_ok-push c = λ vs told.
    let items : c.push.new.self.items ≡ c.args.picks.now.items ++ at_end c.args.tmax c.in-Some.value.now ∷ [] =
    c.in_ok-push.ensures.items
    ∙ (λ i. c.args.picks.now.items ++ record { value = c.in_ok-value.ensures i; time = to_z-of_z w64 c.args.tmax c.ranges.tmax i } ∷ []) in
    subst (λ (p : PointValue). Told c.args.tmax (vs ++ option_to_list (get p.fields c.args.field.now)) c.is_new.new.seen.keys c.push.new.self.items)
    c.point.view_is
    (subst (λ (o : Option Value). Told c.args.tmax (vs ++ option_to_list o) c.is_new.new.seen.keys c.push.new.self.items) c.in-Some.ensures
    (subst (λ (l : List PickValue). Told c.args.tmax (vs ++ c.in-Some.value.now ∷ []) c.is_new.new.seen.keys l) (sym items)
    (told_new c.args.tmax vs c.in-Some.value.now c.args.seen.now.keys c.is_new.new.seen.keys c.args.picks.now.items told
    (sym c.in_ok-is_new.ensures.new ∙ c.if-branch.true) c.in_ok-is_new.ensures.seen)))

pub returns-else-branch : goal.returns-else-branch
returns-else-branch c = λ vs told.
    subst (λ (p : PointValue). Told c.args.tmax (vs ++ option_to_list (get p.fields c.args.field.now)) c.is_new.new.seen.keys c.args.picks.now.items)
    c.point.view_is
    (subst (λ (o : Option Value). Told c.args.tmax (vs ++ option_to_list o) c.is_new.new.seen.keys c.args.picks.now.items) c.in-Some.ensures
    (told_again c.args.tmax vs c.in-Some.value.now c.args.seen.now.keys c.is_new.new.seen.keys c.args.picks.now.items told
    (sym c.in_ok-is_new.ensures.new ∙ c.if-branch.false) c.in_ok-is_new.ensures.seen))
