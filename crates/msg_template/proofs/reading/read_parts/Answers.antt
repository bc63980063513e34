use Rattle.std.proofs.Common.{rules, ◌≡◌, ◌++◌, ◌∷◌, [], List, ap, sym, ◌∙◌, arith, subst}
use Rattle.std.proofs.lemmas.Result.{err_from_is_err_and}
use Rattle.msg_template.specs.declared.template.Part.{Part}
use Rattle.msg_template.specs.declared.template.Part.TheVariants as parts
use Rattle.msg_template.specs.Reading.{OneAction, words, Reads, last_words, next_action, no_end, this_action, later_action}
use Rattle.msg_template.proofs.ReadLaws.{one_action_length, more_parts}
use Rattle.msg_template.proofs.reading.read_parts.Goals as goal

pub returns-in_default-cut-clause-err : goal.returns-in_default-cut-clause-err
returns-in_default-cut-clause-err c = λ _. c.parts.invariant.refuses _ (no_end c.parts.rest.now c.in-Some.before.now c.in-Some.behind.now c.parts.at c.in-Some.ensures c.in_default-cut.ensures)

pub returns-in_err-action-clause-err : goal.returns-in_err-action-clause-err
returns-in_err-action-clause-err c =
    let p = err_from_is_err_and c.from_residual-in_err-action.result c.from_residual-in_err-action.ensures.1 in
    let one : OneAction c.parts.rest.now c.in-Some.before.now c.in-Some-cut.body.now c.in-Some-cut.others.now = record { behind = c.in-Some.behind.now; begins = c.in-Some.ensures; ends = c.in-Some-cut.ensures } in
    rw (p.1, p.2) (λ known. c.parts.invariant.refuses _ (this_action c.parts.rest.now c.in-Some.before.now c.in-Some-cut.body.now c.in-Some-cut.others.now c.parts.at _ one (c.in_err-action.ensures known)))

pub parts-preserved : goal.parts-preserved
parts-preserved c =
    let one : OneAction c.parts.rest.now c.in-Some.before.now c.in-Some-cut.body.now c.in-Some-cut.others.now = record { behind = c.in-Some.behind.now; begins = c.in-Some.ensures; ends = c.in-Some-cut.ensures } in
    let lengths = one_action_length c.parts.rest.now c.in-Some.before.now c.in-Some.behind.now c.in-Some-cut.body.now c.in-Some-cut.others.now c.in-Some.ensures c.in-Some-cut.ensures in
    let whole = c.parts.invariant.place in
    let now : c.push.new.self.items ≡ (c.parts.parts.items ++ words c.in-Some.before.now) ++ parts.Action c.in_ok-action.action ∷ [] = c.in_ok-push.ensures.items ∙ ap (λ (l : List Part). l ++ parts.Action c.in_ok-action.action ∷ []) c.in_ok-push_words.ensures.ok in
    record {
      text = search rules;
      place = omega (arith, lengths, whole);
      reads = λ others r. subst (Reads c.args.of_id c.args.text.now) (sym (more_parts c.parts.parts.items c.push.new.self.items c.in-Some.before.now c.in_ok-action.action others now))
          (c.parts.invariant.reads _ (next_action c.parts.rest.now c.in-Some.before.now c.in-Some-cut.body.now c.in-Some-cut.others.now _ c.in_ok-action.action others one c.in_ok-action.ensures r));
      refuses = λ fault r. c.parts.invariant.refuses fault (later_action c.parts.rest.now c.in-Some.before.now c.in-Some-cut.body.now c.in-Some-cut.others.now c.parts.at c.in_ok-action.action fault one c.in_ok-action.ensures r);
    }

pub returns-clause-ok : goal.returns-clause-ok
returns-clause-ok c = subst (Reads c.args.of_id c.args.text.now) (sym c.in_ok-push_words-2.ensures.ok) (c.parts.invariant.reads _ (last_words c.parts.rest.now c.in_default.ensures))
