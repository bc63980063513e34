use Rattle.std.proofs.Common.{List, [], ◌∷◌, ◌++◌, sym, ap, ◌∙◌, append_assoc}
use Rattle.std.specs.Option.{option_to_list}
use Rattle.topic_core.specs.Topics.{Trans}
use Rattle.topic_core.specs.declared.transition.Transition.{Transition}
use Rattle.effect_text.proofs.effects.tell_event.Goals as goal

pub returns-in_ok-push-in-Some-clause-lines : goal.returns-in_ok-push-in-Some-clause-lines
returns-in_ok-push-in-Some-clause-lines c = c.in_ok-transition.ensures.lines

pub returns-in_ok-push-in-Some-clause-told : goal.returns-in_ok-push-in-Some-clause-told
returns-in_ok-push-in-Some-clause-told c = λ events before stands is.
    c.in_ok-transition.ensures.all events stands
    ∙ ap (λ o. Trans events ++ option_to_list o) c.in-Some.is
    ∙ ap (λ (l : List Transition). l ++ c.in-Some.transition ∷ []) is
    ∙ append_assoc before c.args.told.now.items (c.in-Some.transition ∷ [])
    ∙ ap (λ (l : List Transition). before ++ l) (sym c.in_ok-push-in-Some.ensures.items)

pub returns-in_ok-push-in-Some-clause-topics : goal.returns-in_ok-push-in-Some-clause-topics
returns-in_ok-push-in-Some-clause-topics c = c.in_ok-transition.ensures.topics

pub returns-in-None-clause-lines : goal.returns-in-None-clause-lines
returns-in-None-clause-lines c = c.in_ok-transition.ensures.lines
