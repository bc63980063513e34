use Rattle.std.proofs.Common.{◌++◌, ap, ◌∙◌}
use Rattle.std.specs.Option.{option_to_list}
use Rattle.topic_core.specs.Topics.{Trans}
use Rattle.effect_text.proofs.TextLaws.{line_of_none, line_of_one}
use Rattle.effect_text.proofs.effects.accept_event.Goals as goal

pub returns-in_ok-append-in-Some-clause-lines : goal.returns-in_ok-append-in-Some-clause-lines
returns-in_ok-append-in-Some-clause-lines c = λ events stands.
    let is = c.in_ok-transition.ensures.all events stands ∙ ap (λ t. Trans events ++ option_to_list t) c.in-Some.is in
    line_of_one events c.args.event.now c.in-Some.transition c.args.text.now c.append.new.self is
    (c.in_ok-append-in-Some.ensures.ok ∙ ap (λ l. c.args.text.now ++ l) (c.as_slice.ensures ∙ c.in_ok-line-in-Some.ensures))

pub returns-in-None-clause-lines : goal.returns-in-None-clause-lines
returns-in-None-clause-lines c = λ events stands.
    line_of_none events c.args.event.now c.args.text.now (c.in_ok-transition.ensures.all events stands ∙ ap (λ t. Trans events ++ option_to_list t) c.in-None.is)
