use Rattle.std.proofs.Common.{◌≡◌, true, [], ap, sym, subst, ◌∙◌, append-nil, drop, refl, take}
use Rattle.topic_core.specs.Topics.{StandsFor, Trans}
use Rattle.effect_text.proofs.TextLaws.{one_event, times_behind}
use Rattle.effect_text.specs.Lines.{event_in, events_of}
use Rattle.life_effects.specs.Times.{times_fit}
use Rattle.engine_runs.proofs.gathering.accept_effects.Goals as goal

pub accepting-init : goal.accepting-init
accepting-init c = record {
  topics = λ events stands. subst (λ es. StandsFor es c.args.topics.now) (sym (append-nil events)) stands;
  due = λ events stands is. is ∙ ap (λ es. drop c.args.stored (Trans es)) (sym (append-nil events));
  times = refl;
}

pub accepting-preserved : goal.accepting-preserved
accepting-preserved c = record {
  topics = λ events stands.
      let on = c.accepting.invariant.topics events stands in
      subst (λ es. StandsFor es c.accept_effect.new.topics) (one_event events c.args.effects.now c.accepting.effect-index c.effect-item.result c.accepting-test.true c.effect-item.is)
      (c.in_ok-accept_effect.ensures.topics _ on);
  due = λ events stands is.
      let on = c.accepting.invariant.topics events stands in
      c.in_ok-accept_effect.ensures.due _ on (c.accepting.invariant.due events stands is)
      ∙ ap (λ es. drop c.args.stored (Trans es)) (one_event events c.args.effects.now c.accepting.effect-index c.effect-item.result c.accepting-test.true c.effect-item.is);
  times =
      subst (λ es. times_fit es ≡ true) (one_event [] c.args.effects.now c.accepting.effect-index c.effect-item.result c.accepting-test.true c.effect-item.is)
      (times_behind (events_of (take c.accepting.effect-index c.args.effects.now)) (event_in c.effect-item.result.what) c.accepting.invariant.times c.in_ok-accept_effect.ensures.times);
}
