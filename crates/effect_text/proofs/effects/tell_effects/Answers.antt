use Rattle.std.proofs.Common.{◌≡◌, true, [], ap, refl, sym, subst, take, ◌∙◌, append-nil}
use Rattle.topic_core.specs.Topics.{StandsFor, Trans}
use Rattle.std.specs.List.{list_all}
use Rattle.kap_base.specs.Points.{is_time}
use Rattle.effect_text.proofs.TextLaws.{no_text, one_event, one_text, times_behind}
use Rattle.effect_text.specs.Lines.{event_in, events_of}
use Rattle.effect_text.proofs.effects.tell_effects.Goals as goal

pub putting-init : goal.putting-init
putting-init c = record {
  text = λ events stands. no_text c.args.tasks.now events c.args.text.now;
  topics = λ events stands. subst (λ es. StandsFor es c.args.topics.now) (sym (append-nil events)) stands;
  told = λ events before stands is. ap Trans (append-nil events) ∙ is;
  times = refl;
}

pub putting-preserved : goal.putting-preserved
putting-preserved c = record {
  text = λ events stands.
      let on = c.putting.invariant.topics events stands in
      one_text c.args.tasks.now events c.args.effects.now c.putting.effect-index c.effect-item.result c.args.text.now c.putting.text c.tell_effect.new.text
      c.putting-test.true c.effect-item.is (c.putting.invariant.text events stands) (c.in_ok-tell_effect.ensures.lines _ on);
  topics = λ events stands.
      let on = c.putting.invariant.topics events stands in
      subst (λ es. StandsFor es c.tell_effect.new.topics) (one_event events c.args.effects.now c.putting.effect-index c.effect-item.result c.putting-test.true c.effect-item.is)
      (c.in_ok-tell_effect.ensures.topics _ on);
  told = λ events before stands is.
      let on = c.putting.invariant.topics events stands in
      ap Trans (sym (one_event events c.args.effects.now c.putting.effect-index c.effect-item.result c.putting-test.true c.effect-item.is))
      ∙ c.in_ok-tell_effect.ensures.told _ before on (c.putting.invariant.told events before stands is);
  times =
      subst (λ es. list_all (λ e. is_time e.time) es ≡ true) (one_event [] c.args.effects.now c.putting.effect-index c.effect-item.result c.putting-test.true c.effect-item.is)
      (times_behind (events_of (take c.putting.effect-index c.args.effects.now)) (event_in c.effect-item.result.what) c.putting.invariant.times c.in_ok-tell_effect.ensures.times);
}
