use Rattle.std.proofs.Common.{◌≡◌, true, List, ◌++◌, take}
use Rattle.std.specs.List.{list_all}
use Rattle.kap_base.specs.Points.{is_time}
use Rattle.topic_core.specs.declared.transition.Transition.{Transition}
use Rattle.kap_base.specs.Events.{EventValue}
use Rattle.topic_core.specs.Topics.{StandsFor, Trans}
use Rattle.effect_text.specs.Lines.{events_of, text_behind}
use Rattle.effect_text.proofs.effects.tell_effects.Given as goal

-- the text of the effects that were passed was added, the topics have taken their events, the transitions of these were told, and their times are in range
abbrev pub invariant-putting : goal.invariant-putting
invariant-putting l = record {
  text : (events : List EventValue) → StandsFor events l.initial.topics → l.text ≡ l.initial.text ++ text_behind l.tasks events (take l.effect-index l.effects);
  topics : (events : List EventValue) → StandsFor events l.initial.topics → StandsFor (events ++ events_of (take l.effect-index l.effects)) l.topics;
  told : (events : List EventValue) (before : List Transition) → StandsFor events l.initial.topics → Trans events ≡ before ++ l.initial.told.items → Trans (events ++ events_of (take l.effect-index l.effects)) ≡ before ++ l.told.items;
  times : list_all (λ e. is_time e.time) (events_of (take l.effect-index l.effects)) ≡ true;
}
