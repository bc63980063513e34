use Rattle.std.proofs.Common.{◌≡◌, true, List, ◌++◌, drop, take}
use Rattle.kap_base.specs.Events.{EventValue}
use Rattle.topic_core.specs.Topics.{StandsFor, Trans}
use Rattle.effect_text.specs.Lines.{events_of}
use Rattle.life_effects.specs.Times.{times_fit}
use Rattle.engine_runs.proofs.gathering.accept_effects.Given as goal

-- the topics have taken the events of the effects that were passed, whose times are in range, and their transitions were put behind the others
abbrev pub invariant-accepting : goal.invariant-accepting
invariant-accepting l = record {
  topics : (events : List EventValue) → StandsFor events l.initial.topics → StandsFor (events ++ events_of (take l.effect-index l.effects)) l.topics;
  due : (events : List EventValue) → StandsFor events l.initial.topics → l.initial.due.items ≡ drop l.stored (Trans events) → l.due.items ≡ drop l.stored (Trans (events ++ events_of (take l.effect-index l.effects)));
  times : times_fit (events_of (take l.effect-index l.effects)) ≡ true;
}
