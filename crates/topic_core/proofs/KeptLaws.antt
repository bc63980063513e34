-- What is kept of events is one value: what is kept of their transitions.
use Rattle.std.proofs.Common.{◌≡◌, ℕ, ◌+◌, ◌-◌, ◌^◌, min, Bool, true, false, cond, List, [], ◌∷◌, ◌++◌, Option, Some, None, refl, sym, ap, subst, ◌∙◌, true≢false, fold}
use Rattle.std.specs.Prelude.{unwrap_or, is_some}
use Rattle.std.specs.FinMap.{get}
use Rattle.std.specs.Option.{option_map_or, option_to_list}
use Rattle.kap_base.specs.Levels.{same_level}
use Rattle.kap_base.specs.Maps.{KeyMap}
use Rattle.kap_base.specs.Events.{EventValue}
use Rattle.kap_base.specs.declared.items.Level.{Level}
use Rattle.kap_base.specs.declared.items.Level.TheVariants.{Fine}
use Rattle.topic_core.specs.Topics.{StandsFor, TopicsValue, Trans, changes, level_at, level_before, no_topics, numbered, put_level, topics_after, transition, with_transition}
use Rattle.topic_core.specs.declared.transition.Transition.{Transition}
use Rattle.topic_core.proofs.TransLaws.{accepted, append_assoc, append_nil, at_first}
use Rattle.topic_core.proofs.TreeLaws.{same}

-- ---- one value stands for the events

same_found : (a b : Option Level) → is_some a ≡ is_some b → unwrap_or a Fine ≡ unwrap_or b Fine → a ≡ b
same_found None None there is = refl
same_found None (Some y) there is = absurd (true≢false (sym there))
same_found (Some x) None there is = absurd (true≢false there)
same_found (Some x) (Some y) there is = ap (λ (l : Level). Some l) is

same_ids : (a b : Option (KeyMap Level)) → is_some a ≡ is_some b
    → ((id : List ℕ) → option_map_or (λ ids. get ids id) a None ≡ option_map_or (λ ids. get ids id) b None) → a ≡ b
same_ids None None there is = refl
same_ids None (Some y) there is = absurd (true≢false (sym there))
same_ids (Some x) None there is = absurd (true≢false there)
same_ids (Some x) (Some y) there is = ap (λ (m : KeyMap Level). Some m) (same x y is)

module _ (events : List EventValue) (one other : TopicsValue) (s : StandsFor events one) (t : StandsFor events other) where
  same_at : (topic id : List ℕ) → level_at one.levels topic id ≡ level_at other.levels topic id
  same_at topic id = same_found (level_at one.levels topic id) (level_at other.levels topic id) (s.ids topic id ∙ sym (t.ids topic id)) (s.level topic id ∙ sym (t.level topic id))

  same_levels : one.levels ≡ other.levels
  same_levels = same one.levels other.levels (λ topic. same_ids (get one.levels topic) (get other.levels topic) (s.topics topic ∙ sym (t.topics topic)) (λ id. same_at topic id))

  same_kept : one ≡ other
  same_kept = λ i. record { count = (s.count ∙ sym t.count) i; levels = same_levels i }

-- ---- the transitions leave it

put_last : (kept : TopicsValue) (ts : List Transition) (t : Transition) → fold with_transition kept (ts ++ t ∷ []) ≡ with_transition (fold with_transition kept ts) t
put_last kept [] t = refl
put_last kept (x ∷ ts) t = put_last (with_transition kept x) ts t

module _ (events : List EventValue) (e : EventValue) (so_far : StandsFor events (topics_after (Trans events))) where
  abbrev kept : TopicsValue
  kept = topics_after (Trans events)

  abbrev old : Level
  old = level_before kept.levels e.topic e.id

  by_change : (b : Bool) → topics_after (Trans events ++ option_to_list (cond b None (Some (transition (kept.count + 1) old e))))
      ≡ cond b kept (record { count = min (kept.count + 1) (2 ^ 64 - 1); levels = put_level kept.levels e.topic e.id e.level })
  by_change true = ap topics_after (append_nil (Trans events))
  by_change false = put_last no_topics (Trans events) (transition (kept.count + 1) old e)

  next_stands : StandsFor (events ++ e ∷ []) (topics_after (Trans (events ++ e ∷ [])))
  next_stands =
      let next = accepted events e kept so_far in
      subst (λ k. StandsFor (events ++ e ∷ []) k) (sym (ap topics_after next.trans ∙ by_change (same_level old e.level))) next.stands

all_stand : (earlier later : List EventValue) → StandsFor earlier (topics_after (Trans earlier)) → StandsFor (earlier ++ later) (topics_after (Trans (earlier ++ later)))
all_stand earlier [] s = subst (λ (l : List EventValue). StandsFor l (topics_after (Trans l))) (sym (append_nil earlier)) s
all_stand earlier (e ∷ later) s =
    subst (λ (l : List EventValue). StandsFor l (topics_after (Trans l))) (append_assoc earlier (e ∷ []) later) (all_stand (earlier ++ e ∷ []) later (next_stands earlier e s))

pub transitions_stand : (events : List EventValue) → StandsFor events (topics_after (Trans events))
unfolding changes numbered
transitions_stand events = all_stand [] events at_first

pub one_value : (events : List EventValue) (kept : TopicsValue) → StandsFor events kept → kept ≡ topics_after (Trans events)
one_value events kept s = same_kept events kept (topics_after (Trans events)) s (transitions_stand events)

pub none_kept : (kept : TopicsValue) → StandsFor [] kept → kept ≡ no_topics
none_kept kept s = same_kept [] kept no_topics s at_first
