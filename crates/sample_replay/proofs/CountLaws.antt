-- What is counted of effects, some behind others.
use Rattle.std.proofs.Common.{◌≡◌, ℕ, ◌+◌, ◌-◌, ◌^◌, min, Bool, List, [], ◌++◌, length, refl, sym, ap, ◌∙◌, subst, length-append, arith}
use Rattle.std.specs.List.{filter}
use Rattle.std.proofs.lemmas.List.Elements.{filter-append}
use Rattle.std.proofs.lemmas.List.Sums.{length-filter}
use Rattle.std.proofs.lemmas.List.Concat.{flat_map-append}
use Rattle.kap_base.specs.declared.items.Effect.{Effect}
use Rattle.effect_text.specs.Lines.{event_in, events_of, text_behind, text_of}
use Rattle.effect_text.proofs.TextLaws.{text_more}
use Rattle.effect_text.specs.declared.names.TaskNames.{TaskNames}
use Rattle.topic_core.specs.Topics.{StandsFor, Trans, TopicsValue}
use Rattle.sample_replay.specs.Summaries.{HasCounted, is_point, logged, summary_lines, summary_of}

-- of effects and others as many points are logged as of both
logged_more : (xs ys : List Effect) → logged (xs ++ ys) ≡ logged xs + logged ys
logged_more xs ys =
    let p : Effect → Bool = λ e. is_point e.what in
    sym (length-filter p (xs ++ ys)) ∙ ap length (filter-append p xs ys) ∙ length-append (filter p xs) (filter p ys)
    ∙ ap (λ (n : ℕ). n + length (filter p ys)) (length-filter p xs) ∙ ap (λ (n : ℕ). logged xs + n) (length-filter p ys)

-- of no effects nothing is counted
pub counted_none : (names : List TaskNames) (topics : TopicsValue) → StandsFor [] topics → HasCounted names [] 0 0 topics
unfolding text_behind
counted_none names topics stands = record { points_are = refl; bytes_are = refl; topics_are = stands }

-- effects that come behind those that were counted are counted with them
pub counted_more : (names : List TaskNames) (before effects : List Effect) (points bytes points' bytes' : ℕ) (topics topics' : TopicsValue) (text : List ℕ)
    → HasCounted names before points bytes topics → text ≡ text_behind names (events_of before) effects
    → points' ≡ points + logged effects → bytes' ≡ bytes + length text → StandsFor (events_of before ++ events_of effects) topics'
    → HasCounted names (before ++ effects) points' bytes' topics'
counted_more names before effects points bytes points' bytes' topics topics' text counted told more longer stands = record {
  points_are = more ∙ ap (λ (n : ℕ). n + logged effects) counted.points_are ∙ sym (logged_more before effects);
  bytes_are = longer ∙ ap (λ (n : ℕ). n + length text) counted.bytes_are ∙ ap (λ (t : List ℕ). length (text_of names before) + length t) told
      ∙ sym (length-append (text_of names before) (text_behind names (events_of before) effects)) ∙ ap length (sym (text_more names [] before effects));
  topics_are = subst (λ es. StandsFor es topics') (sym (flat_map-append (λ (e : Effect). event_in e.what) before effects)) stands;
}

-- what is counted is what the summary tells, where the number of transitions hasn't come to the end of its type
pub summed : (names : List TaskNames) (effects : List Effect) (count points bytes alerts : ℕ) (topics : TopicsValue) (text : List ℕ) → HasCounted names effects points bytes topics
    → alerts ≡ topics.count → (alerts ≡ 2 ^ 64 - 1 → ⊥) → text ≡ summary_lines count points alerts bytes → text ≡ summary_of names count effects
summed names effects count points bytes alerts topics text counted are free is =
    let least : alerts ≡ min (length (Trans (events_of effects))) (2 ^ 64 - 1) = are ∙ counted.topics_are.count in
    let all : alerts ≡ length (Trans (events_of effects)) = grind arith in
    is ∙ ap (λ (n : ℕ). summary_lines count n alerts bytes) counted.points_are ∙ ap (λ (n : ℕ). summary_lines count (logged effects) n bytes) all
    ∙ ap (λ (n : ℕ). summary_lines count (logged effects) (length (Trans (events_of effects))) n) counted.bytes_are
