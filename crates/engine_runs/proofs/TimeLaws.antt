-- The times of transitions: those of their events.
use Rattle.std.proofs.Common.{◌≡◌, ℕ, ◌+◌, Bool, true, false, ◌&&◌, if◌then◌else◌, List, [], ◌∷◌, ◌++◌, length, map, refl, ap, ◌∙◌}
use Rattle.std.proofs.lemmas.List.{map-append}
use Rattle.kap_base.proofs.TestLaws.{first_of, second_of}
use Rattle.kap_base.specs.Levels.{same_level}
use Rattle.kap_base.specs.Points.{is_time}
use Rattle.kap_base.specs.Events.{EventValue}
use Rattle.kap_base.specs.declared.items.Level.{Level}
use Rattle.kap_base.specs.declared.items.Level.TheVariants.{Fine}
use Rattle.life_effects.proofs.TransLaws.{trans_append}
use Rattle.life_effects.specs.Times.{times_fit}
use Rattle.topic_core.specs.Topics.{Trans, changes, event_of, last_level, numbered}

both-fit : (xs ys : List EventValue) → times_fit xs ≡ true → times_fit ys ≡ true → times_fit (xs ++ ys) ≡ true
both-fit [] ys a b = b
both-fit (x ∷ xs) ys a b = elim (is_time x.time) as (λ t. (t && times_fit xs) ≡ true → (t && times_fit (xs ++ ys)) ≡ true) [
  | true ↦ λ c. both-fit xs ys c b
  | false ↦ λ c. absurd cc
] a

-- there is none before the first event
pub no_times : times_fit (map event_of (Trans [])) ≡ true
unfolding changes numbered
no_times = refl

both-true : (a b : Bool) → a ≡ true → b ≡ true → (a && b) ≡ true
both-true true b e f = f
both-true false b e f = e

with-change : (same : Bool) (n : ℕ) (old : Level) (e : EventValue) (cs : List (Level × EventValue)) → is_time e.time ≡ true → ((m : ℕ) → times_fit (map event_of (numbered m cs)) ≡ true)
    → times_fit (map event_of (numbered n ((if same then [] else (old, e) ∷ []) ++ cs))) ≡ true
unfolding numbered
with-change true n old e cs here rest = rest n
with-change false n old e cs here rest = both-true (is_time e.time) (times_fit (map event_of (numbered (n + 1) cs))) here (rest (n + 1))

-- those of transitions are times of events
changed-fit : (n : ℕ) (earlier es : List EventValue) → times_fit es ≡ true → times_fit (map event_of (numbered n (changes earlier es))) ≡ true
unfolding changes numbered
changed-fit n earlier [] fit = refl
changed-fit n earlier (e ∷ es) fit =
    let old = last_level e.topic e.id Fine earlier in
    with-change (same_level old e.level) n old e (changes (earlier ++ e ∷ []) es) (first_of (is_time e.time) (times_fit es) fit)
    (λ m. changed-fit m (earlier ++ e ∷ []) es (second_of (is_time e.time) (times_fit es) fit))

-- those of the transitions of more events
pub times_more : (es fs : List EventValue) → times_fit (map event_of (Trans es)) ≡ true → times_fit fs ≡ true → times_fit (map event_of (Trans (es ++ fs))) ≡ true
times_more es fs a b =
    let more = numbered (1 + length (changes [] es)) (changes es fs) in
    ap (λ ts. times_fit (map event_of ts)) (trans_append es fs)
    ∙ ap times_fit (map-append event_of (Trans es) more)
    ∙ both-fit (map event_of (Trans es)) (map event_of more) a (changed-fit (1 + length (changes [] es)) es fs b)
