-- Transitions that are taken one after the other.
use Rattle.std.proofs.Common.{◌≡◌, ℕ, ◌+◌, Bool, true, false, not, ◌&&◌, List, [], ◌∷◌, ◌++◌, length, map, refl, sym, ap, ◌∙◌, subst, append_assoc, arith, length-append}
use Rattle.std.specs.Prelude.{◌==◌}
use Rattle.std.proofs.lemmas.Bool.Decides.{nat_tests}
use Rattle.std.proofs.lemmas.List.{append-nil, map-append}
use Rattle.kap_base.specs.Events.{EventValue}
use Rattle.kap_base.specs.declared.items.Level.{Level}
use Rattle.kap_base.proofs.TestLaws.{first_of, not_true, second_of}
use Rattle.kap_base.specs.Levels.{level_rank, same_level}
use Rattle.kap_base.specs.Points.{is_time}
use Rattle.topic_core.specs.Topics.{StandsFor, TopicsValue, event_of, level_before}
use Rattle.topic_core.specs.declared.transition.Transition.{Transition}
use Rattle.store_records.specs.Held.{are_next, goes_on, is_next, level_of}

pub nil_of : {A : Type 0} (xs : List A) → length xs ≡ 0 → xs ≡ []
nil_of [] e = refl
nil_of (x ∷ xs) e = absurd (omega arith)

-- some of the transitions were taken, and each went on from those before it
pub record Taking (start : TopicsValue) (base : ℕ) (all : List Transition) (topics : TopicsValue) (count : ℕ) (rest : List Transition) : Type 0 where
  pub taken : List Transition
  pub count_is : count ≡ base + length taken
  pub stands : (before : List Transition) → StandsFor (map event_of before) start → StandsFor (map event_of (before ++ taken)) topics
  pub split : all ≡ taken ++ rest
  pub same : (before : List Transition) → StandsFor (map event_of before) start → base ≡ length before → are_next before all ≡ are_next (before ++ taken) rest

module _ (start : TopicsValue) (base : ℕ) (all : List Transition) (topics : TopicsValue) (count : ℕ) (t : Transition) (others : List Transition) (so_far : Taking start base all topics count (t ∷ others)) where
  behind : (before : List Transition) → base ≡ length before → count ≡ length (before ++ so_far.taken)
  behind before long = omega (arith, so_far.count_is, length-append before so_far.taken)

  -- one more was taken
  pub one_more : (next : Bool) (later : TopicsValue) (more : ℕ) → more ≡ count + 1
      → ((before : List Transition) → StandsFor (map event_of before) topics → count ≡ length before → next ≡ is_next before t)
      → ((before : List Transition) → StandsFor (map event_of before) topics → next ≡ true → StandsFor (map event_of before ++ event_of t ∷ []) later)
      → next ≡ true → Taking start base all later more others
  one_more next later more more_is is kept passed = record {
    taken = so_far.taken ++ t ∷ [];
    count_is = omega (arith, so_far.count_is, more_is, length-append so_far.taken (t ∷ []));
    stands = λ before h.
        subst (λ (l : List EventValue). StandsFor l later)
        (sym (map-append event_of (before ++ so_far.taken) (t ∷ [])) ∙ ap (λ (l : List Transition). map event_of l) (append_assoc before so_far.taken (t ∷ [])))
        (kept (before ++ so_far.taken) (so_far.stands before h) passed);
    split = so_far.split ∙ sym (append_assoc so_far.taken (t ∷ []) others);
    same = λ before h long.
        let here : is_next (before ++ so_far.taken) t ≡ true = sym (is (before ++ so_far.taken) (so_far.stands before h) (behind before long)) ∙ passed in
        so_far.same before h long
        ∙ ap (λ (b : Bool). b && are_next ((before ++ so_far.taken) ++ t ∷ []) others) here
        ∙ ap (λ (l : List Transition). are_next l others) (append_assoc before so_far.taken (t ∷ []));
  }

  -- the next one doesn't go on
  pub stops : (next : Bool)
      → ((before : List Transition) → StandsFor (map event_of before) topics → count ≡ length before → next ≡ is_next before t)
      → next ≡ false → (before : List Transition) → StandsFor (map event_of before) start → base ≡ length before → false ≡ are_next before all
  stops next is failed before h long =
      let here : is_next (before ++ so_far.taken) t ≡ false = sym (is (before ++ so_far.taken) (so_far.stands before h) (behind before long)) ∙ failed in
      sym (so_far.same before h long ∙ ap (λ (b : Bool). b && are_next ((before ++ so_far.taken) ++ t ∷ []) others) here)

-- all were taken
pub all_taken : (start : TopicsValue) (base : ℕ) (all : List Transition) (topics : TopicsValue) (count : ℕ) → Taking start base all topics count []
    → (before : List Transition) → StandsFor (map event_of before) start → base ≡ length before → true ≡ are_next before all
all_taken start base all topics count so_far before h long = sym (so_far.same before h long)

pub all_kept : (start : TopicsValue) (base : ℕ) (all : List Transition) (topics : TopicsValue) (count : ℕ) → Taking start base all topics count []
    → (before : List Transition) → StandsFor (map event_of before) start → StandsFor (map event_of (before ++ all)) topics
all_kept start base all topics count so_far before h =
    subst (λ (l : List Transition). StandsFor (map event_of (before ++ l)) topics) (sym (so_far.split ∙ append-nil so_far.taken)) (so_far.stands before h)

-- whether a transition goes on, by the topics that are kept of those before it
pub next_is : (topics : TopicsValue) (count : ℕ) (level : Level) (t : Transition) (next : Bool) → next ≡ goes_on count level t → level ≡ level_before topics.levels t.topic t.id
    → (before : List Transition) → StandsFor (map event_of before) topics → count ≡ length before → next ≡ is_next before t
next_is topics count level t next is level_is before stands long =
    is ∙ ap (λ (l : Level). goes_on count l t) (level_is ∙ stands.level t.topic t.id)
    ∙ ap (λ (n : ℕ). goes_on n (level_of t.topic t.id before) t) long

same-number : (a b : ℕ) → (a == b) ≡ true → a ≡ b
same-number a b e = grind (arith, nat_tests)

-- one that goes on has another level than the one before it
pub changes_level : (count : ℕ) (level : Level) (t : Transition) → goes_on count level t ≡ true → same_level level t.new_level ≡ false
changes_level count level t e =
    let levels = second_of (t.number == count + 1) (same_level t.old_level level && (not (same_level t.old_level t.new_level) && is_time t.time)) e in
    let old : level_rank t.old_level ≡ level_rank level =
    same-number (level_rank t.old_level) (level_rank level) (first_of (same_level t.old_level level) (not (same_level t.old_level t.new_level) && is_time t.time) levels) in
    let differs = second_of (same_level t.old_level level) (not (same_level t.old_level t.new_level) && is_time t.time) levels in
    subst (λ (n : ℕ). (n == level_rank t.new_level) ≡ false) old
    (not_true (same_level t.old_level t.new_level) (first_of (not (same_level t.old_level t.new_level)) (is_time t.time) differs))
