-- Transitions stand for their events.
use Rattle.std.proofs.Common.{◌≡◌, ℕ, ◌+◌, ◌-◌, ◌^◌, min, Bool, true, false, cond, List, [], ◌∷◌, ◌++◌, length, map, refl, sym, ap, ◌∙◌}
use Rattle.std.specs.List.{list_any}
use Rattle.kap_base.proofs.TestLaws.{first_of, second_of}
use Rattle.kap_base.specs.Levels.{same_level}
use Rattle.kap_base.specs.Events.{EventValue}
use Rattle.kap_base.specs.declared.items.Level.{Level}
use Rattle.kap_base.specs.declared.items.Level.TheVariants.{Fine}
use Rattle.topic_core.specs.Topics.{StandsFor, TopicsValue, Trans, change, changes, event_of, is_of, last_level, numbered, same_text, transition}
use Rattle.topic_core.specs.declared.transition.Transition.{Transition}
use Rattle.topic_core.proofs.TransLaws.{append_assoc, append_nil, last_more, one_level, one_text}

-- each topic and id has the same level behind both
abbrev Agree : List EventValue → List EventValue → Type 0
Agree earlier others = (topic id : List ℕ) → last_level topic id Fine others ≡ last_level topic id Fine earlier

-- behind one event more in both
agree_push : (earlier others : List EventValue) (e : EventValue) → Agree earlier others → Agree (earlier ++ e ∷ []) (others ++ e ∷ [])
agree_push earlier others e agree topic id =
    last_more topic id Fine others e ∙ ap (λ (l : Level). cond (is_of topic id e.topic e.id) e.level l) (agree topic id) ∙ sym (last_more topic id Fine earlier e)

-- behind one more in the first, which changes no level
agree_quiet : (earlier others : List EventValue) (e : EventValue) → same_level (last_level e.topic e.id Fine earlier) e.level ≡ true → Agree earlier others
    → Agree (earlier ++ e ∷ []) others
agree_quiet earlier others e same agree topic id =
    agree topic id ∙ sym (last_more topic id Fine earlier e ∙ unchanged (is_of topic id e.topic e.id) refl)
  where
    unchanged : (b : Bool) → is_of topic id e.topic e.id ≡ b → cond b e.level (last_level topic id Fine earlier) ≡ last_level topic id Fine earlier
    unchanged true is =
        let there = ap (λ (t : List ℕ). last_level t id Fine earlier) (one_text topic e.topic (first_of (same_text topic e.topic) (same_text id e.id) is))
        ∙ ap (λ (i : List ℕ). last_level e.topic i Fine earlier) (one_text id e.id (second_of (same_text topic e.topic) (same_text id e.id) is)) in
        sym (there ∙ one_level (last_level e.topic e.id Fine earlier) e.level same)
    unchanged false is = refl

-- what some transitions make, taken as events behind others: the same ones, and the same levels
record Again (n : ℕ) (earlier others later : List EventValue) (ts : List Transition) : Type 0 where
  same : numbered n (changes others (map event_of ts)) ≡ ts
  levels : Agree (earlier ++ later) (others ++ map event_of ts)

-- the transitions of an event and of those behind it, by whether its level is the one before it
abbrev with_first : ℕ → List EventValue → EventValue → List EventValue → Bool → List Transition
with_first n earlier e later same =
    numbered n (cond same [] ((last_level e.topic e.id Fine earlier, e) ∷ []) ++ changes (earlier ++ e ∷ []) later)

-- an event and those behind it, by what holds of those behind it
first_again : (n : ℕ) (earlier others : List EventValue) (e : EventValue) (later : List EventValue)
    → ((m : ℕ) (a b : List EventValue) → Agree a b → Again m a b later (numbered m (changes a later))) → Agree earlier others
    → (same : Bool) → same_level (last_level e.topic e.id Fine earlier) e.level ≡ same
    → Again n earlier others (e ∷ later) (with_first n earlier e later same)
unfolding changes numbered
first_again n earlier others e later behind agree true same =
    let rest = behind n (earlier ++ e ∷ []) others (agree_quiet earlier others e same agree) in
    record {
      same = rest.same;
      levels = λ topic id.
          rest.levels topic id ∙ ap (λ (l : List EventValue). last_level topic id Fine l) (append_assoc earlier (e ∷ []) later);
    }
first_again n earlier others e later behind agree false differs =
    let old = last_level e.topic e.id Fine earlier in
    let rest = behind (n + 1) (earlier ++ e ∷ []) (others ++ e ∷ []) (agree_push earlier others e agree) in
    let ts = numbered (n + 1) (changes (earlier ++ e ∷ []) later) in
    let others_behind = changes (others ++ e ∷ []) (map event_of ts) in
    let first : change (last_level e.topic e.id Fine others) e ≡ (old, e) ∷ [] =
    ap (λ (l : Level). change l e) (agree e.topic e.id)
    ∙ ap (λ (b : Bool). cond {A = List (Level × EventValue)} b [] ((last_level e.topic e.id Fine earlier, e) ∷ [])) differs in
    record {
      same =
          ap (λ (cs : List (Level × EventValue)). numbered n (cs ++ others_behind)) first
          ∙ ap (λ (l : List Transition). transition n old e ∷ l) rest.same;
      levels = λ topic id.
          ap (λ (l : List EventValue). last_level topic id Fine l) (sym (append_assoc others (e ∷ []) (map event_of ts)))
          ∙ rest.levels topic id ∙ ap (λ (l : List EventValue). last_level topic id Fine l) (append_assoc earlier (e ∷ []) later);
    }

again : (n : ℕ) (earlier others later : List EventValue) → Agree earlier others → Again n earlier others later (numbered n (changes earlier later))
unfolding changes numbered
again n earlier others [] agree = record {
  same = refl;
  levels = λ topic id.
      ap (λ (l : List EventValue). last_level topic id Fine l) (append_nil others) ∙ agree topic id
      ∙ sym (ap (λ (l : List EventValue). last_level topic id Fine l) (append_nil earlier));
}
again n earlier others (e ∷ later) agree =
    let same = same_level (last_level e.topic e.id Fine earlier) e.level in
    first_again n earlier others e later (λ m a b holds. again m a b later holds) agree same refl

all_again : (events : List EventValue) → Again 1 [] [] events (Trans events)
all_again events = again 1 [] [] events (λ topic id. refl)

-- they make the same transitions
pub trans_again : (events : List EventValue) → Trans (map event_of (Trans events)) ≡ Trans events
trans_again events = (all_again events).same

-- what is kept of the events is kept of the transitions
pub stand : (events : List EventValue) (kept : TopicsValue) → StandsFor events kept → StandsFor (map event_of (Trans events)) kept
stand events kept stands =
    let same = sym (trans_again events) in
    record {
      count = stands.count ∙ ap (λ (ts : List Transition). min (length ts) (2 ^ 64 - 1)) same;
      level = λ topic id. stands.level topic id ∙ sym ((all_again events).levels topic id);
      ids = λ topic id. stands.ids topic id ∙ ap (λ (ts : List Transition). list_any (λ t. is_of topic id t.topic t.id) ts) same;
      topics = λ topic. stands.topics topic ∙ ap (λ (ts : List Transition). list_any (λ t. same_text topic t.topic) ts) same;
    }

-- and turned round
pub stood : (events : List EventValue) (kept : TopicsValue) → StandsFor (map event_of (Trans events)) kept → StandsFor events kept
stood events kept stands =
    let same = trans_again events in
    record {
      count = stands.count ∙ ap (λ (ts : List Transition). min (length ts) (2 ^ 64 - 1)) same;
      level = λ topic id. stands.level topic id ∙ (all_again events).levels topic id;
      ids = λ topic id. stands.ids topic id ∙ ap (λ (ts : List Transition). list_any (λ t. is_of topic id t.topic t.id) ts) same;
      topics = λ topic. stands.topics topic ∙ ap (λ (ts : List Transition). list_any (λ t. same_text topic t.topic) ts) same;
    }
