-- Transitions of events go on, and may be stored one behind the other.
use Rattle.std.proofs.Common.{◌≡◌, ℕ, ◌+◌, ◌-◌, ◌^◌, ◌≤◌, ◌<◌, ◌==◌, min, length, map, drop, Bool, true, false, cond, ◌&&◌, List, [], ◌∷◌, ◌++◌, refl, sym, ap, subst, ◌∙◌, append-nil, append_assoc, length-append, true≢false, arith}
use Rattle.std.specs.Prelude.{IsTrue}
use Rattle.std.specs.Ordering.{is_eq}
use Rattle.std.proofs.Common.{Ordering}
use Rattle.std.specs.declared.cmp.Ordering.TheVariants.{Less, Equal, Greater}
use Rattle.std.specs.FinMap.{slice_cmp-IsAntisymmetric, nat_cmp-IsAntisymmetric}
use Rattle.std.proofs.lemmas.Bool.Decides.{nat_tests}
use Rattle.std.proofs.Math.Seq.{drop-append_seam}
use Rattle.kap_base.proofs.TestLaws.{first_of, second_of}
use Rattle.kap_base.specs.Levels.{same_level}
use Rattle.kap_base.specs.Maps.{byte_order}
use Rattle.kap_base.specs.Points.{is_time}
use Rattle.kap_base.specs.Events.{EventValue}
use Rattle.kap_base.specs.declared.items.Level.{Level}
use Rattle.kap_base.specs.declared.items.Level.TheVariants.{Fine, Info, Warning, Critical}
use Rattle.topic_core.specs.Topics.{Trans, change, changes, event_of, is_of, last_level, numbered, same_text, transition}
use Rattle.topic_core.specs.declared.transition.Transition.{Transition}
use Rattle.life_effects.specs.Times.{times_fit}
use Rattle.store_records.specs.Held.{are_next, is_next, level_of}

-- ---- levels and texts

one_level : (a b : Level) → same_level a b ≡ true → a ≡ b
one_level Fine Fine e = refl
one_level Fine Info e = absurd (true≢false (sym e))
one_level Fine Warning e = absurd (true≢false (sym e))
one_level Fine Critical e = absurd (true≢false (sym e))
one_level Info Fine e = absurd (true≢false (sym e))
one_level Info Info e = refl
one_level Info Warning e = absurd (true≢false (sym e))
one_level Info Critical e = absurd (true≢false (sym e))
one_level Warning Fine e = absurd (true≢false (sym e))
one_level Warning Info e = absurd (true≢false (sym e))
one_level Warning Warning e = refl
one_level Warning Critical e = absurd (true≢false (sym e))
one_level Critical Fine e = absurd (true≢false (sym e))
one_level Critical Info e = absurd (true≢false (sym e))
one_level Critical Warning e = absurd (true≢false (sym e))
one_level Critical Critical e = refl

level_itself : (a : Level) → same_level a a ≡ true
level_itself Fine = refl
level_itself Info = refl
level_itself Warning = refl
level_itself Critical = refl

equal_order : (o : Ordering) → is_eq o ≡ true → o ≡ Equal
equal_order Less e = absurd (true≢false (sym e))
equal_order Equal e = refl
equal_order Greater e = absurd (true≢false (sym e))

one_text : (a b : List ℕ) → same_text a b ≡ true → a ≡ b
one_text a b e = slice_cmp-IsAntisymmetric nat_cmp-IsAntisymmetric a b (equal_order (byte_order a b) e)

-- ---- lists

last_more : (topic id : List ℕ) (level : Level) (es : List EventValue) (e : EventValue) → last_level topic id level (es ++ e ∷ []) ≡ cond (is_of topic id e.topic e.id) e.level (last_level topic id level es)
unfolding last_level
last_more topic id level [] e = refl
last_more topic id level (x ∷ es) e = last_more topic id (cond (is_of topic id x.topic x.id) x.level level) es e

changes_append : (earlier es fs : List EventValue) → changes earlier (es ++ fs) ≡ changes earlier es ++ changes (earlier ++ es) fs
unfolding changes
changes_append earlier [] fs = ap (λ (l : List EventValue). changes l fs) (sym (append-nil earlier))
changes_append earlier (x ∷ es) fs =
    let here = change (last_level x.topic x.id Fine earlier) x in
    ap (λ l. here ++ l) (changes_append (earlier ++ x ∷ []) es fs ∙ ap (λ (l : List EventValue). changes (earlier ++ x ∷ []) es ++ changes l fs) (append_assoc earlier (x ∷ []) es))
    ∙ sym (append_assoc here (changes (earlier ++ x ∷ []) es) (changes (earlier ++ x ∷ es) fs))

changes_one : (earlier : List EventValue) (e : EventValue) → changes earlier (e ∷ []) ≡ change (last_level e.topic e.id Fine earlier) e
unfolding changes
changes_one earlier e = append-nil _

numbered_append : (n : ℕ) (cs ds : List _) → numbered n (cs ++ ds) ≡ numbered n cs ++ numbered (n + length cs) ds
unfolding numbered
numbered_append n [] ds = let same : n ≡ n + 0 = omega arith in ap (λ (k : ℕ). numbered k ds) same
numbered_append n (c ∷ cs) ds =
    let same : n + 1 + length cs ≡ n + length (c ∷ cs) = omega arith in
    ap (λ (l : List Transition). transition n c.0 c.1 ∷ l) (numbered_append (n + 1) cs ds ∙ ap (λ (k : ℕ). numbered (n + 1) cs ++ numbered k ds) same)

numbered_length : (n : ℕ) (cs : List _) → length (numbered n cs) ≡ length cs
unfolding numbered
numbered_length n [] = refl
numbered_length n (c ∷ cs) = let same = numbered_length (n + 1) cs in omega (arith, same)

numbered_one : (n : ℕ) (old : Level) (e : EventValue) → numbered n ((old, e) ∷ []) ≡ transition n old e ∷ []
unfolding numbered
numbered_one n old e = refl

-- ---- transitions go on

-- those of more events come behind the others
pub trans_append : (es fs : List EventValue) → Trans (es ++ fs) ≡ Trans es ++ numbered (1 + length (changes [] es)) (changes es fs)
trans_append es fs = ap (numbered 1) (changes_append [] es fs) ∙ numbered_append 1 (changes [] es) (changes es fs)

pub trans_rest : (es fs : List EventValue) → Trans (es ++ fs) ≡ Trans es ++ drop (length (Trans es)) (Trans (es ++ fs))
trans_rest es fs =
    let rest = numbered (1 + length (changes [] es)) (changes es fs) in
    let whole = trans_append es fs in
    whole ∙ ap (λ (l : List Transition). Trans es ++ l) (sym (ap (λ (l : List Transition). drop (length (Trans es)) l) whole ∙ drop-append_seam (Trans es) rest))

next_append : (before xs ys : List Transition) → are_next before (xs ++ ys) ≡ (are_next before xs && are_next (before ++ xs) ys)
next_append before [] ys = ap (λ (l : List Transition). are_next l ys) (sym (append-nil before))
next_append before (x ∷ xs) ys =
    ap (λ (b : Bool). is_next before x && b) (next_append (before ++ x ∷ []) xs ys ∙ ap (λ (l : List Transition). are_next (before ++ x ∷ []) xs && are_next l ys) (append_assoc before (x ∷ []) xs))
    ∙ turned (is_next before x) (are_next (before ++ x ∷ []) xs) (are_next (before ++ x ∷ xs) ys)
  where
    turned : (a b c : Bool) → (a && (b && c)) ≡ ((a && b) && c)
    turned true b c = refl
    turned false b c = refl

map_append : (xs : List Transition) (y : Transition) → map event_of (xs ++ y ∷ []) ≡ map event_of xs ++ event_of y ∷ []
map_append [] y = refl
map_append (x ∷ xs) y = ap (λ (l : List EventValue). event_of x ∷ l) (map_append xs y)

times_first : (es : List EventValue) (e : EventValue) → times_fit (es ++ e ∷ []) ≡ true → times_fit es ≡ true
times_first [] e h = refl
times_first (x ∷ es) e h = rw (first_of (is_time x.time) (times_fit (es ++ e ∷ [])) h) (times_first es e (second_of (is_time x.time) (times_fit (es ++ e ∷ [])) h))

times_last : (es : List EventValue) (e : EventValue) → times_fit (es ++ e ∷ []) ≡ true → is_time e.time ≡ true
times_last [] e h = first_of (is_time e.time) true h
times_last (x ∷ es) e h = times_last es e (second_of (is_time x.time) (times_fit (es ++ e ∷ [])) h)

times_front : (es fs : List EventValue) → times_fit (es ++ fs) ≡ true → times_fit es ≡ true
times_front [] fs h = refl
times_front (x ∷ es) fs h = rw (first_of (is_time x.time) (times_fit (es ++ fs)) h) (times_front es fs (second_of (is_time x.time) (times_fit (es ++ fs)) h))

-- the transitions of events may be stored, and their levels are those of the events
record AreGood (es : List EventValue) : Type 0 where
  level : (topic id : List ℕ) → last_level topic id Fine (map event_of (Trans es)) ≡ last_level topic id Fine es
  next : are_next [] (Trans es) ≡ true

good_quiet : (es : List EventValue) (e : EventValue) → AreGood es → Trans (es ++ e ∷ []) ≡ Trans es → last_level e.topic e.id Fine es ≡ e.level → AreGood (es ++ e ∷ [])
good_quiet es e good same old = record {
  level = λ topic id. ap (λ (l : List Transition). last_level topic id Fine (map event_of l)) same ∙ good.level topic id ∙ sym (last_more topic id Fine es e ∙ by topic id (is_of topic id e.topic e.id) refl);
  next = ap (are_next []) same ∙ good.next;
}
  where
    by : (topic id : List ℕ) (b : Bool) → is_of topic id e.topic e.id ≡ b → cond b e.level (last_level topic id Fine es) ≡ last_level topic id Fine es
    by topic id true is =
        sym (ap (λ (t : List ℕ). last_level t id Fine es) (one_text topic e.topic (first_of _ _ is))
        ∙ ap (λ (i : List ℕ). last_level e.topic i Fine es) (one_text id e.id (second_of (same_text topic e.topic) _ is))
        ∙ old)
    by topic id false is = refl

good_told : (es : List EventValue) (e : EventValue) → AreGood es → length (Trans es) + 1 < 2 ^ 64 → is_time e.time ≡ true → same_level (last_level e.topic e.id Fine es) e.level ≡ false
    → Trans (es ++ e ∷ []) ≡ Trans es ++ transition (1 + length (Trans es)) (last_level e.topic e.id Fine es) e ∷ [] → AreGood (es ++ e ∷ [])
good_told es e good bound time differs is =
    let old = last_level e.topic e.id Fine es in
    let t = transition (1 + length (Trans es)) old e in
    let low : min (1 + length (Trans es)) (2 ^ 64 - 1) ≡ length (Trans es) + 1 = omega (arith, bound) in
    let number : (min (1 + length (Trans es)) (2 ^ 64 - 1) == length (Trans es) + 1) ≡ true = grind (arith, nat_tests) in
    let level : same_level old (level_of e.topic e.id (Trans es)) ≡ true = ap (same_level old) (good.level e.topic e.id) ∙ level_itself old in
    let one : is_next (Trans es) t ≡ true = rw (number, level, differs, time) refl in
    record {
      level = λ topic id.
          ap (λ (l : List Transition). last_level topic id Fine (map event_of l)) is
          ∙ ap (λ (l : List EventValue). last_level topic id Fine l) (map_append (Trans es) t)
          ∙ last_more topic id Fine (map event_of (Trans es)) (event_of t)
          ∙ ap (λ (l : Level). cond (is_of topic id e.topic e.id) e.level l) (good.level topic id)
          ∙ sym (last_more topic id Fine es e);
      next = ap (are_next []) is ∙ next_append [] (Trans es) (t ∷ []) ∙ rw (good.next, one) refl;
    }

count_front : (es fs : List EventValue) → length (Trans es) ≤ length (Trans (es ++ fs))
count_front es fs =
    let rest = numbered (1 + length (changes [] es)) (changes es fs) in
    let long : length (Trans (es ++ fs)) ≡ length (Trans es) + length rest = ap (λ (l : List Transition). length l) (trans_append es fs) ∙ length-append (Trans es) rest in
    omega (arith, long)

numbered_none : (n : ℕ) (ts : List Transition) → ts ++ numbered n [] ≡ ts
unfolding numbered
numbered_none n ts = append-nil ts

good_more : (es : List EventValue) (e : EventValue) → AreGood es → length (Trans (es ++ e ∷ [])) < 2 ^ 64 → is_time e.time ≡ true → AreGood (es ++ e ∷ [])
good_more es e good bound time =
    let old = last_level e.topic e.id Fine es in
    let count : length (Trans es) ≡ length (changes [] es) = numbered_length 1 (changes [] es) in
    let number : 1 + length (changes [] es) ≡ 1 + length (Trans es) = omega (arith, count) in
    let whole : Trans (es ++ e ∷ []) ≡ Trans es ++ numbered (1 + length (Trans es)) (change old e) =
    trans_append es (e ∷ []) ∙ ap (λ (k : ℕ). Trans es ++ numbered k (changes es (e ∷ []))) number ∙ ap (λ cs. Trans es ++ numbered (1 + length (Trans es)) cs) (changes_one es e) in
    elim (same_level old e.level) as (λ b. same_level old e.level ≡ b → Trans (es ++ e ∷ []) ≡ Trans es ++ numbered (1 + length (Trans es)) (cond b [] ((old, e) ∷ [])) → AreGood (es ++ e ∷ [])) [
      | true ↦ λ same w. good_quiet es e good (w ∙ numbered_none (1 + length (Trans es)) (Trans es)) (one_level old e.level same)
      | false ↦ λ differs w.
          let is = w ∙ ap (λ (l : List Transition). Trans es ++ l) (numbered_one (1 + length (Trans es)) old e) in
          let long : length (Trans (es ++ e ∷ [])) ≡ length (Trans es) + 1 = ap (λ (l : List Transition). length l) is ∙ length-append (Trans es) (transition (1 + length (Trans es)) old e ∷ []) in
          good_told es e good (omega (arith, long, bound)) time differs is
    ] refl whole

good_none : AreGood []
unfolding changes numbered last_level
good_none = record { level = λ topic id. refl; next = refl }

good_behind : (es fs : List EventValue) → AreGood es → length (Trans (es ++ fs)) < 2 ^ 64 → times_fit (es ++ fs) ≡ true → AreGood (es ++ fs)
good_behind es [] good bound times = subst AreGood (sym (append-nil es)) good
good_behind es (f ∷ fs) good bound times =
    let same : (es ++ f ∷ []) ++ fs ≡ es ++ f ∷ fs = append_assoc es (f ∷ []) fs in
    let low : length (Trans (es ++ f ∷ [])) ≤ length (Trans (es ++ f ∷ fs)) = subst (λ (l : List EventValue). length (Trans (es ++ f ∷ [])) ≤ length (Trans l)) same (count_front (es ++ f ∷ []) fs) in
    let front : times_fit (es ++ f ∷ []) ≡ true = times_front (es ++ f ∷ []) fs (subst (λ (l : List EventValue). times_fit l ≡ true) (sym same) times) in
    subst AreGood same
    (good_behind (es ++ f ∷ []) fs (good_more es f good (omega (arith, low, bound)) (times_last es f front))
    (subst (λ (l : List EventValue). length (Trans l) < 2 ^ 64) (sym same) bound)
    (subst (λ (l : List EventValue). times_fit l ≡ true) (sym same) times))

-- behind the first of them the others may be stored
pub trans_next : (es : List EventValue) (p q : List Transition) → Trans es ≡ p ++ q → length (Trans es) < 2 ^ 64 → times_fit es ≡ true → IsTrue (are_next p q)
trans_next es p q is bound times =
    let good = good_behind [] es good_none bound times in
    let both : (are_next [] p && are_next p q) ≡ true = sym (next_append [] p q) ∙ ap (are_next []) (sym is) ∙ good.next in
    second_of (are_next [] p) (are_next p q) both
