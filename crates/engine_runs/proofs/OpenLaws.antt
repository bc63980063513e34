-- The lives that are open: behind all points, and at a snapshot.
use Rattle.std.proofs.Common.{◌≡◌, ℕ, zero, suc, ◌+◌, ◌-◌, ◌<◌, ◌≤◌, Bool, true, false, not, cond, List, [], ◌∷◌, ◌++◌, length, map, drop, Option, None, Some, inl, inr, refl, sym, ap, subst, ◌∙◌, append-nil, append_assoc, arith}
use Rattle.std.specs.Prelude.{IfSome, is_some, nat_le}
use Rattle.std.specs.List.{AllByRecursion as Each}
use Rattle.std.proofs.lemmas.Bool.Decides.{nat_tests}
use Rattle.std.proofs.lemmas.List.Concat.{flat_map-append}
use Rattle.kap_base.specs.Points.{PointValue}
use Rattle.kap_base.specs.declared.items.Effect.{Effect}
use Rattle.life_effects.proofs.EffectLaws.{effects_fare}
use Rattle.life_effects.specs.Effects.{Fares, LifeFits, LivesFit, before, course_of, courses_of, later, open_courses, stored_effects, through, up_to}
use Rattle.node_core.specs.Cut.{IsStamped}
use Rattle.node_core.specs.Meaning.{Answer, Input}
use Rattle.store_records.specs.Held.{is_open, open_from}
use Rattle.store_records.specs.declared.task.Life.{Life}
use Rattle.task_run.specs.Courses.{Course, course_effects, course_effects_with, course_gives, later_effects}
use Rattle.task_run.specs.Graphs.{Placed}
use Rattle.task_run.specs.Lives.{node_effects_with}
use Rattle.task_run.specs.Merging.{stamps}
use Rattle.engine_runs.specs.Later.{AreLater, IsLastLater, IsLater}
use Rattle.engine_runs.specs.Spans.{AreThere, HasEnded, IsAway, IsOnward, IsOpenOver, IsThere, Spans, numbers_from, picked}
use Rattle.engine_runs.proofs.LaterLaws.{all_seen, later_none}
use Rattle.engine_runs.proofs.SpanLaws.{each_to, onward_less}

-- ---- behind all points

-- a last stamp that isn't above k, and isn't below the next one, is none
onward-none : (k : ℕ) (last : Option ℕ) → IsOnward (k + 1) last → IfSome last (λ l. l ≤ k) → last ≡ None
onward-none k None on low = refl
onward-none k (Some l) on low = let high : k + 1 ≤ l = on in let small : l ≤ k = low in absurd (omega (arith, high, small))

there-open : (k n : ℕ) (runs : List Bool) (lives : List Life) → LivesFit k lives → AreThere k 1 runs lives → AreThere k n runs lives
there-open k n [] lives fit h = tt
there-open k n (r ∷ runs) [] fit h = absurd h
there-open k n (true ∷ runs) (life ∷ lives) fit h = (
  record { first = h.0.first; began = h.0.began; onward = subst (IsOnward (k + n)) (sym (onward-none k life.last h.0.onward fit.0.ended)) tt },
  there-open k n runs lives fit.1 h.1,
)
there-open k n (false ∷ runs) (life ∷ lives) fit h = (h.0, there-open k n runs lives fit.1 h.1)

ended-away : (k : ℕ) (life : Life) → LifeFits k life → IsAway k 1 life → HasEnded k life
ended-away k life fit (inl lt) = let began : life.first ≤ k + 1 = fit.began in absurd (omega (arith, lt, began))
ended-away k life fit (inr h) = h

away-open : (k n : ℕ) (lives : List Life) → LivesFit k lives → Each (IsAway k 1) lives → Each (IsAway k n) lives
away-open k n [] fit h = tt
away-open k n (life ∷ lives) fit h = (inr (ended-away k life fit.0 h.0), away-open k n lives fit.1 h.1)

fits-drop : (k i : ℕ) (lives : List Life) → LivesFit k lives → LivesFit k (drop i lives)
fits-drop k zero lives fit = fit
fits-drop k (suc i) [] fit = tt
fits-drop k (suc i) (life ∷ lives) fit = fits-drop k i lives fit.1

-- none begins or ends any more, however many points come
pub spans_open : (k n : ℕ) (runs : List Bool) (lives : List Life) → LivesFit k lives → Spans k 1 runs lives → Spans k n runs lives
spans_open k n runs lives fit h = record {
  there = there-open k n runs lives fit h.there;
  away = away-open k n (drop (length runs) lives) (fits-drop k (length runs) lives fit) h.away;
}

-- those that run are the open ones
closed : (k : ℕ) (life : Life) → HasEnded k life → is_open life ≡ false
closed k life h = ap (λ (l : Option ℕ). not (is_some l)) h.is

opened : (k : ℕ) (life : Life) → LifeFits k life → IsOpenOver k 1 life → is_open life ≡ true
opened k life fit h = ap (λ (l : Option ℕ). not (is_some l)) (onward-none k life.last h.onward fit.ended)

away-closed : (k n : ℕ) (lives : List Life) → LivesFit k lives → Each (IsAway k 1) lives → open_from n lives ≡ []
away-closed k n [] fit h = refl
away-closed k n (life ∷ lives) fit h = rw (closed k life (ended-away k life fit.0 h.0)) (away-closed k (n + 1) lives fit.1 h.1)

pub numbers_open : (k n : ℕ) (runs : List Bool) (lives : List Life) → LivesFit k lives → AreThere k 1 runs lives → Each (IsAway k 1) (drop (length runs) lives) → picked runs (numbers_from n lives) ≡ open_from n lives
numbers_open k n [] lives fit there away = sym (away-closed k n lives fit away)
numbers_open k n (r ∷ runs) [] fit there away = absurd there
numbers_open k n (true ∷ runs) (life ∷ lives) fit there away = rw (opened k life fit.0 there.0) (ap (λ (ns : List ℕ). n ∷ ns) (numbers_open k (n + 1) runs lives fit.1 there.1 away))
numbers_open k n (false ∷ runs) (life ∷ lives) fit there away = rw (closed k life there.0) (numbers_open k (n + 1) runs lives fit.1 there.1 away)

module _ {P : Type 0} where
  away-courses : (k : ℕ) (lives : List Life) (graphs : List (List (Placed P))) (points : List PointValue) → LivesFit k lives → Each (IsAway k 1) lives → open_courses lives graphs points ≡ []
  away-courses k [] graphs points fit h = refl
  away-courses k (life ∷ lives) [] points fit h = refl
  away-courses k (life ∷ lives) (nodes ∷ graphs) points fit h = rw (closed k life (ended-away k life fit.0 h.0)) (away-courses k lives graphs points fit.1 h.1)

  pub courses_open : (k : ℕ) (runs : List Bool) (lives : List Life) (graphs : List (List (Placed P))) (points : List PointValue) → LivesFit k lives → AreThere k 1 runs lives → Each (IsAway k 1) (drop (length runs) lives)
      → picked runs (courses_of lives graphs points) ≡ open_courses lives graphs points
  courses_open k [] lives graphs points fit there away = sym (away-courses k lives graphs points fit away)
  courses_open k (r ∷ runs) [] graphs points fit there away = absurd there
  courses_open k (true ∷ runs) (life ∷ lives) [] points fit there away = refl
  courses_open k (false ∷ runs) (life ∷ lives) [] points fit there away = refl
  courses_open k (true ∷ runs) (life ∷ lives) (nodes ∷ graphs) points fit there away = rw (opened k life fit.0 there.0) (ap (λ (cs : List (Course P)). course_of life nodes points ∷ cs) (courses_open k runs lives graphs points fit.1 there.1 away))
  courses_open k (false ∷ runs) (life ∷ lives) (nodes ∷ graphs) points fit there away = rw (closed k life there.0) (courses_open k runs lives graphs points fit.1 there.1 away)

-- ---- at a snapshot

there-later : (k : ℕ) (life other : Life) (last : Option ℕ) → life.last ≡ last → LifeFits k life → IsLater k life other → IsThere k 0 (not (is_some last)) other
there-later k life other None e fit h =
    let first : 0 < life.first = fit.first in
    let began : life.first ≤ k + 1 = fit.began in
    let same : other.first ≡ life.first = h.first in
    let on : IsOnward k other.last = subst (λ (l : Option ℕ). IsLastLater k l other.last) e h.last in
    record { first = omega (arith, first, same); began = omega (arith, began, same); onward = onward_less k (k + 0) other.last (omega arith) on }
there-later k life other (Some l) e fit h =
    let first : 0 < life.first = fit.first in
    let began : life.first ≤ k + 1 = fit.began in
    let same : other.first ≡ life.first = h.first in
    record { first = omega (arith, first, same); began = omega (arith, began, same); last = l; is = subst (λ (m : Option ℕ). IsLastLater k m other.last) e h.last; ended = subst (λ (m : Option ℕ). IfSome m (λ j. j ≤ k)) e fit.ended }

are-there-later : (k : ℕ) (lives others : List Life) → LivesFit k lives → AreLater k lives others → AreThere k 0 (map is_open lives) others
are-there-later k [] others fit h = tt
are-there-later k (life ∷ lives) [] fit h = absurd h
are-there-later k (life ∷ lives) (other ∷ others) fit h = (there-later k life other life.last refl fit.0 h.0, are-there-later k lives others fit.1 h.1)

away-later : (k : ℕ) (lives others : List Life) → AreLater k lives others → Each (IsAway k 0) (drop (length (map is_open lives)) others)
away-later k [] others h = each_to (λ (l : Life). k < l.first) (IsAway k 0) others (λ l (lt : k < l.first). inl (omega (arith, lt))) h
away-later k (life ∷ lives) [] h = absurd h
away-later k (life ∷ lives) (other ∷ others) h = away-later k lives others h.1

-- the lives that were open there run behind it
pub spans_later : (k : ℕ) (lives others : List Life) → LivesFit k lives → AreLater k lives others → Spans k 0 (map is_open lives) others
spans_later k lives others fit h = record { there = are-there-later k lives others fit h; away = away-later k lives others h }

pub numbers_later : (k n : ℕ) (lives others : List Life) → AreLater k lives others → picked (map is_open lives) (numbers_from n others) ≡ open_from n lives
numbers_later k n [] others h = refl
numbers_later k n (life ∷ lives) [] h = absurd h
numbers_later k n (life ∷ lives) (other ∷ others) h =
    let rest = numbers_later k (n + 1) lives others h.1 in
    elim (is_open life) as (λ b. picked (b ∷ map is_open lives) (n ∷ numbers_from (n + 1) others) ≡ cond b (n ∷ open_from (n + 1) lives) (open_from (n + 1) lives)) [
      | true ↦ ap (λ (ns : List ℕ). n ∷ ns) rest
      | false ↦ rest
    ]

module _ {P : Type 0} where
  -- the course of a life on the points so far is what it was
  pub course_later : (k : ℕ) (life other : Life) (nodes : List (Placed P)) (points : List PointValue) (last : Option ℕ) → life.last ≡ last → length points ≡ k → IsLater k life other → course_of other nodes points ≡ course_of life nodes points
  course_later k life other nodes points None e long h =
      let on : IsOnward k other.last = subst (λ (l : Option ℕ). IsLastLater k l other.last) e h.last in
      ap (λ (f : ℕ). record { nodes = nodes; base = f - 1; points = drop (f - 1) (up_to other.last points) }) h.first
      ∙ ap (λ (ps : List PointValue). record { nodes = nodes; base = life.first - 1; points = drop (life.first - 1) ps }) (all_seen other.last points k (omega (arith, long)) on)
      ∙ sym (ap (λ (l : Option ℕ). record { nodes = nodes; base = life.first - 1; points = drop (life.first - 1) (up_to l points) }) e)
  course_later k life other nodes points (Some l) e long h =
      let same : other.last ≡ Some l = subst (λ (m : Option ℕ). IsLastLater k m other.last) e h.last in
      ap (λ (f : ℕ). record { nodes = nodes; base = f - 1; points = drop (f - 1) (up_to other.last points) }) h.first
      ∙ ap (λ (m : Option ℕ). record { nodes = nodes; base = life.first - 1; points = drop (life.first - 1) (up_to m points) }) (same ∙ sym e)

  pub courses_later : (k : ℕ) (lives others : List Life) (graphs : List (List (Placed P))) (points : List PointValue) → length points ≡ k → AreLater k lives others
      → picked (map is_open lives) (courses_of others graphs points) ≡ open_courses lives graphs points
  courses_later k [] others graphs points long h = refl
  courses_later k (life ∷ lives) [] graphs points long h = absurd h
  courses_later k (life ∷ lives) (other ∷ others) [] points long h = refl
  courses_later k (life ∷ lives) (other ∷ others) (nodes ∷ graphs) points long h =
      let one = course_later k life other nodes points life.last refl long h.0 in
      let rest = courses_later k lives others graphs points long h.1 in
      elim (is_open life) as (λ b. picked (b ∷ map is_open lives) (course_of other nodes points ∷ courses_of others graphs points) ≡ cond b (course_of life nodes points ∷ open_courses lives graphs points) (open_courses lives graphs points)) [
        | true ↦ rw (one, rest) refl
        | false ↦ rest
      ]

  module _ (answer : P → Answer) where
    none-begun : (k s : ℕ) (others : List Life) (graphs : List (List (Placed P))) (points : List PointValue) → length points ≡ k → Each (λ l. k < l.first) others → course_effects_with answer s (courses_of others graphs points) ≡ []
    none-begun k s [] graphs points long h = refl
    none-begun k s (life ∷ others) [] points long h = refl
    none-begun k s (life ∷ others) (nodes ∷ graphs) points long h =
        let lt : k < life.first = h.0 in
        rw (later_none answer s life nodes points (omega (arith, long, lt)), none-begun k s others graphs points long h.1) refl

    with-later : (k s : ℕ) (lives others : List Life) (graphs : List (List (Placed P))) (points : List PointValue) → length points ≡ k → AreLater k lives others
        → course_effects_with answer s (courses_of others graphs points) ≡ course_effects_with answer s (courses_of lives graphs points)
    with-later k s [] others graphs points long h = none-begun k s others graphs points long h
    with-later k s (life ∷ lives) [] graphs points long h = absurd h
    with-later k s (life ∷ lives) (other ∷ others) [] points long h = refl
    with-later k s (life ∷ lives) (other ∷ others) (nodes ∷ graphs) points long h =
        ap (λ (c : Course P). node_effects_with s (course_gives answer c) ++ course_effects_with answer s (courses_of others graphs points)) (course_later k life other nodes points life.last refl long h.0)
        ∙ ap (λ (es : List Effect). node_effects_with s (course_gives answer (course_of life nodes points)) ++ es) (with-later k s lives others graphs points long h.1)

    by-stamp : (n : ℕ) (some others : List (Course P)) → ((s : ℕ) → course_effects_with answer s some ≡ course_effects_with answer s others) → course_effects answer n some ≡ course_effects answer n others
    by-stamp zero some others h = refl
    by-stamp (suc n) some others h =
        flat_map-append (λ s. course_effects_with answer s some) (stamps n) (suc n ∷ [])
        ∙ rw (by-stamp n some others h, h (suc n)) (sym (flat_map-append (λ s. course_effects_with answer s others) (stamps n) (suc n ∷ [])))

    -- the effects so far are those that they were there
    pub effects_later : (k : ℕ) (lives others : List Life) (graphs : List (List (Placed P))) (points : List PointValue) → length points ≡ k → AreLater k lives others
        → stored_effects answer others graphs points ≡ stored_effects answer lives graphs points
    effects_later k lives others graphs points long h = by-stamp (length points) (courses_of others graphs points) (courses_of lives graphs points) (λ s. with-later k s lives others graphs points long h)

-- ---- one point after the other

fares-last : (k : ℕ) (life : Life) (last : Option ℕ) → life.last ≡ last → 0 < life.first → life.first ≤ k + 1 → Fares k 1 life
fares-last k life None e first began = through first began (subst (λ (l : Option ℕ). IfSome l (λ m. k + 1 ≤ m)) (sym e) tt)
fares-last k life (Some l) e first began = elim (nat_le l k) as (λ b. nat_le l k ≡ b → Fares k 1 life) [
  | true ↦ λ f. before first began l e (grind (arith, nat_tests))
  | false ↦ λ f. let high : k + 1 ≤ l = grind (arith, nat_tests) in through first began (subst (λ (m : Option ℕ). IfSome m (λ j. k + 1 ≤ j)) (sym e) high)
] refl

fares-one : (k : ℕ) (life : Life) → 0 < life.first → Fares k 1 life
fares-one k life first = elim (nat_le life.first (k + 1)) as (λ b. nat_le life.first (k + 1) ≡ b → Fares k 1 life) [
  | true ↦ λ f. fares-last k life life.last refl first (grind (arith, nat_tests))
  | false ↦ λ f. later (grind (arith, nat_tests))
] refl

module _ {P : Type 0} (answer : P → Answer) (life_of number : P → ℕ) (stamped : (p : P) (before : List Input) (x : Input) → IsStamped (life_of p) (number p) x.1.stamp.0 (answer p before x)) where
  -- the effects of more points come behind the others, wherever lives begin and end
  pub effects_on : (points new : List PointValue) (lives : List Life) (graphs : List (List (Placed P))) → Each (λ l. 0 < l.first) lives
      → (es : List Effect) × (stored_effects answer lives graphs (points ++ new) ≡ stored_effects answer lives graphs points ++ es)
  effects_on points [] lives graphs h = ([], ap (stored_effects answer lives graphs) (append-nil points) ∙ sym (append-nil (stored_effects answer lives graphs points)))
  effects_on points (p ∷ new) lives graphs h =
      let one = later_effects answer (length points) 1 (courses_of lives graphs (points ++ p ∷ [])) in
      let first : stored_effects answer lives graphs (points ++ p ∷ []) ≡ stored_effects answer lives graphs points ++ one =
      effects_fare answer life_of number stamped points (p ∷ []) lives graphs (each_to (λ (l : Life). 0 < l.first) (Fares (length points) 1) lives (λ l. fares-one (length points) l) h) in
      let rest = effects_on (points ++ p ∷ []) new lives graphs h in (
        one ++ rest.0,
        ap (stored_effects answer lives graphs) (sym (append_assoc points (p ∷ []) new))
            ∙ rest.1
            ∙ ap (λ (es : List Effect). es ++ rest.0) first
            ∙ append_assoc (stored_effects answer lives graphs points) one rest.0,
      )
