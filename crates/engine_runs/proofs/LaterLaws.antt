-- What lives do with points of which none begins or ends one.
use Rattle.std.proofs.Common.{◌≡◌, ℕ, zero, suc, ◌+◌, ◌-◌, ◌<◌, ◌≤◌, Bool, true, false, List, [], ◌∷◌, ◌++◌, length, map, drop, min, Option, None, Some, inl, inr, refl, sym, ap, ◌∙◌, length-append, arith}
use Rattle.std.specs.Prelude.{take}
use Rattle.std.specs.List.{AllByRecursion as Each}
use Rattle.std.proofs.lemmas.List.{drop-append-le, drop_all, length-drop, length-take, take_all}
use Rattle.kap_base.specs.Points.{PointValue}
use Rattle.kap_base.specs.declared.items.Effect.{Effect}
use Rattle.node_core.specs.Cut.{IsStamped}
use Rattle.node_core.specs.Meaning.{Answer, Given, Input, nothing}
use Rattle.store_records.specs.declared.task.Life.{Life}
use Rattle.task_run.specs.Courses.{Course, course_effects_with, course_gives, end_of, grown, items_of, later_effects}
use Rattle.task_run.specs.Graphs.{Placed, gives_behind, node_gives, outs_of}
use Rattle.task_run.specs.Lives.{effects_with, node_effects_with}
use Rattle.task_run.specs.StampLaws.{none_above}
use Rattle.task_run.specs.Stamps.{IsStream, of_effect}
use Rattle.task_run.proofs.CourseLaws.{AllEmpty, gives-nothing, outs-more}
use Rattle.task_run.proofs.LaterLaws.{gives_streams}
use Rattle.life_effects.specs.Effects.{course_of, courses_of, seen_by, stored_effects, up_to}
use Rattle.life_effects.proofs.EffectLaws.{effects_fare}
use Rattle.engine_runs.specs.Spans.{AreThere, HasEnded, IsAway, IsOnward, IsOpenOver, Spans, picked}
use Rattle.engine_runs.proofs.SpanLaws.{spans_fare}

-- no more are seen than there are
seen-few : (last : Option ℕ) (ps : List PointValue) → length (up_to last ps) ≤ length ps
seen-few None ps = omega arith
seen-few (Some k) ps = let cut : length (take k ps) ≡ min k (length ps) = length-take k ps in omega (arith, cut)

-- all are seen where the last stamp isn't below them
pub all_seen : (last : Option ℕ) (ps : List PointValue) (n : ℕ) → length ps ≤ n → IsOnward n last → up_to last ps ≡ ps
all_seen None ps n le h = refl
all_seen (Some k) ps n le h = let high : n ≤ k = h in take_all k ps (omega (arith, le, high))

-- behind the last stamp none are
pub none_seen : (i : ℕ) (last : Option ℕ) (ps : List PointValue) → length ps ≤ i → drop i (up_to last ps) ≡ []
none_seen i last ps le = drop_all i (up_to last ps) (omega (arith, le, seen-few last ps))

module _ {P : Type 0} where
  -- the course of a life that is open all the way stands behind the points, and sees the others
  pub record GoesOn (points new : List PointValue) (life : Life) (nodes : List (Placed P)) : Type 0 where
    pub ends : end_of (course_of life nodes points) ≡ length points
    pub grows : course_of life nodes (points ++ new) ≡ grown new (course_of life nodes points)

  pub open_goes : (points new : List PointValue) (life : Life) (nodes : List (Placed P)) → IsOpenOver (length points) (length new) life → GoesOn points new life nodes
  open_goes points new life nodes h =
      let n = length points + length new in
      let some : 0 < life.first = h.first in
      let began : life.first ≤ length points + 1 = h.began in
      let whole : length (points ++ new) ≡ length points + length new = length-append points new in
      let low : life.first - 1 ≤ length points = omega (arith, began, some) in
      let early : up_to life.last points ≡ points = all_seen life.last points n (omega arith) h.onward in
      let late : up_to life.last (points ++ new) ≡ points ++ new = all_seen life.last (points ++ new) n (omega (arith, whole)) h.onward in
      let long : length (drop (life.first - 1) points) ≡ length points - (life.first - 1) = length-drop (life.first - 1) points in
      let same : end_of (course_of life nodes points) ≡ life.first - 1 + length (drop (life.first - 1) points) = ap (λ (ps : List PointValue). life.first - 1 + length (drop (life.first - 1) ps)) early in
      record {
        ends = omega (arith, same, long, low);
        grows =
            ap (λ (ps : List PointValue). record { nodes = nodes; base = life.first - 1; points = drop (life.first - 1) ps }) late
            ∙ ap (λ (ps : List PointValue). record { nodes = nodes; base = life.first - 1; points = ps }) (drop-append-le (life.first - 1) points new low)
            ∙ sym (ap (λ (ps : List PointValue). record { nodes = nodes; base = life.first - 1; points = drop (life.first - 1) ps ++ new }) early);
      }

  -- the courses of those that run have grown
  pub picked_grown : (points new : List PointValue) (runs : List Bool) (lives : List Life) (graphs : List (List (Placed P))) → AreThere (length points) (length new) runs lives
      → picked runs (courses_of lives graphs (points ++ new)) ≡ map (grown new) (picked runs (courses_of lives graphs points))
  picked_grown points new [] lives graphs h = refl
  picked_grown points new (r ∷ runs) [] graphs h = absurd h
  picked_grown points new (true ∷ runs) (life ∷ lives) [] h = refl
  picked_grown points new (false ∷ runs) (life ∷ lives) [] h = refl
  picked_grown points new (true ∷ runs) (life ∷ lives) (nodes ∷ graphs) h = rw ((open_goes points new life nodes h.0).grows, picked_grown points new runs lives graphs h.1) refl
  picked_grown points new (false ∷ runs) (life ∷ lives) (nodes ∷ graphs) h = picked_grown points new runs lives graphs h.1

-- ---- those that don't run do nothing

module _ {P : Type 0} (answer : P → Answer) where
  none-behind : (s n : ℕ) (earlier : List Given) (nodes : List (Placed P)) → AllEmpty (outs_of earlier) → node_effects_with s (gives_behind answer n [] earlier nodes) ≡ []
  none-behind s n earlier [] h = refl
  none-behind s n earlier (d ∷ nodes) h =
      let g = node_gives answer n [] earlier d in
      let none : g ≡ nothing = gives-nothing answer n earlier d h in
      ap (λ (x : Given). effects_with s x.effects ++ node_effects_with s (gives_behind answer n [] (earlier ++ g ∷ []) nodes)) none
      ∙ none-behind s n (earlier ++ g ∷ []) nodes (outs-more earlier g h (ap (λ (x : Given). x.items) none))

  pub later_none : (s : ℕ) (life : Life) (nodes : List (Placed P)) (points : List PointValue) → length points < life.first → node_effects_with s (course_gives answer (course_of life nodes points)) ≡ []
  later_none s life nodes points lt =
      let none : seen_by life points ≡ [] = none_seen (life.first - 1) life.last points (omega (arith, lt)) in
      ap (λ (ps : List PointValue). node_effects_with s (course_gives answer (record { nodes = nodes; base = life.first - 1; points = ps }))) none
      ∙ none-behind s (life.first - 1 + 0) [] nodes tt

  module _ (life_of number : P → ℕ) (stamped : (p : P) (before : List Input) (x : Input) → IsStamped (life_of p) (number p) x.1.stamp.0 (answer p before x)) where
    none-later : (n s : ℕ) (gs : List Given) → n < s → Each (λ (g : Given). IsStream of_effect n g.effects) gs → node_effects_with s gs ≡ []
    none-later n s [] lt h = refl
    none-later n s (g ∷ gs) lt h = rw (none_above of_effect s n g.effects lt h.0.up_to, none-later n s gs lt h.1) refl

    ended-none : (k s : ℕ) (life : Life) (nodes : List (Placed P)) (points : List PointValue) → k < s → HasEnded k life → node_effects_with s (course_gives answer (course_of life nodes points)) ≡ []
    ended-none k s life nodes points lt h =
        let c = course_of life nodes points in
        let began : life.first ≤ k + 1 = h.began in
        let some : 0 < life.first = h.first in
        let low : h.last ≤ k = h.ended in
        let long : length (drop (life.first - 1) (take h.last points)) ≡ length (take h.last points) - (life.first - 1) = length-drop (life.first - 1) (take h.last points) in
        let cut : length (take h.last points) ≡ min h.last (length points) = length-take h.last points in
        let same : end_of c ≡ life.first - 1 + length (drop (life.first - 1) (take h.last points)) = ap (λ (l : Option ℕ). life.first - 1 + length (drop (life.first - 1) (up_to l points))) h.is in
        let above : end_of c < s = omega (arith, same, long, cut, low, began, some, lt) in
        none-later (end_of c) s (course_gives answer c) above (gives_streams answer life_of number stamped (end_of c) (items_of c) [] c.nodes)

    away-none : (k n s : ℕ) (life : Life) (nodes : List (Placed P)) (points : List PointValue) → length points ≤ k + n → k < s → IsAway k n life → node_effects_with s (course_gives answer (course_of life nodes points)) ≡ []
    away-none k n s life nodes points long lt (inl above) = later_none s life nodes points (omega (arith, long, above))
    away-none k n s life nodes points long lt (inr h) = ended-none k s life nodes points lt h

    all-away : (k n s : ℕ) (lives : List Life) (graphs : List (List (Placed P))) (points : List PointValue) → length points ≤ k + n → k < s → Each (IsAway k n) lives → course_effects_with answer s (courses_of lives graphs points) ≡ []
    all-away k n s [] graphs points long lt h = refl
    all-away k n s (life ∷ lives) [] points long lt h = refl
    all-away k n s (life ∷ lives) (nodes ∷ graphs) points long lt h = rw (away-none k n s life nodes points long lt h.0, all-away k n s lives graphs points long lt h.1) refl

    with-picked : (k n s : ℕ) (runs : List Bool) (lives : List Life) (graphs : List (List (Placed P))) (points : List PointValue) → length points ≤ k + n → k < s → AreThere k n runs lives → Each (IsAway k n) (drop (length runs) lives)
        → course_effects_with answer s (courses_of lives graphs points) ≡ course_effects_with answer s (picked runs (courses_of lives graphs points))
    with-picked k n s [] lives graphs points long lt there away = all-away k n s lives graphs points long lt away
    with-picked k n s (r ∷ runs) [] graphs points long lt there away = absurd there
    with-picked k n s (true ∷ runs) (life ∷ lives) [] points long lt there away = refl
    with-picked k n s (false ∷ runs) (life ∷ lives) [] points long lt there away = refl
    with-picked k n s (true ∷ runs) (life ∷ lives) (nodes ∷ graphs) points long lt there away =
        ap (λ (es : List Effect). node_effects_with s (course_gives answer (course_of life nodes points)) ++ es) (with-picked k n s runs lives graphs points long lt there.1 away)
    with-picked k n s (false ∷ runs) (life ∷ lives) (nodes ∷ graphs) points long lt there away =
        rw (ended-none k s life nodes points lt there.0, with-picked k n s runs lives graphs points long lt there.1 away) refl

    later-picked : (k n m : ℕ) (runs : List Bool) (lives : List Life) (graphs : List (List (Placed P))) (points : List PointValue) → length points ≤ k + n → Spans k n runs lives
        → later_effects answer k m (courses_of lives graphs points) ≡ later_effects answer k m (picked runs (courses_of lives graphs points))
    later-picked k n zero runs lives graphs points long h = refl
    later-picked k n (suc m) runs lives graphs points long h =
        let lt : k < suc (k + m) = omega arith in
        rw (later-picked k n m runs lives graphs points long h, with-picked k n (suc (k + m)) runs lives graphs points long lt h.there h.away) refl

    -- the effects go on by what those do that run
    pub effects_span : (points new : List PointValue) (runs : List Bool) (lives : List Life) (graphs : List (List (Placed P))) (es : List Effect) → Spans (length points) (length new) runs lives
        → es ≡ later_effects answer (length points) (length new) (map (grown new) (picked runs (courses_of lives graphs points)))
        → stored_effects answer lives graphs (points ++ new) ≡ stored_effects answer lives graphs points ++ es
    effects_span points new runs lives graphs es h is =
        let k = length points in
        let n = length new in
        let long : length (points ++ new) ≡ k + n = length-append points new in
        effects_fare answer life_of number stamped points new lives graphs (spans_fare k n runs lives h)
        ∙ ap (λ (fs : List Effect). stored_effects answer lives graphs points ++ fs)
        (later-picked k n n runs lives graphs (points ++ new) (omega (arith, long)) h
        ∙ ap (λ (cs : List (Course P)). later_effects answer k n cs) (picked_grown points new runs lives graphs h.there)
        ∙ sym is)
