-- The effects of a store's lives go on.
use Rattle.std.proofs.Common.{◌≡◌, ℕ, zero, suc, ◌+◌, ◌-◌, ◌≤◌, ◌<◌, true, false, not, cond, min, List, [], ◌∷◌, ◌++◌, length, map, drop, take, Option, None, Some, refl, sym, ap, subst, ◌∙◌, inl, inr, length-append, arith}
use Rattle.std.specs.Prelude.{IfSome, is_some, bytes_eq}
use Rattle.std.specs.List.{AllByRecursion as Each, AllZip, list_any}
use Rattle.std.proofs.lemmas.List.{drop-append-le, drop_all, length-drop, length-take, take-append-le, take_all}
use Rattle.kap_base.proofs.TestLaws.{second_of}
use Rattle.kap_base.specs.Points.{PointValue}
use Rattle.kap_base.specs.declared.items.Effect.{Effect}
use Rattle.node_core.specs.Meaning.{Answer, Given, Input}
use Rattle.node_core.specs.Cut.{IsStamped}
use Rattle.task_run.specs.Graphs.{Placed}
use Rattle.task_run.specs.Lives.{node_effects_with}
use Rattle.task_run.specs.StampLaws.{none_above}
use Rattle.task_run.specs.Stamps.{IsStream, of_effect}
use Rattle.task_run.specs.Courses.{Course, Goes, begun, course_effects, course_effects_with, course_gives, end_of, grown, items_of, later_effects}
use Rattle.task_run.proofs.CourseLaws.{effects_begin, effects_more}
use Rattle.task_run.proofs.LaterLaws.{gives_streams}
use Rattle.store_records.specs.Held.{end_life, is_open, is_open_of, life_from}
use Rattle.store_records.specs.declared.task.Life.{Life}
use Rattle.store_records.specs.declared.task.StoredTask.{StoredTask}
use Rattle.life_effects.specs.Effects.{Fares, LifeFits, LivesFit, before, later, through, course_of, courses_of, stored_effects, open_courses, seen_by, up_to}

none-last : (last : Option ℕ) → not (is_some last) ≡ true → last ≡ None
none-last None e = refl
none-last (Some k) e = absurd cc

some-last : (last : Option ℕ) → not (is_some last) ≡ false → is_some last ≡ true
some-last None e = absurd cc
some-last (Some k) e = refl

-- no more are seen than there are
shorter : (last : Option ℕ) (ps : List PointValue) → length (up_to last ps) ≤ length ps
shorter None ps = omega arith
shorter (Some k) ps = let cut : length (take k ps) ≡ min k (length ps) = length-take k ps in omega (arith, cut)

-- all are seen where the last is behind them
all-seen : (last : Option ℕ) (ps : List PointValue) (n : ℕ) → length ps ≤ n → IfSome last (λ k. n ≤ k) → up_to last ps ≡ ps
all-seen None ps n le h = refl
all-seen (Some k) ps n le h = let high : n ≤ k = h in take_all k ps (omega (arith, le, high))

module _ {P : Type 0} where
  -- ---- one life

  ends-open : (life : Life) (nodes : List (Placed P)) (points : List PointValue) → LifeFits (length points) life → life.last ≡ None → end_of (course_of life nodes points) ≡ length points
  ends-open life nodes points fit e =
      let began : life.first ≤ length points + 1 = fit.began in
      let some : 0 < life.first = fit.first in
      let long : length (drop (life.first - 1) points) ≡ length points - (life.first - 1) = length-drop (life.first - 1) points in
      ap (λ (last : Option ℕ). life.first - 1 + length (drop (life.first - 1) (up_to last points))) e ∙ omega (arith, long, began, some)

  grows-open : (life : Life) (nodes : List (Placed P)) (points new : List PointValue) → LifeFits (length points) life → life.last ≡ None → course_of life nodes (points ++ new) ≡ grown new (course_of life nodes points)
  grows-open life nodes points new fit e =
      let began : life.first ≤ length points + 1 = fit.began in
      let some : 0 < life.first = fit.first in
      let low : life.first - 1 ≤ length points = omega (arith, began, some) in
      ap (λ (last : Option ℕ). record { nodes = nodes; base = life.first - 1; points = drop (life.first - 1) (up_to last (points ++ new)) }) e
      ∙ ap (λ (ps : List PointValue). record { nodes = nodes; base = life.first - 1; points = ps }) (drop-append-le (life.first - 1) points new low)
      ∙ sym (ap (λ (last : Option ℕ). record { nodes = nodes; base = life.first - 1; points = drop (life.first - 1) (up_to last points) ++ new }) e)

  goes-by : (last : Option ℕ) (life : Life) (nodes : List (Placed P)) (points new : List PointValue) → life.last ≡ last → LifeFits (length points) life → Goes (length points) new (course_of life nodes points) (course_of life nodes (points ++ new))
  goes-by None life nodes points new e fit = inl (ends-open life nodes points fit e, grows-open life nodes points new fit e)
  goes-by (Some k) life nodes points new e fit =
      let began : life.first ≤ length points + 1 = fit.began in
      let some : 0 < life.first = fit.first in
      let low : k ≤ length points = subst (λ (last : Option ℕ). IfSome last (λ j. j ≤ length points)) e fit.ended in
      let long : length (drop (life.first - 1) (take k points)) ≡ length (take k points) - (life.first - 1) = length-drop (life.first - 1) (take k points) in
      let cut : length (take k points) ≡ min k (length points) = length-take k points in
      let same : end_of (course_of life nodes points) ≡ life.first - 1 + length (drop (life.first - 1) (take k points)) = ap (λ (last : Option ℕ). life.first - 1 + length (drop (life.first - 1) (up_to last points))) e in
      inr (
        inl (omega (arith, same, long, cut, low, began, some)),
        ap (λ (last : Option ℕ). record { nodes = nodes; base = life.first - 1; points = drop (life.first - 1) (up_to last (points ++ new)) }) e
            ∙ ap (λ (ps : List PointValue). record { nodes = nodes; base = life.first - 1; points = drop (life.first - 1) ps }) (take-append-le k points new low)
            ∙ sym (ap (λ (last : Option ℕ). record { nodes = nodes; base = life.first - 1; points = drop (life.first - 1) (up_to last points) }) e),
      )

  goes-one : (life : Life) (nodes : List (Placed P)) (points new : List PointValue) → LifeFits (length points) life → Goes (length points) new (course_of life nodes points) (course_of life nodes (points ++ new))
  goes-one life nodes points new fit = goes-by life.last life nodes points new refl fit

  -- ---- all lives

  courses-go : (lives : List Life) (graphs : List (List (Placed P))) (points new : List PointValue) → LivesFit (length points) lives → AllZip (Goes (length points) new) (courses_of lives graphs points) (courses_of lives graphs (points ++ new))
  courses-go [] graphs points new fit = tt
  courses-go (life ∷ lives) [] points new fit = tt
  courses-go (life ∷ lives) (nodes ∷ graphs) points new fit = (goes-one life nodes points new fit.0, courses-go lives graphs points new fit.1)

  -- ---- between two stamps at which no life begins or ends

  fares-later : (life : Life) (nodes : List (Placed P)) (points new : List PointValue) → length points + length new < life.first → Goes (length points) new (course_of life nodes points) (course_of life nodes (points ++ new))
  fares-later life nodes points new lt =
      let whole : length (points ++ new) ≡ length points + length new = length-append points new in
      let none : (ps : List PointValue) → length ps ≤ length points + length new → seen_by life ps ≡ [] = λ ps le. drop_all (life.first - 1) (up_to life.last ps) (omega (arith, shorter life.last ps, le, lt)) in
      inr (inr (none points (omega arith)), ap (λ (qs : List PointValue). record { nodes = nodes; base = life.first - 1; points = qs }) (none (points ++ new) (omega (arith, whole)) ∙ sym (none points (omega arith))))

  pub fares-open : (last : Option ℕ) (life : Life) (nodes : List (Placed P)) (points new : List PointValue) → life.last ≡ last → 0 < life.first → life.first ≤ length points + 1 → IfSome last (λ k. length points + length new ≤ k)
      → Goes (length points) new (course_of life nodes points) (course_of life nodes (points ++ new))
  fares-open last life nodes points new e some began onward =
      let whole : length (points ++ new) ≡ length points + length new = length-append points new in
      let low : life.first - 1 ≤ length points = omega (arith, began, some) in
      let before : up_to life.last points ≡ points = ap (λ (l : Option ℕ). up_to l points) e ∙ all-seen last points (length points + length new) (omega arith) onward in
      let after : up_to life.last (points ++ new) ≡ points ++ new = ap (λ (l : Option ℕ). up_to l (points ++ new)) e ∙ all-seen last (points ++ new) (length points + length new) (omega (arith, whole)) onward in
      let long : length (drop (life.first - 1) points) ≡ length points - (life.first - 1) = length-drop (life.first - 1) points in
      let same : end_of (course_of life nodes points) ≡ life.first - 1 + length (drop (life.first - 1) points) = ap (λ (ps : List PointValue). life.first - 1 + length (drop (life.first - 1) ps)) before in
      inl (
        omega (arith, same, long, low),
        ap (λ (ps : List PointValue). record { nodes = nodes; base = life.first - 1; points = drop (life.first - 1) ps }) after
            ∙ ap (λ (ps : List PointValue). record { nodes = nodes; base = life.first - 1; points = ps }) (drop-append-le (life.first - 1) points new low)
            ∙ sym (ap (λ (ps : List PointValue). record { nodes = nodes; base = life.first - 1; points = drop (life.first - 1) ps ++ new }) before),
      )

  fares-ended : (k : ℕ) (life : Life) (nodes : List (Placed P)) (points new : List PointValue) → life.last ≡ Some k → 0 < life.first → life.first ≤ length points + 1 → k ≤ length points
      → Goes (length points) new (course_of life nodes points) (course_of life nodes (points ++ new))
  fares-ended k life nodes points new e some began low = goes-by (Some k) life nodes points new e (record { first = some; began = began; ended = subst (λ (l : Option ℕ). IfSome l (λ j. j ≤ length points)) (sym e) low })

  fares-one : (life : Life) (nodes : List (Placed P)) (points new : List PointValue) → Fares (length points) (length new) life → Goes (length points) new (course_of life nodes points) (course_of life nodes (points ++ new))
  fares-one life nodes points new (later lt) = fares-later life nodes points new lt
  fares-one life nodes points new (through some began on) = fares-open life.last life nodes points new refl some began on
  fares-one life nodes points new (before some began last e low) = fares-ended last life nodes points new e some began low

  pub courses_fare : (points new : List PointValue) (lives : List Life) (graphs : List (List (Placed P))) → Each (Fares (length points) (length new)) lives → AllZip (Goes (length points) new) (courses_of lives graphs points) (courses_of lives graphs (points ++ new))
  courses_fare points new [] graphs fare = tt
  courses_fare points new (life ∷ lives) [] fare = tt
  courses_fare points new (life ∷ lives) (nodes ∷ graphs) fare = (fares-one life nodes points new fare.0, courses_fare points new lives graphs fare.1)

  -- the open ones stand at the last point
  pub open_end : (points : List PointValue) (lives : List Life) (graphs : List (List (Placed P))) → LivesFit (length points) lives → Each (λ c. end_of c ≡ length points) (open_courses lives graphs points)
  open_end points [] graphs fit = tt
  open_end points (life ∷ lives) [] fit = tt
  open_end points (life ∷ lives) (nodes ∷ graphs) fit = elim (is_open life) as (λ b. is_open life ≡ b → Each (λ c. end_of c ≡ length points) (cond b (course_of life nodes points ∷ open_courses lives graphs points) (open_courses lives graphs points))) [
    | true ↦ λ e. (ends-open life nodes points fit.0 (none-last life.last e), open_end points lives graphs fit.1)
    | false ↦ λ e. open_end points lives graphs fit.1
  ] refl

  -- and see more points
  pub open_grown : (points new : List PointValue) (lives : List Life) (graphs : List (List (Placed P))) → LivesFit (length points) lives → open_courses lives graphs (points ++ new) ≡ map (grown new) (open_courses lives graphs points)
  open_grown points new [] graphs fit = refl
  open_grown points new (life ∷ lives) [] fit = refl
  open_grown points new (life ∷ lives) (nodes ∷ graphs) fit = elim (is_open life) as (λ b. is_open life ≡ b → cond b (course_of life nodes (points ++ new) ∷ open_courses lives graphs (points ++ new)) (open_courses lives graphs (points ++ new)) ≡ map (grown new) (cond b (course_of life nodes points ∷ open_courses lives graphs points) (open_courses lives graphs points))) [
    | true ↦ λ e. rw (grows-open life nodes points new fit.0 (none-last life.last e), open_grown points new lives graphs fit.1) refl
    | false ↦ λ e. open_grown points new lives graphs fit.1
  ] refl

  -- ---- a life that ends

  ended-one : (life : Life) (nodes : List (Placed P)) (points : List PointValue) → life.last ≡ None → course_of (record life { last = Some (length points) }) nodes points ≡ course_of life nodes points
  ended-one life nodes points e =
      let all : take (length points) points ≡ points = take_all (length points) points (omega arith) in
      ap (λ (ps : List PointValue). record { nodes = nodes; base = life.first - 1; points = drop (life.first - 1) ps }) all
      ∙ sym (ap (λ (last : Option ℕ). record { nodes = nodes; base = life.first - 1; points = drop (life.first - 1) (up_to last points) }) e)

  courses-none : (lives : List Life) (points : List PointValue) → courses_of {P = P} lives [] points ≡ []
  courses-none [] points = refl
  courses-none (life ∷ lives) points = refl

  -- the courses stay where a life ends
  pub courses_end : (points : List PointValue) (lives : List Life) (id : List ℕ) (graphs : List (List (Placed P))) → courses_of (end_life id (length points) lives) graphs points ≡ courses_of lives graphs points
  courses_end points lives id [] = courses-none (end_life id (length points) lives) points ∙ sym (courses-none lives points)
  courses_end points [] id (nodes ∷ graphs) = refl
  courses_end points (life ∷ lives) id (nodes ∷ graphs) =
      let rest : courses_of (end_life id (length points) lives) graphs points ≡ courses_of lives graphs points = courses_end points lives id graphs in
      elim (list_any (is_open_of id) lives) as (λ b. courses_of (cond b (life ∷ end_life id (length points) lives) (cond (is_open_of id life) (record life { last = Some (length points) }) life ∷ lives)) (nodes ∷ graphs) points ≡ courses_of (life ∷ lives) (nodes ∷ graphs) points) [
        | true ↦ ap (λ (cs : List (Course P)). course_of life nodes points ∷ cs) rest
        | false ↦ elim (is_open_of id life) as (λ b. is_open_of id life ≡ b → courses_of (cond b (record life { last = Some (length points) }) life ∷ lives) (nodes ∷ graphs) points ≡ courses_of (life ∷ lives) (nodes ∷ graphs) points) [
          | true ↦ λ e. ap (λ (c : Course P). c ∷ courses_of lives graphs points) (ended-one life nodes points (none-last life.last (second_of (bytes_eq life.task id) (is_open life) e)))
          | false ↦ λ e. refl
        ] refl
      ]

  -- ---- a life that begins

  courses-begin : (points : List PointValue) (lives : List Life) (task : StoredTask) (graphs : List (List (Placed P))) (nodes : List (Placed P)) → length lives ≡ length graphs
      → courses_of (lives ++ life_from (length points) task ∷ []) (graphs ++ nodes ∷ []) points ≡ courses_of lives graphs points ++ begun (length points + 1 - 1) nodes ∷ []
  courses-begin points [] task [] nodes e =
      let none : drop (length points + 1 - 1) points ≡ [] = drop_all (length points + 1 - 1) points (omega arith) in
      ap (λ (ps : List PointValue). record { nodes = nodes; base = length points + 1 - 1; points = ps } ∷ []) none
  courses-begin points [] task (g ∷ graphs) nodes e = absurd (omega (arith, e))
  courses-begin points (life ∷ lives) task [] nodes e = absurd (omega (arith, e))
  courses-begin points (life ∷ lives) task (g ∷ graphs) nodes e = ap (λ (cs : List (Course P)). course_of life g points ∷ cs) (courses-begin points lives task graphs nodes (omega (arith, e)))

  module _ (answer : P → Answer) where
    -- the effects are the same where a life ends
    pub effects_end : (points : List PointValue) (lives : List Life) (id : List ℕ) (graphs : List (List (Placed P))) → stored_effects answer (end_life id (length points) lives) graphs points ≡ stored_effects answer lives graphs points
    effects_end points lives id graphs = ap (course_effects answer (length points)) (courses_end points lives id graphs)

    -- and where one begins
    pub effects_start : (points : List PointValue) (lives : List Life) (task : StoredTask) (graphs : List (List (Placed P))) (nodes : List (Placed P)) → length lives ≡ length graphs
        → stored_effects answer (lives ++ life_from (length points) task ∷ []) (graphs ++ nodes ∷ []) points ≡ stored_effects answer lives graphs points
    effects_start points lives task graphs nodes e =
        ap (course_effects answer (length points)) (courses-begin points lives task graphs nodes e)
        ∙ effects_begin answer (length points) (length points + 1 - 1) nodes (courses_of lives graphs points)

  -- ---- what the open lives do later is what all do

  module _ (answer : P → Answer) (life_of number : P → ℕ) (stamped : (p : P) (before : List Input) (x : Input) → IsStamped (life_of p) (number p) x.1.stamp.0 (answer p before x)) where
    pub none-later : (n s : ℕ) (gs : List Given) → n < s → Each (λ (g : Given). IsStream of_effect n g.effects) gs → node_effects_with s gs ≡ []
    none-later n s [] lt h = refl
    none-later n s (g ∷ gs) lt h = rw (none_above of_effect s n g.effects lt h.0.up_to, none-later n s gs lt h.1) refl

    pub ended-later : (s : ℕ) (c : Course P) → end_of c < s → node_effects_with s (course_gives answer c) ≡ []
    ended-later s c lt = none-later (end_of c) s (course_gives answer c) lt (gives_streams answer life_of number stamped (end_of c) (items_of c) [] c.nodes)

    end-low : (n : ℕ) (last : Option ℕ) (life : Life) (nodes : List (Placed P)) (points : List PointValue) → life.last ≡ last → is_some last ≡ true → LifeFits n life → end_of (course_of life nodes points) ≤ n
    end-low n None life nodes points e some fit = absurd cc
    end-low n (Some k) life nodes points e some fit =
        let began : life.first ≤ n + 1 = fit.began in
        let first : 0 < life.first = fit.first in
        let low : k ≤ n = subst (λ (last : Option ℕ). IfSome last (λ j. j ≤ n)) e fit.ended in
        let long : length (drop (life.first - 1) (take k points)) ≡ length (take k points) - (life.first - 1) = length-drop (life.first - 1) (take k points) in
        let cut : length (take k points) ≡ min k (length points) = length-take k points in
        let same : end_of (course_of life nodes points) ≡ life.first - 1 + length (drop (life.first - 1) (take k points)) = ap (λ (last : Option ℕ). life.first - 1 + length (drop (life.first - 1) (up_to last points))) e in
        omega (arith, same, long, cut, low, began, first)

    with-open : (n s : ℕ) (lives : List Life) (graphs : List (List (Placed P))) (points : List PointValue) → n < s → LivesFit n lives → course_effects_with answer s (courses_of lives graphs points) ≡ course_effects_with answer s (open_courses lives graphs points)
    with-open n s [] graphs points lt fit = refl
    with-open n s (life ∷ lives) [] points lt fit = refl
    with-open n s (life ∷ lives) (nodes ∷ graphs) points lt fit = elim (is_open life) as (λ b. is_open life ≡ b → node_effects_with s (course_gives answer (course_of life nodes points)) ++ course_effects_with answer s (courses_of lives graphs points) ≡ course_effects_with answer s (cond b (course_of life nodes points ∷ open_courses lives graphs points) (open_courses lives graphs points))) [
      | true ↦ λ e. ap (λ (es : List Effect). node_effects_with s (course_gives answer (course_of life nodes points)) ++ es) (with-open n s lives graphs points lt fit.1)
      | false ↦ λ e.
          let low : end_of (course_of life nodes points) ≤ n = end-low n life.last life nodes points refl (some-last life.last e) fit.0 in
          let above : end_of (course_of life nodes points) < s = omega (arith, low, lt) in
          rw (ended-later s (course_of life nodes points) above, with-open n s lives graphs points lt fit.1) refl
    ] refl

    later-open : (n k : ℕ) (lives : List Life) (graphs : List (List (Placed P))) (points : List PointValue) → LivesFit n lives → later_effects answer n k (courses_of lives graphs points) ≡ later_effects answer n k (open_courses lives graphs points)
    later-open n zero lives graphs points fit = refl
    later-open n (suc k) lives graphs points fit =
        let lt : n < suc (n + k) = omega arith in
        rw (later-open n k lives graphs points fit, with-open n (suc (n + k)) lives graphs points lt fit) refl

    -- the effects go on between two stamps at which no life begins or ends
    pub effects_fare : (points new : List PointValue) (lives : List Life) (graphs : List (List (Placed P))) → Each (Fares (length points) (length new)) lives
        → stored_effects answer lives graphs (points ++ new) ≡ stored_effects answer lives graphs points ++ later_effects answer (length points) (length new) (courses_of lives graphs (points ++ new))
    effects_fare points new lives graphs fare =
        let long : length (points ++ new) ≡ length points + length new = length-append points new in
        ap (λ (m : ℕ). course_effects answer m (courses_of lives graphs (points ++ new))) long
        ∙ effects_more answer life_of number stamped (length points) new (courses_of lives graphs points) (courses_of lives graphs (points ++ new)) (courses_fare points new lives graphs fare)

    -- with more points the effects go on by what the open lives do
    pub effects_go : (points new : List PointValue) (lives : List Life) (graphs : List (List (Placed P))) (es : List Effect) → LivesFit (length points) lives
        → es ≡ later_effects answer (length points) (length new) (map (grown new) (open_courses lives graphs points))
        → stored_effects answer lives graphs (points ++ new) ≡ stored_effects answer lives graphs points ++ es
    effects_go points new lives graphs es fit is =
        let n = length points in
        let k = length new in
        let long : length (points ++ new) ≡ n + k = length-append points new in
        ap (λ (m : ℕ). course_effects answer m (courses_of lives graphs (points ++ new))) long
        ∙ effects_more answer life_of number stamped n new (courses_of lives graphs points) (courses_of lives graphs (points ++ new)) (courses-go lives graphs points new fit)
        ∙ ap (λ (fs : List Effect). stored_effects answer lives graphs points ++ fs)
        (later-open n k lives graphs (points ++ new) fit
        ∙ ap (λ (cs : List (Course P)). later_effects answer n k cs) (open_grown points new lives graphs fit)
        ∙ sym is)
