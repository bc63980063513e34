-- What a join keeps is what its definition asks of the whole list.
use Rattle.std.proofs.Common.{◌≡◌, ℕ, ◌<◌, Bool, true, false, cond, ◌||◌, List, [], ◌∷◌, ◌++◌, Option, Some, None, option_map, refl, sym, ap, ◌∙◌, arith, append_assoc, append-nil, ℤ, pos, ◌-ℤ◌, ◌<ℤ◌, ◌≤ℤ◌, int_lt, nat_lt}
use Rattle.std.specs.Prelude.{filter, length, replicate}
use Rattle.std.specs.Ordering.{int_eq}
use Rattle.std.specs.List.{last_or, list_any}
use Rattle.std.specs.Cmp.{signed_Decides}
use Rattle.std.proofs.lemmas.Int.{ints}
use Rattle.std.proofs.lemmas.List.Folds.{list_any-append}
use Rattle.std.proofs.lemmas.Bool.Decides.{nat_tests}
use Rattle.kap_base.proofs.LastLaws.{last_or-push}
use Rattle.kap_base.proofs.TestLaws.{first_false, first_of, second_false}
use Rattle.kap_base.specs.Points.{PointValue, is_time}
use Rattle.kap_base.specs.declared.items.Body.{Body}
use Rattle.node_core.specs.declared.said.Said.{Said}
use Rattle.node_core.specs.Groups.{Came}
use Rattle.node_core.specs.Laws.{filter-append}
use Rattle.node_core.specs.Meaning.{Turn, a_drop}
use Rattle.task_graph.specs.declared.spec.JoinSpec.{JoinSpec}
use Rattle.join_node.specs.Joins.{closed, columns_at, filled, gives, heard, heard_says, is_heard, is_late, join_says, latest, on_time, on_time_behind, own_set, parents, rounded, unfilled, unless_late, with_time}
use Rattle.join_node.specs.QueueLaws.{emptied_is, if_full, no_columns, open_wait, place_is}
use Rattle.join_node.specs.Queues.{JoinKept, Placed, arrived, emptied, filled_by, join_kept, join_step, kept_at, moved, place, risen, waiting}
use Rattle.join_node.specs.Results.{result_of}
use Rattle.join_node.specs.Sets.{Columns, Set, columns, is_full, is_open, points_at, set_at, sets}

-- ---- numbers and tests

lt_fact : (a b : ℤ) → int_lt a b ≡ true → a <ℤ b
lt_fact a b e = grind (arith, ints)

le_fact : (a b : ℤ) → int_lt a b ≡ false → b ≤ℤ a
le_fact a b e = grind (arith, ints)

same_number : (a b : ℤ) → int_lt a b ≡ false → int_lt b a ≡ false → a ≡ b
same_number a b p q =
    let x : b ≤ℤ a = le_fact a b p in
    let y : a ≤ℤ b = le_fact b a q in
    omega (arith, ints)

not_below : (a : ℤ) → int_lt a a ≡ false
not_below a = grind (arith, ints)

lower_number : (a b : ℤ) → a <ℤ b → int_eq a b ≡ false
lower_number a b lt = elim (int_eq a b) as (λ t. int_eq a b ≡ t → t ≡ false) [
  | true ↦ λ e. let is : a ≡ b = (signed_Decides a b).0 e in absurd (omega (arith, ints))
  | false ↦ λ e. refl
] refl

itself : (a : ℤ) → int_eq a a ≡ true
itself a = (signed_Decides a a).1 refl

both_false : (a b : Bool) → a ≡ false → b ≡ false → (a || b) ≡ false
both_false true b e f = e
both_false false b e f = f

-- the time lies below this one, if there is one
abbrev pub is_below : ℤ → Option ℤ → Bool
is_below time None = false
is_below time (Some t) = int_lt time t

module _ (j : JoinSpec) where
  -- ---- one more point

  on_time-more : (done cs : List Came) (c : Came) → on_time_behind j done (cs ++ c ∷ []) ≡ on_time_behind j done cs
      ++ unless_late j (done ++ cs) c
  on_time-more done [] c =
      append-nil (unless_late j done c) ∙ ap (λ (l : List Came). unless_late j l c) (sym (append-nil done))
  on_time-more done (x ∷ cs) c =
      ap (λ (l : List Came). unless_late j done x ++ l) (on_time-more (done ++ x ∷ []) cs c)
      ∙ sym (append_assoc (unless_late j done x) (on_time_behind j (done ++ x ∷ []) cs)
      (unless_late j ((done ++ x ∷ []) ++ cs) c))
      ∙ ap (λ (l : List Came). on_time_behind j done (x ∷ cs) ++ unless_late j l c) (append_assoc done (x ∷ []) cs)

  on_late : (cs : List Came) (c : Came) → is_late j cs c ≡ true → on_time j (cs ++ c ∷ []) ≡ on_time j cs
  on_late cs c e =
      on_time-more [] cs c ∙ ap (λ (b : Bool). on_time j cs ++ cond b [] (c ∷ [])) e ∙ append-nil (on_time j cs)

  on_new : (cs : List Came) (c : Came) → is_late j cs c ≡ false → on_time j (cs ++ c ∷ []) ≡ on_time j cs ++ c ∷ []
  on_new cs c e = on_time-more [] cs c ∙ ap (λ (b : Bool). on_time j cs ++ cond b [] (c ∷ [])) e

  -- the greatest rounded time of points
  abbrev of_last : List Came → Option ℤ
  of_last cs = option_map (rounded j) (last_or None cs)

  latest_late : (cs : List Came) (c : Came) → is_late j cs c ≡ true → latest j (cs ++ c ∷ []) ≡ latest j cs
  latest_late cs c e = ap of_last (on_late cs c e)

  latest_new : (cs : List Came) (c : Came) → is_late j cs c ≡ false → latest j (cs ++ c ∷ []) ≡ Some (rounded j c)
  latest_new cs c e = ap of_last (on_new cs c e) ∙ ap (option_map (rounded j)) (last_or-push None (on_time j cs) c)

  -- ---- the greatest rounded time

  -- some point has a rounded time above this
  abbrev some_above : ℤ → List Came → Bool
  some_above time cs = list_any (λ b. int_lt time (rounded j b)) cs

  below_late : (time r : ℤ) (o : Option ℤ) → is_below r o ≡ true
      → (is_below time o || (int_lt time r || false)) ≡ is_below time o
  below_late time r None e = absurd cc
  below_late time r (Some t) e = grind (arith, ints)

  below_new : (time r : ℤ) (o : Option ℤ) → is_below r o ≡ false
      → (is_below time o || (int_lt time r || false)) ≡ int_lt time r
  below_new time r None e = or-false (int_lt time r)
    where
      or-false : (b : Bool) → (b || false) ≡ b
      or-false true = refl
      or-false false = refl
  below_new time r (Some t) e = grind (arith, ints)

  -- the points that have a rounded time above another are told by the greatest
  abbrev Tells : List Came → Type 0
  Tells cs = (time : ℤ) → some_above time cs ≡ is_below time (latest j cs)

  tells-more : (cs : List Came) (c : Came) → Tells cs → Tells (cs ++ c ∷ [])
  tells-more cs c tells time =
      let all : some_above time (cs ++ c ∷ []) ≡ (is_below time (latest j cs) || (int_lt time (rounded j c) || false)) =
      list_any-append (λ b. int_lt time (rounded j b)) cs (c ∷ [])
      ∙ ap (λ (b : Bool). b || (int_lt time (rounded j c) || false)) (tells time) in
      elim (is_late j cs c) as (λ b. is_late j cs c ≡ b
      → some_above time (cs ++ c ∷ []) ≡ is_below time (latest j (cs ++ c ∷ []))) [
        | true ↦ λ e. all ∙ below_late time (rounded j c) (latest j cs) (sym (tells (rounded j c)) ∙ e)
            ∙ ap (is_below time) (sym (latest_late cs c e))
        | false ↦ λ e. all ∙ below_new time (rounded j c) (latest j cs) (sym (tells (rounded j c)) ∙ e)
            ∙ ap (is_below time) (sym (latest_new cs c e))
      ] refl

  tells-all : (done cs : List Came) → Tells done → Tells (done ++ cs)
  tells-all done [] tells = rw (append-nil done) tells
  tells-all done (c ∷ cs) tells =
      rw (append_assoc done (c ∷ []) cs) at (tells-all (done ++ c ∷ []) cs (tells-more done c tells))

  -- Some point has a greater rounded time exactly where the greatest one is greater.
  pub latest_tells : (cs : List Came) (time : ℤ) → some_above time cs ≡ is_below time (latest j cs)
  latest_tells cs = tells-all [] cs (λ time. refl)

  -- ---- points with a rounded time

  any-on_time : (f : Came → Bool) (done cs : List Came) → list_any f cs ≡ false
      → list_any f (on_time_behind j done cs) ≡ false
  any-on_time f done [] e = refl
  any-on_time f done (c ∷ cs) e =
      let here : f c ≡ false = first_false (f c) (list_any f cs) e in
      let unless : list_any f (unless_late j done c) ≡ false = elim (is_late j done c) as
      (λ b. list_any f (cond b [] (c ∷ [])) ≡ false) [ true ↦ refl | false ↦ both_false (f c) false here refl ] in
      list_any-append f (unless_late j done c) (on_time_behind j (done ++ c ∷ []) cs)
      ∙ both_false (list_any f (unless_late j done c)) (list_any f (on_time_behind j (done ++ c ∷ []) cs)) unless
      (any-on_time f (done ++ c ∷ []) cs (second_false (f c) (list_any f cs) e))

  none_with : (t r : ℤ) (cs : List Came) → some_above t cs ≡ false → t <ℤ r → with_time j r cs ≡ []
  none_with t r [] e lt = refl
  none_with t r (c ∷ cs) e lt =
      let low : rounded j c ≤ℤ t = le_fact t (rounded j c) (first_false (int_lt t (rounded j c)) (some_above t cs) e) in
      let other : int_eq (rounded j c) r ≡ false = lower_number (rounded j c) r (omega (arith, ints)) in
      ap (λ (b : Bool). cond b (c ∷ with_time j r cs) (with_time j r cs)) other
      ∙ none_with t r cs (second_false (int_lt t (rounded j c)) (some_above t cs) e) lt

  -- no point has a rounded time above all
  none_above : (cs : List Came) (t r : ℤ) → is_below t (latest j cs) ≡ false → t <ℤ r
      → with_time j r (on_time j cs) ≡ []
  none_above cs t r e lt =
      none_with t r (on_time j cs) (any-on_time (λ b. int_lt t (rounded j b)) [] cs (latest_tells cs t ∙ e)) lt

  -- a point that isn't late is the last of those with its rounded time
  pub with_own : (cs : List Came) (c : Came) → is_late j cs c ≡ false
      → with_time j (rounded j c) (on_time j (cs ++ c ∷ [])) ≡ with_time j (rounded j c) (on_time j cs) ++ c ∷ []
  with_own cs c e =
      ap (with_time j (rounded j c)) (on_new cs c e)
      ∙ filter-append (λ b. int_eq (rounded j b) (rounded j c)) (on_time j cs) (c ∷ [])
      ∙ ap (λ (b : Bool). with_time j (rounded j c) (on_time j cs) ++ cond b (c ∷ []) []) (itself (rounded j c))

  -- ---- the machine

  abbrev turn : Option JoinKept → Said → Turn (Option JoinKept)
  turn state said = record { state = state; said = said }

  abbrev kept_in : List Came → Option JoinKept
  kept_in cs = option_map (kept_at j cs) (latest j cs)

  filled_is : (time : ℤ) (s : Set) → filled_by j time (if_full s) ≡ filled j time s
  filled_is time s =
      elim (is_full s) as (λ b. filled_by j time (cond b (Some s) None) ≡ cond b (result_of j time s) []) [
        | true ↦ refl
        | false ↦ refl
      ]

  -- a point that isn't late comes to what waits with its rounded time
  arrived_is : (cs : List Came) (port : ℕ) (p : PointValue) (before : List Body) (queues : Columns) → port < parents j
      → is_late j cs (port, p) ≡ false
      → queues ≡ waiting (columns_at j (rounded j (port, p)) cs)
      → arrived j (rounded j (port, p)) before queues port p ≡ turn (kept_in (cs ++ (port, p) ∷ []))
      (gives (before ++ filled j (rounded j (port, p)) (own_set j cs (port, p))))
  arrived_is cs port p before queues lt fresh is =
      let c : Came = (port, p) in
      let time : ℤ = rounded j c in
      let old : List Came = with_time j time (on_time j cs) in
      let more : old ++ c ∷ [] ≡ with_time j time (on_time j (cs ++ c ∷ [])) = sym (with_own cs c fresh) in
      let here : place port p queues ≡ record {
        queues = waiting (columns (parents j) (old ++ c ∷ []));
        filled = if_full
            (set_at (length (points_at port old)) (columns (parents j) (old ++ c ∷ [])));
      } =
      ap (place port p) is ∙ place_is (parents j) port old p lt in
      ap (λ (d : Placed). turn (Some (record { time = time; queues = d.queues }))
      (gives (before ++ filled_by j time d.filled))) here
      ∙ (λ i. turn (Some (record { time = time; queues = waiting (columns (parents j) (more i)) }))
      (gives (before
      ++ filled_by j time (if_full (set_at (length (points_at port old)) (columns (parents j) (more i)))))))
      ∙ (λ i. turn (option_map (kept_at j (cs ++ c ∷ [])) (sym (latest_new cs c fresh) i))
      (gives (before ++ filled_is time (own_set j cs c) i)))

  late_says : (cs : List Came) (c : Came) → is_late j cs c ≡ true → heard_says j cs c ≡ a_drop
  late_says cs c e =
      ap (λ (b : Bool). cond b a_drop
      (gives (closed j cs (rounded j c) (latest j cs) ++ filled j (rounded j c) (own_set j cs c)))) e

  fresh_says : (cs : List Came) (c : Came) (before : List Body) → is_late j cs c ≡ false
      → closed j cs (rounded j c) (latest j cs) ≡ before
      → heard_says j cs c ≡ gives (before ++ filled j (rounded j c) (own_set j cs c))
  fresh_says cs c before e is =
      ap (λ (b : Bool). cond b a_drop
      (gives (closed j cs (rounded j c) (latest j cs) ++ filled j (rounded j c) (own_set j cs c)))) e
      ∙ ap (λ (l : List Body). gives (l ++ filled j (rounded j c) (own_set j cs c))) is

  kept_late : (cs : List Came) (c : Came) → is_late j cs c ≡ true → kept_in (cs ++ c ∷ []) ≡ kept_in cs
  kept_late cs c e =
      (λ i. option_map
      (λ (time : ℤ). record {
        time = time;
        queues = waiting (columns (parents j) (with_time j time (on_late cs c e i)));
      })
      (latest_late cs c e i))

  -- the greatest rounded time so far is this
  module _ (cs : List Came) (port : ℕ) (p : PointValue) (lt : port < parents j) where
    abbrev c : Came
    c = (port, p)

    abbrev Right : Option ℤ → Type 0
    Right o = moved j (option_map (kept_at j cs) o) (rounded j c) port p
        ≡ turn (kept_in (cs ++ c ∷ [])) (heard_says j cs c)

    late_by : (o : Option ℤ) → latest j cs ≡ o → is_late j cs c ≡ is_below (rounded j c) o
    late_by o e = latest_tells cs (rounded j c) ∙ ap (is_below (rounded j c)) e

    first_comes : latest j cs ≡ None → Right None
    first_comes e =
        let fresh : is_late j cs c ≡ false = late_by None e in
        let before : (rounded j c -ℤ pos 1) <ℤ rounded j c = omega (arith, ints) in
        let none : with_time j (rounded j c) (on_time j cs) ≡ [] = none_above cs (rounded j c -ℤ pos 1) (rounded j c)
        (ap (is_below (rounded j c -ℤ pos 1)) e) before in
        arrived_is cs port p [] (replicate (parents j) []) lt fresh (no_columns (parents j)
        ∙ ap (λ (l : List Came). waiting (columns (parents j) l)) (sym none))
        ∙ ap (turn (kept_in (cs ++ c ∷ []))) (sym (fresh_says cs c [] fresh (ap (closed j cs (rounded j c)) e)))

    late_comes : (t : ℤ) → latest j cs ≡ Some t → int_lt (rounded j c) t ≡ true → Right (Some t)
    late_comes t e late =
        let is : is_late j cs c ≡ true = late_by (Some t) e ∙ late in
        ap (λ (b : Bool). cond b (turn (Some (kept_at j cs t)) a_drop)
        (cond (int_lt t (rounded j c)) (risen j (kept_at j cs t) (rounded j c) port p)
        (arrived j (rounded j c) [] (waiting (columns_at j t cs)) port p))) late
        ∙ (λ i. turn (sym (ap (option_map (kept_at j cs)) e) i) a_drop)
        ∙ (λ i. turn (sym (kept_late cs c is) i) (sym (late_says cs c is) i))

    newer_comes : (t : ℤ) → latest j cs ≡ Some t → int_lt (rounded j c) t ≡ false → int_lt t (rounded j c) ≡ true
        → Right (Some t)
    newer_comes t e fresh newer =
        let is : is_late j cs c ≡ false = late_by (Some t) e ∙ fresh in
        let none : with_time j (rounded j c) (on_time j cs) ≡ [] = none_above cs t (rounded j c) (ap (is_below t) e
        ∙ not_below t) (lt_fact t (rounded j c) newer) in
        let queues : emptied (waiting (columns_at j t cs)) ≡ waiting (columns_at j (rounded j c) cs) =
        emptied_is (parents j) (with_time j t (on_time j cs))
        ∙ ap (λ (l : List Came). waiting (columns (parents j) l)) (sym none) in
        let given : closed j cs (rounded j c) (latest j cs) ≡ unfilled j t (sets (waiting (columns_at j t cs))) =
        ap (closed j cs (rounded j c)) e
        ∙ ap (λ (b : Bool). cond b (unfilled j t (filter is_open (sets (columns_at j t cs)))) []) newer
        ∙ ap (unfilled j t) (open_wait (columns_at j t cs)) in
        ap (λ (b : Bool). cond b (turn (Some (kept_at j cs t)) a_drop)
        (cond (int_lt t (rounded j c)) (risen j (kept_at j cs t) (rounded j c) port p)
        (arrived j (rounded j c) [] (waiting (columns_at j t cs)) port p))) fresh
        ∙ ap (λ (b : Bool). cond b (risen j (kept_at j cs t) (rounded j c) port p)
        (arrived j (rounded j c) [] (waiting (columns_at j t cs)) port p)) newer
        ∙ arrived_is cs port p (unfilled j t (sets (waiting (columns_at j t cs))))
        (emptied (waiting (columns_at j t cs))) lt is queues
        ∙ ap (turn (kept_in (cs ++ c ∷ [])))
        (sym (fresh_says cs c (unfilled j t (sets (waiting (columns_at j t cs)))) is given))

    same_comes : (t : ℤ) → latest j cs ≡ Some t → int_lt (rounded j c) t ≡ false → int_lt t (rounded j c) ≡ false
        → Right (Some t)
    same_comes t e fresh same =
        let is : is_late j cs c ≡ false = late_by (Some t) e ∙ fresh in
        let time : t ≡ rounded j c = same_number t (rounded j c) same fresh in
        let given : closed j cs (rounded j c) (latest j cs) ≡ [] =
        ap (closed j cs (rounded j c)) e
        ∙ ap (λ (b : Bool). cond b (unfilled j t (filter is_open (sets (columns_at j t cs)))) []) same in
        ap (λ (b : Bool). cond b (turn (Some (kept_at j cs t)) a_drop)
        (cond (int_lt t (rounded j c)) (risen j (kept_at j cs t) (rounded j c) port p)
        (arrived j (rounded j c) [] (waiting (columns_at j t cs)) port p))) fresh
        ∙ ap (λ (b : Bool). cond b (risen j (kept_at j cs t) (rounded j c) port p)
        (arrived j (rounded j c) [] (waiting (columns_at j t cs)) port p)) same
        ∙ arrived_is cs port p [] (waiting (columns_at j t cs)) lt is (ap (λ (z : ℤ). waiting (columns_at j z cs)) time)
        ∙ ap (turn (kept_in (cs ++ c ∷ []))) (sym (fresh_says cs c [] is given))

    moved_by : (o : Option ℤ) → latest j cs ≡ o → Right o
    moved_by None e = first_comes e
    moved_by (Some t) e = elim (int_lt (rounded j c) t) as (λ b. int_lt (rounded j c) t ≡ b → Right (Some t)) [
      | true ↦ late_comes t e
      | false ↦ λ fresh. elim (int_lt t (rounded j c)) as (λ b. int_lt t (rounded j c) ≡ b → Right (Some t)) [
        | true ↦ newer_comes t e fresh
        | false ↦ same_comes t e fresh
      ] refl
    ] refl

    moved_is : moved j (kept_in cs) (rounded j c) port p ≡ turn (kept_in (cs ++ c ∷ [])) (heard_says j cs c)
    moved_is = moved_by (latest j cs) refl

  heard-more : (before : List Came) (c : Came) → heard j (before ++ c ∷ []) ≡ heard j before
      ++ cond (is_heard j c) (c ∷ []) []
  heard-more before c = filter-append (is_heard j) before (c ∷ [])

  port_below : (port : ℕ) (p : PointValue) → is_heard j (port, p) ≡ true → port < parents j
  port_below port p e =
      let is : nat_lt port (parents j) ≡ true = first_of (nat_lt port (parents j)) (is_time (rounded j (port, p))) e in
      grind (arith, nat_tests)

  -- What is kept of a list goes on as the definition says.
  pub goes_on : (before : List Came) (port : ℕ) (p : PointValue)
      → join_step j (join_kept j before) port p
      ≡ record { state = join_kept j (before ++ (port, p) ∷ []); said = join_says j before port p }
  goes_on before port p =
      let c : Came = (port, p) in
      elim (is_heard j c) as
      (λ b. is_heard j c ≡ b → ◌≡◌ {A = Turn (Option JoinKept)}
      (cond b (moved j (join_kept j before) (rounded j c) port p) (turn (join_kept j before) a_drop))
      (turn (join_kept j (before ++ c ∷ [])) (cond b (heard_says j (heard j before) c) a_drop))) [
        | true ↦ λ e. moved_is (heard j before) port p (port_below port p e)
            ∙ ap (λ (l : List Came). turn (kept_in l) (heard_says j (heard j before) c)) (sym (heard-more before c
            ∙ ap (λ (b : Bool). heard j before ++ cond b (c ∷ []) []) e))
        | false ↦ λ e. ap (λ (l : List Came). turn (kept_in l) a_drop)
            (sym (heard-more before c ∙ ap (λ (b : Bool). heard j before ++ cond b (c ∷ []) []) e
            ∙ append-nil (heard j before)))
      ] refl

-- what is kept, and what is said, of one point more
pub join_goes_on : (j : JoinSpec) (before : List Came) (port : ℕ) (p : PointValue)
    → join_step j (join_kept j before) port p
    ≡ record { state = join_kept j (before ++ (port, p) ∷ []); said = join_says j before port p }
join_goes_on = goes_on
