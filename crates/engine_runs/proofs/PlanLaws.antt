-- Lives that were open at a snapshot are planned again, one after the other.
use Rattle.std.proofs.Common.{◌≡◌, ℕ, zero, suc, ◌+◌, ◌<◌, ◌≤◌, Bool, true, false, List, [], ◌∷◌, ◌++◌, length, map, drop, None, Some, inl, inr, refl, sym, ap, subst, ◌∙◌, append-nil, append_assoc, arith}
use Rattle.std.specs.Prelude.{◌⊎◌, slice_get}
use Rattle.std.specs.List.{AllByRecursion as Each}
use Rattle.std.proofs.lemmas.List.{length-append, map-append}
use Rattle.effect_text.specs.Lines.{task_of}
use Rattle.effect_text.specs.declared.names.TaskNames.{TaskNames}
use Rattle.flow_core.specs.Making.{HasFewParents}
use Rattle.node_set.specs.Tasks.{Planned}
use Rattle.store_records.specs.declared.task.Life.{Life}
use Rattle.task_run.specs.Graphs.{Placed}
use Rattle.task_run.specs.Plans.{PlanValue, graph_of}
use Rattle.tick_compile.specs.Scripts.{Accepts}
use Rattle.tick_compile.specs.declared.tasks.Task.{Task}
use Rattle.engine_runs.specs.Restoring.{HasPlanned}
use Rattle.engine_runs.specs.Scripts.{AreTasksOf, PutsPlan, graphs_from, life_names, life_nodes, names_from}
use Rattle.engine_runs.specs.Spans.{AreThere, IsAway, numbers_from, picked}
use Rattle.engine_runs.proofs.PlaceLaws.{each_more, graph_at, name_at, name_new, name_stays, names_at, number_at, numbers_below, task_at}
use Rattle.engine_runs.proofs.SpanLaws.{picked_more}

-- ---- lists

picked_pass : {A : Type 0} (runs : List Bool) (xs : List A) → picked (runs ++ false ∷ []) xs ≡ picked runs xs
picked_pass [] [] = refl
picked_pass [] (x ∷ xs) = refl
picked_pass (r ∷ runs) [] = refl
picked_pass (true ∷ runs) (x ∷ xs) = ap (λ l. x ∷ l) (picked_pass runs xs)
picked_pass (false ∷ runs) (x ∷ xs) = picked_pass runs xs

pub picked_both : {A : Type 0} (some others : List Bool) (xs : List A) → picked (some ++ others) xs ≡ picked some xs ++ picked others (drop (length some) xs)
picked_both [] others xs = refl
picked_both (s ∷ some) [] [] = refl
picked_both (s ∷ some) (r ∷ others) [] = refl
picked_both (true ∷ some) others (x ∷ xs) = ap (λ l. x ∷ l) (picked_both some others xs)
picked_both (false ∷ some) others (x ∷ xs) = picked_both some others xs

drop-next : {A : Type 0} (xs : List A) (i : ℕ) (x : A) → slice_get xs i ≡ Some x → drop i xs ≡ x ∷ drop (suc i) xs
drop-next [] i x at = absurd cc
drop-next (y ∷ xs) zero x at = let same : y ≡ x = cc in ap (λ z. z ∷ xs) same
drop-next (y ∷ xs) (suc i) x at = drop-next xs i x at

drop-at : {A : Type 0} (xs : List A) (i : ℕ) (x : A) → slice_get xs i ≡ Some x → drop i xs ≡ x ∷ drop (i + 1) xs
drop-at xs i x at = let one : suc i ≡ i + 1 = omega arith in drop-next xs i x at ∙ ap (λ (m : ℕ). x ∷ drop m xs) one

numbers-high : {A : Type 0} (n : ℕ) (runs : List Bool) (xs : List A) (number : ℕ) (others : List ℕ) → number ∷ others ≡ picked runs (numbers_from n xs) → n ≤ number
numbers-high n [] xs number others e = absurd cc
numbers-high n (r ∷ runs) [] number others e = absurd cc
numbers-high n (true ∷ runs) (x ∷ xs) number others e = let same : number ≡ n = cc in omega (arith, same)
numbers-high n (false ∷ runs) (x ∷ xs) number others e = let high : n + 1 ≤ number = numbers-high (n + 1) runs xs number others e in omega (arith, high)

-- ---- one step

one-over : (n : ℕ) → 1 + n + 1 ≡ 1 + (n + 1)
one-over n = omega arith

-- of the lives that are left the first has true just where its number is the next one
record FirstLeft (n : ℕ) (left : List Bool) (lives : List Life) (number : ℕ) (others : List ℕ) : Type 0 where
  runs : Bool
  behind : List Bool
  is : left ≡ runs ∷ behind
  has : (number ≡ n) × (runs ≡ true) × (others ≡ picked behind (numbers_from (n + 1) lives)) ⊎ ((number ≡ n → ⊥) × (runs ≡ false) × (number ∷ others ≡ picked behind (numbers_from (n + 1) lives)))

first-left : (n : ℕ) (left : List Bool) (life : Life) (lives : List Life) (number : ℕ) (others : List ℕ) → number ∷ others ≡ picked left (numbers_from n (life ∷ lives)) → FirstLeft n left lives number others
first-left n [] life lives number others e = absurd cc
first-left n (true ∷ behind) life lives number others e =
    let same : number ≡ n = cc in
    let rest : others ≡ picked behind (numbers_from (n + 1) lives) = cc in
    record { runs = true; behind = behind; is = refl; has = inl (same, refl, rest) }
first-left n (false ∷ behind) life lives number others e =
    let high : n + 1 ≤ number = numbers-high (n + 1) behind lives number others e in
    record { runs = false; behind = behind; is = refl; has = inr (λ same. absurd (omega (arith, high, same)), refl, e) }

module _ {N P : Type 0} (spec : N → P) (planned : Planned P) (lives : List Life) (runs : List Bool) where
  abbrev Has : List ℕ → List TaskNames → List (PlanValue N) → Type 0
  Has = HasPlanned spec planned lives runs

  pub planned_none : (all : List ℕ) → all ≡ picked runs (numbers_from 1 lives) → Has all [] []
  planned_none all e = record {
    passed = [];
    left = runs;
    split = refl;
    long = refl;
    rest_is = e;
    numbers = refl;
    few = tt;
    graphs = λ tasks are. refl;
    named = λ tasks are. tt;
  }

  names-stay : (tasks : List Task) (passed : List Bool) (names : List TaskNames) (name : TaskNames) → length passed ≡ length names → Each (λ number. task_of names number ≡ task_of (names_from lives tasks) number) (picked passed (numbers_from 1 lives))
      → Each (λ number. task_of (names ++ name ∷ []) number ≡ task_of (names_from lives tasks) number) (picked passed (numbers_from 1 lives))
  names-stay tasks passed names name long h = both (picked passed (numbers_from 1 lives)) (numbers_below 1 passed lives) h
    where
      both : (ns : List ℕ) → Each (λ number. number < 1 + length passed) ns → Each (λ number. task_of names number ≡ task_of (names_from lives tasks) number) ns
          → Each (λ number. task_of (names ++ name ∷ []) number ≡ task_of (names_from lives tasks) number) ns
      both [] low h = tt
      both (number ∷ ns) low h = let lt : number < 1 + length passed = low.0 in (name_stays names name number (omega (arith, lt, long)) ∙ h.0, both ns low.1 h.1)

  left-behind : (passed : List Bool) (r : Bool) (life : Life) → slice_get lives (length passed) ≡ Some life → numbers_from (1 + length passed) (drop (length passed) lives) ≡ numbers_from (1 + length passed) (life ∷ drop (length passed + 1) lives)
  left-behind passed r life at = ap (numbers_from (1 + length passed)) (drop-at lives (length passed) life at)

  -- the next life is passed, whose number isn't the next one
  pub planned_pass : (number : ℕ) (others : List ℕ) (names : List TaskNames) (name : TaskNames) (plans : List (PlanValue N)) (life : Life) → slice_get lives (length names) ≡ Some life → (number ≡ length names + 1 → ⊥)
      → Has (number ∷ others) names plans → Has (number ∷ others) (names ++ name ∷ []) plans
  planned_pass number others names name plans life at other h = by-has f.has
    where
      long : length h.passed ≡ length names
      long = h.long

      here : slice_get lives (length h.passed) ≡ Some life
      here = ap (slice_get lives) long ∙ at

      f : FirstLeft (1 + length h.passed) h.left (drop (length h.passed + 1) lives) number others
      f = first-left (1 + length h.passed) h.left life (drop (length h.passed + 1) lives) number others (h.rest_is ∙ ap (picked h.left) (left-behind h.passed false life here))

      more : length (h.passed ++ false ∷ []) ≡ length h.passed + 1
      more = length-append h.passed (false ∷ [])

      by-has : (number ≡ 1 + length h.passed) × (f.runs ≡ true) × (others ≡ picked f.behind (numbers_from (1 + length h.passed + 1) (drop (length h.passed + 1) lives))) ⊎ ((number ≡ 1 + length h.passed → ⊥) × (f.runs ≡ false) × (number ∷ others ≡ picked f.behind (numbers_from (1 + length h.passed + 1) (drop (length h.passed + 1) lives)))) → Has (number ∷ others) (names ++ name ∷ []) plans
      by-has (inl x) = let is : number ≡ 1 + length h.passed = x.0 in absurd (other (omega (arith, is, long)))
      by-has (inr x) = record {
        passed = h.passed ++ false ∷ [];
        left = f.behind;
        split = h.split ∙ ap (λ l. h.passed ++ l) (f.is ∙ ap (λ r. r ∷ f.behind) x.1) ∙ sym (append_assoc h.passed (false ∷ []) f.behind);
        long = more ∙ ap (λ m. m + 1) long ∙ sym (length-append names (name ∷ []));
        rest_is = x.2 ∙ ap (λ (m : ℕ). picked f.behind (numbers_from m (drop (length h.passed + 1) lives))) (one-over (length h.passed)) ∙ ap (λ m. picked f.behind (numbers_from (1 + m) (drop m lives))) (sym more);
        numbers = h.numbers ∙ sym (picked_pass h.passed (numbers_from 1 lives));
        few = h.few;
        graphs = λ tasks are. h.graphs tasks are ∙ sym (picked_pass h.passed (graphs_from planned 1 lives tasks));
        named = λ tasks are. subst (Each (λ m. task_of (names ++ name ∷ []) m ≡ task_of (names_from lives tasks) m)) (sym (picked_pass h.passed (numbers_from 1 lives))) (names-stay tasks h.passed names name long (h.named tasks are));
      }

  -- the next life is planned, whose number is the next one
  pub planned_next : {S : Type 0} (state : N → S) (first : P → S) (one_task : (text : List ℕ) (a b : Task) → Accepts None text a → Accepts None text b → a ≡ b)
      (number : ℕ) (others : List ℕ) (names names' : List TaskNames) (plans plans' : List (PlanValue N)) (life : Life) → slice_get lives (length names) ≡ Some life → number ≡ length names + 1
      → PutsPlan planned spec state first number life names names' plans plans' → Has (number ∷ others) names plans → Has others names' plans'
  planned_next state first one_task number others names names' plans plans' life at same p h = by-has f.has
    where
      long : length h.passed ≡ length names
      long = h.long

      here : slice_get lives (length h.passed) ≡ Some life
      here = ap (slice_get lives) long ∙ at

      f : FirstLeft (1 + length h.passed) h.left (drop (length h.passed + 1) lives) number others
      f = first-left (1 + length h.passed) h.left life (drop (length h.passed + 1) lives) number others (h.rest_is ∙ ap (picked h.left) (left-behind h.passed true life here))

      more : length (h.passed ++ true ∷ []) ≡ length h.passed + 1
      more = length-append h.passed (true ∷ [])

      made : TaskNames × PlanValue N
      made = p.made

      seat : slice_get (numbers_from 1 lives) (length h.passed) ≡ Some number
      seat = number_at 1 lives (length h.passed) life here ∙ ap (λ (m : ℕ). Some m) (omega (arith, long, same))

      numbers-now : picked (h.passed ++ true ∷ []) (numbers_from 1 lives) ≡ picked h.passed (numbers_from 1 lives) ++ number ∷ []
      numbers-now = picked_more h.passed (numbers_from 1 lives) number true seat

      graph-now : (tasks : List Task) → AreTasksOf lives tasks → slice_get (graphs_from planned 1 lives tasks) (length h.passed) ≡ Some (graph_of spec made.1)
      graph-now tasks are =
          let t = task_at lives tasks (length h.passed) life are here in
          graph_at planned 1 lives tasks (length h.passed) life t.task here t.at
          ∙ ap (λ (m : ℕ). Some (life_nodes planned m life t.task)) (omega (arith, long, same))
          ∙ ap (λ (task : Task). Some (life_nodes planned number life task)) (one_task life.script t.task p.planned_is.task t.accepted p.planned_is.accepted)
          ∙ ap (λ (ns : List (Placed P)). Some ns) (sym p.planned_is.nodes)

      name-now : (tasks : List Task) → AreTasksOf lives tasks → slice_get (names_from lives tasks) (length names) ≡ Some made.0
      name-now tasks are =
          let t = task_at lives tasks (length names) life are at in
          names_at lives tasks (length names) life t.task at t.at
          ∙ ap (λ (task : Task). Some (life_names life task)) (one_task life.script t.task p.planned_is.task t.accepted p.planned_is.accepted)
          ∙ ap (λ (n : TaskNames). Some n) (sym p.planned_is.names_are)

      named-now : (tasks : List Task) → AreTasksOf lives tasks → Each (λ m. task_of names' m ≡ task_of (names_from lives tasks) m) (picked (h.passed ++ true ∷ []) (numbers_from 1 lives))
      named-now tasks are =
          subst (λ (l : List TaskNames). Each (λ m. task_of l m ≡ task_of (names_from lives tasks) m) (picked (h.passed ++ true ∷ []) (numbers_from 1 lives))) (sym p.names_are)
          (subst (Each (λ m. task_of (names ++ made.0 ∷ []) m ≡ task_of (names_from lives tasks) m)) (sym numbers-now)
          (each_more (λ m. task_of (names ++ made.0 ∷ []) m ≡ task_of (names_from lives tasks) m) (picked h.passed (numbers_from 1 lives)) number (names-stay tasks h.passed names made.0 long (h.named tasks are))
          (ap (task_of (names ++ made.0 ∷ [])) same ∙ name_new names made.0 ∙ sym (ap (task_of (names_from lives tasks)) same ∙ name_at (names_from lives tasks) (length names) ∙ name-now tasks are))))

      by-has : (number ≡ 1 + length h.passed) × (f.runs ≡ true) × (others ≡ picked f.behind (numbers_from (1 + length h.passed + 1) (drop (length h.passed + 1) lives))) ⊎ ((number ≡ 1 + length h.passed → ⊥) × (f.runs ≡ false) × (number ∷ others ≡ picked f.behind (numbers_from (1 + length h.passed + 1) (drop (length h.passed + 1) lives)))) → Has others names' plans'
      by-has (inr x) = absurd (x.0 (omega (arith, same, long)))
      by-has (inl x) = record {
        passed = h.passed ++ true ∷ [];
        left = f.behind;
        split = h.split ∙ ap (λ l. h.passed ++ l) (f.is ∙ ap (λ r. r ∷ f.behind) x.1) ∙ sym (append_assoc h.passed (true ∷ []) f.behind);
        long = more ∙ ap (λ m. m + 1) long ∙ sym (length-append names (made.0 ∷ [])) ∙ ap length (sym p.names_are);
        rest_is = x.2 ∙ ap (λ (m : ℕ). picked f.behind (numbers_from m (drop (length h.passed + 1) lives))) (one-over (length h.passed)) ∙ ap (λ m. picked f.behind (numbers_from (1 + m) (drop m lives))) (sym more);
        numbers = ap (map (λ plan. plan.life)) p.plans_are ∙ map-append (λ (plan : PlanValue N). plan.life) plans (made.1 ∷ []) ∙ ap (λ (ns : List ℕ). ns ++ made.1.life ∷ []) h.numbers
            ∙ ap (λ (m : ℕ). picked h.passed (numbers_from 1 lives) ++ m ∷ []) p.planned_is.number_is ∙ sym numbers-now;
        few = subst (Each HasFewParents) (sym p.plans_are) (each_more HasFewParents plans made.1 h.few p.planned_is.few);
        graphs = λ tasks are. ap (map (graph_of spec)) p.plans_are ∙ map-append (graph_of spec) plans (made.1 ∷ []) ∙ ap (λ (gs : List (List (Placed P))). gs ++ graph_of spec made.1 ∷ []) (h.graphs tasks are)
            ∙ sym (picked_more h.passed (graphs_from planned 1 lives tasks) (graph_of spec made.1) true (graph-now tasks are));
        named = named-now;
      }

-- ---- where all were planned

-- none of these has true
none-left : (k n : ℕ) (left : List Bool) (lives : List Life) → [] ≡ picked left (numbers_from n lives) → AreThere k 0 left lives → Each (IsAway k 0) (drop (length left) lives) → Each (IsAway k 0) lives
none-left k n [] lives e there away = away
none-left k n (r ∷ left) [] e there away = tt
none-left k n (true ∷ left) (life ∷ lives) e there away = absurd cc
none-left k n (false ∷ left) (life ∷ lives) e there away = (inr there.0, none-left k (n + 1) left lives e there.1 away)

none-picked : {A : Type 0} (n : ℕ) (left : List Bool) (lives : List Life) (xs : List A) → length xs ≤ length lives → [] ≡ picked left (numbers_from n lives) → picked left xs ≡ []
none-picked n [] lives xs le e = refl
none-picked n (r ∷ left) [] [] le e = refl
none-picked n (r ∷ left) [] (x ∷ xs) le e = absurd (omega (arith, le))
none-picked n (r ∷ left) (life ∷ lives) [] le e = refl
none-picked n (true ∷ left) (life ∷ lives) (x ∷ xs) le e = absurd cc
none-picked n (false ∷ left) (life ∷ lives) (x ∷ xs) le e = none-picked (n + 1) left lives xs (omega (arith, le)) e

there-front : (k : ℕ) (passed left : List Bool) (lives : List Life) → AreThere k 0 (passed ++ left) lives → AreThere k 0 passed lives
there-front k [] left lives h = tt
there-front k (r ∷ passed) left [] h = absurd h
there-front k (r ∷ passed) left (life ∷ lives) h = (h.0, there-front k passed left lives h.1)

there-back : (k : ℕ) (passed left : List Bool) (lives : List Life) → AreThere k 0 (passed ++ left) lives → AreThere k 0 left (drop (length passed) lives)
there-back k [] left lives h = h
there-back k (r ∷ passed) left [] h = absurd h
there-back k (r ∷ passed) left (life ∷ lives) h = there-back k passed left lives h.1

away-back : (k : ℕ) (passed left : List Bool) (lives : List Life) → AreThere k 0 (passed ++ left) lives → Each (IsAway k 0) (drop (length (passed ++ left)) lives) → Each (IsAway k 0) (drop (length left) (drop (length passed) lives))
away-back k [] left lives h away = away
away-back k (r ∷ passed) left [] h away = absurd h
away-back k (r ∷ passed) left (life ∷ lives) h away = away-back k passed left lives h.1 away

drop-short : {A B : Type 0} (i : ℕ) (xs : List A) (ys : List B) → length xs ≤ length ys → length (drop i xs) ≤ length (drop i ys)
drop-short zero xs ys le = le
drop-short (suc i) [] ys le = omega arith
drop-short (suc i) (x ∷ xs) [] le = absurd (omega (arith, le))
drop-short (suc i) (x ∷ xs) (y ∷ ys) le = drop-short i xs ys (omega (arith, le))

-- the first lives with true are all with true
pub record AllPlanned (k : ℕ) (lives : List Life) (passed : List Bool) : Type 0 where
  pub there : AreThere k 0 passed lives
  pub away : Each (IsAway k 0) (drop (length passed) lives)

pub all_planned : (k : ℕ) (lives : List Life) (runs passed left : List Bool) → runs ≡ passed ++ left → [] ≡ picked left (numbers_from (1 + length passed) (drop (length passed) lives))
    → AreThere k 0 runs lives → Each (IsAway k 0) (drop (length runs) lives) → AllPlanned k lives passed
all_planned k lives runs passed left split none there away =
    let there' : AreThere k 0 (passed ++ left) lives = subst (λ (rs : List Bool). AreThere k 0 rs lives) split there in
    let away' : Each (IsAway k 0) (drop (length (passed ++ left)) lives) = subst (λ (rs : List Bool). Each (IsAway k 0) (drop (length rs) lives)) split away in
    record {
      there = there-front k passed left lives there';
      away = none-left k (1 + length passed) left (drop (length passed) lives) none (there-back k passed left lives there') (away-back k passed left lives there' away');
    }

pub same_picked : {A : Type 0} (lives : List Life) (runs passed left : List Bool) (xs : List A) → runs ≡ passed ++ left → [] ≡ picked left (numbers_from (1 + length passed) (drop (length passed) lives)) → length xs ≤ length lives
    → picked runs xs ≡ picked passed xs
same_picked lives runs passed left xs split none le =
    ap (λ (rs : List Bool). picked rs xs) split ∙ picked_both passed left xs
    ∙ ap (λ l. picked passed xs ++ l) (none-picked (1 + length passed) left (drop (length passed) lives) (drop (length passed) xs) (drop-short (length passed) xs lives le) none)
    ∙ append-nil (picked passed xs)

-- ---- where no life is left, no number is

none-behind : (i : ℕ) (lives : List Life) → slice_get lives i ≡ None → drop i lives ≡ []
none-behind zero [] at = refl
none-behind zero (life ∷ lives) at = absurd cc
none-behind (suc i) [] at = refl
none-behind (suc i) (life ∷ lives) at = none-behind i lives at

picked-empty : (n : ℕ) (left : List Bool) → picked left (numbers_from {A = Life} n []) ≡ []
picked-empty n [] = refl
picked-empty n (r ∷ left) = refl

pub planned_short : {N P : Type 0} (spec : N → P) (planned : Planned P) (lives : List Life) (runs : List Bool) (number : ℕ) (others : List ℕ) (names : List TaskNames) (plans : List (PlanValue N))
    → HasPlanned spec planned lives runs (number ∷ others) names plans → slice_get lives (length names) ≡ None → ⊥
planned_short spec planned lives runs number others names plans h at =
    let long : length h.passed ≡ length names = h.long in
    let none : drop (length h.passed) lives ≡ [] = none-behind (length h.passed) lives (ap (slice_get lives) long ∙ at) in
    let e : number ∷ others ≡ [] = h.rest_is ∙ ap (λ (ls : List Life). picked h.left (numbers_from (1 + length h.passed) ls)) none ∙ picked-empty (1 + length h.passed) h.left in
    absurd cc

-- a plan that was put behind others has few parents too
pub puts_few : {N P S : Type 0} (planned : Planned P) (spec : N → P) (state : N → S) (first : P → S) (number : ℕ) (life : Life) (names names' : List TaskNames) (plans plans' : List (PlanValue N))
    → PutsPlan planned spec state first number life names names' plans plans' → Each HasFewParents plans → Each HasFewParents plans'
puts_few planned spec state first number life names names' plans plans' p few = subst (Each HasFewParents) (sym p.plans_are) (each_more HasFewParents plans p.made.1 few p.planned_is.few)
