-- What stands at the place of a life.
use Rattle.std.proofs.Common.{◌≡◌, ℕ, zero, suc, ◌+◌, ◌-◌, ◌<◌, ◌≤◌, Bool, true, false, List, [], ◌∷◌, ◌++◌, drop, length, map, None, Some, refl, sym, ap, subst, ◌∙◌, arith}
use Rattle.std.specs.Prelude.{slice_get, slice_index_or, nat_lt}
use Rattle.std.specs.List.{AllByRecursion as Each, remove}
use Rattle.std.proofs.lemmas.Bool.Decides.{nat_tests}
use Rattle.kap_base.specs.Points.{PointValue}
use Rattle.effect_text.specs.Lines.{task_of}
use Rattle.effect_text.specs.declared.names.TaskNames.{TaskNames}
use Rattle.life_effects.specs.Effects.{course_of, courses_of}
use Rattle.node_set.specs.Tasks.{Planned}
use Rattle.store_records.specs.declared.task.Life.{Life}
use Rattle.tick_compile.specs.declared.tasks.Task.{Task}
use Rattle.engine_runs.specs.Scripts.{AreTasksOf, IsTaskOf, graphs_from, life_names, life_nodes, names_from}
use Rattle.engine_runs.specs.Spans.{numbers_from, picked}
use Rattle.engine_runs.proofs.SpanLaws.{each_to}

-- ---- lists

pub get_map : {A B : Type 0} (f : A → B) (xs : List A) (i : ℕ) (x : A) → slice_get xs i ≡ Some x → slice_get (map f xs) i ≡ Some (f x)
get_map f [] i x at = absurd cc
get_map f (y ∷ xs) zero x at = let same : y ≡ x = cc in ap (λ (z : _). Some (f z)) same
get_map f (y ∷ xs) (suc i) x at = get_map f xs i x at

get-front : {A : Type 0} (xs ys : List A) (i : ℕ) → i < length xs → slice_get (xs ++ ys) i ≡ slice_get xs i
get-front [] ys i lt = absurd (omega (arith, lt))
get-front (x ∷ xs) ys zero lt = refl
get-front (x ∷ xs) ys (suc i) lt = get-front xs ys i (omega (arith, lt))

-- the last one stands behind the others
pub get_last : {A : Type 0} (xs : List A) (x : A) → slice_get (xs ++ x ∷ []) (length xs) ≡ Some x
get_last [] x = refl
get_last (y ∷ xs) x = get_last xs x

-- what holds of each holds of the one at a place
pub each_at : {A : Type 0} (Q : A → Type 0) (xs : List A) (i : ℕ) (x : A) → Each Q xs → slice_get xs i ≡ Some x → Q x
each_at Q [] i x h at = absurd cc
each_at Q (y ∷ xs) zero x h at = let same : y ≡ x = cc in subst Q same h.0
each_at Q (y ∷ xs) (suc i) x h at = each_at Q xs i x h.1 at

pub map_remove : {A B : Type 0} (f : A → B) (xs : List A) (i : ℕ) → map f (remove xs i) ≡ remove (map f xs) i
map_remove f [] zero = refl
map_remove f [] (suc i) = refl
map_remove f (x ∷ xs) zero = refl
map_remove f (x ∷ xs) (suc i) = ap (λ l. f x ∷ l) (map_remove f xs i)

-- the one that was got stands at its place
pub got_at : {A : Type 0} (xs : List A) (i n : ℕ) (x : A) → i ≡ n → i < length xs → x ≡ slice_index_or xs i x → slice_get xs n ≡ Some x
got_at xs i n x e lt is = ap (slice_get xs) (sym e) ∙ there xs i x lt is
  where
    there : {A : Type 0} (xs : List A) (i : ℕ) (x : A) → i < length xs → x ≡ slice_index_or xs i x → slice_get xs i ≡ Some x
    there [] i x lt is = absurd (omega (arith, lt))
    there (y ∷ xs) zero x lt is = ap (λ (z : _). Some z) (sym is)
    there (y ∷ xs) (suc i) x lt is = there xs i x (omega (arith, lt)) is

pub each_behind : {A : Type 0} (Q : A → Type 0) (i : ℕ) (xs : List A) → Each Q (drop i xs) → Each Q (drop (i + 1) xs)
each_behind Q i xs h = let one : suc i ≡ i + 1 = omega arith in subst (λ (j : ℕ). Each Q (drop j xs)) one (next i xs h)
  where
    next : (i : ℕ) (xs : List _) → Each Q (drop i xs) → Each Q (drop (suc i) xs)
    next zero [] h = tt
    next zero (x ∷ xs) h = h.1
    next (suc i) [] h = tt
    next (suc i) (x ∷ xs) h = next i xs h

pub removed_less : {A : Type 0} (xs : List A) (i : ℕ) → i < length xs → length (remove xs i) < length xs
removed_less [] i lt = absurd (omega (arith, lt))
removed_less (x ∷ xs) zero lt = omega arith
removed_less (x ∷ xs) (suc i) lt = let rest = removed_less xs i (omega (arith, lt)) in omega (arith, rest)

pub each_more : {A : Type 0} (Q : A → Type 0) (xs : List A) (x : A) → Each Q xs → Q x → Each Q (xs ++ x ∷ [])
each_more Q [] x h q = (q, tt)
each_more Q (y ∷ xs) x h q = (h.0, each_more Q xs x h.1 q)

-- ---- numbers

pub number_at : (n : ℕ) (lives : List Life) (i : ℕ) (life : Life) → slice_get lives i ≡ Some life → slice_get (numbers_from n lives) i ≡ Some (n + i)
number_at n [] i life at = absurd cc
number_at n (other ∷ lives) zero life at = let same : n ≡ n + 0 = omega arith in ap (λ (m : ℕ). Some m) same
number_at n (other ∷ lives) (suc i) life at = let same : n + 1 + i ≡ n + suc i = omega arith in number_at (n + 1) lives i life at ∙ ap (λ (m : ℕ). Some m) same

-- those of the first lives
pub numbers_below : {A : Type 0} (n : ℕ) (runs : List Bool) (xs : List A) → Each (λ number. number < n + length runs) (picked runs (numbers_from n xs))
numbers_below n [] xs = tt
numbers_below n (r ∷ runs) [] = tt
numbers_below n (true ∷ runs) (x ∷ xs) = (omega arith, each_to (λ number. number < n + 1 + length runs) (λ number. number < n + suc (length runs)) (picked runs (numbers_from (n + 1) xs)) (λ number (lt : number < n + 1 + length runs). omega (arith, lt)) (numbers_below (n + 1) runs xs))
numbers_below n (false ∷ runs) (x ∷ xs) = each_to (λ number. number < n + 1 + length runs) (λ number. number < n + suc (length runs)) (picked runs (numbers_from (n + 1) xs)) (λ number (lt : number < n + 1 + length runs). omega (arith, lt)) (numbers_below (n + 1) runs xs)

-- ---- names

-- those of a number stand at its place
pub name_at : (names : List TaskNames) (i : ℕ) → task_of names (i + 1) ≡ slice_get names i
name_at names i =
    let place : i + 1 - 1 ≡ i = omega arith in
    let some : nat_lt 0 (i + 1) ≡ true = grind (arith, nat_tests) in
    rw (some, place) refl

-- more names leave those of a number
pub name_stays : (names : List TaskNames) (name : TaskNames) (number : ℕ) → number ≤ length names → task_of (names ++ name ∷ []) number ≡ task_of names number
name_stays names name zero le = refl
name_stays names name (suc i) le =
    let one : suc i ≡ i + 1 = omega arith in
    ap (task_of (names ++ name ∷ [])) one ∙ name_at (names ++ name ∷ []) i ∙ get-front names (name ∷ []) i (omega (arith, le)) ∙ sym (name_at names i) ∙ ap (task_of names) (sym one)

-- and the last one's are these
pub name_new : (names : List TaskNames) (name : TaskNames) → task_of (names ++ name ∷ []) (length names + 1) ≡ Some name
name_new names name = name_at (names ++ name ∷ []) (length names) ∙ get_last names name

-- ---- tasks

pub record TaskAt (tasks : List Task) (i : ℕ) (life : Life) : Type 0 where
  pub task : Task
  pub accepted : IsTaskOf life task
  pub at : slice_get tasks i ≡ Some task

pub task_at : (lives : List Life) (tasks : List Task) (i : ℕ) (life : Life) → AreTasksOf lives tasks → slice_get lives i ≡ Some life → TaskAt tasks i life
task_at [] tasks i life are at = absurd cc
task_at (other ∷ lives) [] i life are at = absurd are
task_at (other ∷ lives) (task ∷ tasks) zero life are at =
    let same : other ≡ life = cc in
    record { task = task; accepted = subst (λ (l : Life). IsTaskOf l task) same are.0; at = refl }
task_at (other ∷ lives) (task ∷ tasks) (suc i) life are at =
    let rest = task_at lives tasks i life are.1 at in
    record { task = rest.task; accepted = rest.accepted; at = rest.at }

pub names_at : (lives : List Life) (tasks : List Task) (i : ℕ) (life : Life) (task : Task) → slice_get lives i ≡ Some life → slice_get tasks i ≡ Some task → slice_get (names_from lives tasks) i ≡ Some (life_names life task)
names_at [] tasks i life task at is = absurd cc
names_at (other ∷ lives) [] i life task at is = absurd cc
names_at (other ∷ lives) (one ∷ tasks) zero life task at is =
    let same : other ≡ life = cc in
    let own : one ≡ task = cc in
    ap (λ (l : Life). Some (life_names l one)) same ∙ ap (λ (t : Task). Some (life_names life t)) own
names_at (other ∷ lives) (one ∷ tasks) (suc i) life task at is = names_at lives tasks i life task at is

module _ {P : Type 0} (planned : Planned P) where
  pub graph_at : (n : ℕ) (lives : List Life) (tasks : List Task) (i : ℕ) (life : Life) (task : Task) → slice_get lives i ≡ Some life → slice_get tasks i ≡ Some task
      → slice_get (graphs_from planned n lives tasks) i ≡ Some (life_nodes planned (n + i) life task)
  graph_at n [] tasks i life task at is = absurd cc
  graph_at n (other ∷ lives) [] i life task at is = absurd cc
  graph_at n (other ∷ lives) (one ∷ tasks) zero life task at is =
      let same : other ≡ life = cc in
      let own : one ≡ task = cc in
      let first : n ≡ n + 0 = omega arith in
      ap (λ (l : Life). Some (life_nodes planned n l one)) same
      ∙ ap (λ (t : Task). Some (life_nodes planned n life t)) own
      ∙ ap (λ (m : ℕ). Some (life_nodes planned m life task)) first
  graph_at n (other ∷ lives) (one ∷ tasks) (suc i) life task at is =
      let same : n + 1 + i ≡ n + suc i = omega arith in
      graph_at (n + 1) lives tasks i life task at is ∙ ap (λ (m : ℕ). Some (life_nodes planned m life task)) same

  pub course_at : (n : ℕ) (points : List PointValue) (lives : List Life) (tasks : List Task) (i : ℕ) (life : Life) (task : Task) → slice_get lives i ≡ Some life → slice_get tasks i ≡ Some task
      → slice_get (courses_of lives (graphs_from planned n lives tasks) points) i ≡ Some (course_of life (life_nodes planned (n + i) life task) points)
  course_at n points [] tasks i life task at is = absurd cc
  course_at n points (other ∷ lives) [] i life task at is = absurd cc
  course_at n points (other ∷ lives) (one ∷ tasks) zero life task at is =
      let same : other ≡ life = cc in
      let own : one ≡ task = cc in
      let first : n ≡ n + 0 = omega arith in
      ap (λ (l : Life). Some (course_of l (life_nodes planned n l one) points)) same
      ∙ ap (λ (t : Task). Some (course_of life (life_nodes planned n life t) points)) own
      ∙ ap (λ (m : ℕ). Some (course_of life (life_nodes planned m life task) points)) first
  course_at n points (other ∷ lives) (one ∷ tasks) (suc i) life task at is =
      let same : n + 1 + i ≡ n + suc i = omega arith in
      course_at (n + 1) points lives tasks i life task at is ∙ ap (λ (m : ℕ). Some (course_of life (life_nodes planned m life task) points)) same

-- where none was got there is none
pub none_got : {A : Type 0} (xs : List A) (i n : ℕ) → i ≡ n → length xs ≤ i → slice_get xs n ≡ None
none_got xs i n e le = ap (slice_get xs) (sym e) ∙ none xs i le
  where
    none : {A : Type 0} (xs : List A) (i : ℕ) → length xs ≤ i → slice_get xs i ≡ None
    none [] zero le = refl
    none [] (suc i) le = refl
    none (x ∷ xs) zero le = absurd (omega (arith, le))
    none (x ∷ xs) (suc i) le = none xs i (omega (arith, le))
