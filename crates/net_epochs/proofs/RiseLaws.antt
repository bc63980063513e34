-- The effects of courses, by stamp, life, node and number, rise.
use Rattle.std.proofs.Common.{◌≡◌, ℕ, zero, suc, ◌+◌, ◌≤◌, List, [], ◌∷◌, IsPermutation, arith}
use Rattle.std.specs.List.{AllByRecursion as Each}
use Rattle.std.proofs.lemmas.List.Sorted.{IsPermutation-sym, IsPermutation-trans}
use Rattle.kap_base.specs.declared.items.Effect.{Effect}
use Rattle.node_core.specs.Meaning.{Answer, Input}
use Rattle.node_core.specs.Cut.{IsStamped}
use Rattle.task_run.specs.Lives.{node_effects_with}
use Rattle.flow_core.specs.Gathering.{LivesRise, NumbersEffects}
use Rattle.flow_core.specs.Sorting.{AreRising, AreSorted}
use Rattle.task_run.specs.Courses.{Course, course_effects_with, course_gives, end_of, items_of, later_effects}
use Rattle.net_epochs.specs.Epochs.{nodes_in}
use Rattle.flow_core.proofs.RisingLaws.{IsFrom, IsLater, each-map, each_append, life-before, nodes-from, nodes-rising, rising-append, stamp-before}
use Rattle.flow_core.proofs.UniqueLaws.{sorted_is}

module _ {P : Type 0} (answer : P → Answer) (life number : P → ℕ) (stamped : (p : P) (before : List Input) (x : Input) → IsStamped (life p) (number p) x.1.stamp.0 (answer p before x)) (numbers : (p : P) → NumbersEffects (answer p)) where
  courses-later : (s low : ℕ) (courses : List (Course P)) → LivesRise life number low (nodes_in courses) → Each (IsLater s low) (course_effects_with answer s courses)
  courses-later s low [] are = tt
  courses-later s low (c ∷ courses) are =
      let which = are.0 in
      let le : low ≤ which = are.1 in
      each_append (IsLater s low) (node_effects_with s (course_gives answer c)) (course_effects_with answer s courses)
      (each-map (IsFrom s which 0) (IsLater s low) _ (λ e f. let at : e.life ≡ which = f.1 in (f.0, omega arith)) (nodes-from answer life number stamped numbers s which 0 0 (end_of c) (items_of c) [] c.nodes (omega arith) are.2))
      (each-map (IsLater s (which + 1)) (IsLater s low) _ (λ e f. let high : which + 1 ≤ e.life = f.1 in (f.0, omega arith)) (courses-later s (which + 1) courses are.3))

  courses-rising : (s low : ℕ) (courses : List (Course P)) → LivesRise life number low (nodes_in courses) → AreRising (course_effects_with answer s courses)
  courses-rising s low [] are = tt
  courses-rising s low (c ∷ courses) are =
      let which = are.0 in
      let one = node_effects_with s (course_gives answer c) in
      let rest = course_effects_with answer s courses in
      rising-append one rest (nodes-rising answer life number stamped numbers s which 0 (end_of c) (items_of c) [] c.nodes are.2) (courses-rising s (which + 1) courses are.3)
      (life-before s which one rest (nodes-from answer life number stamped numbers s which 0 0 (end_of c) (items_of c) [] c.nodes (omega arith) are.2) (courses-later s (which + 1) courses are.3))

  later-low : (n k low : ℕ) (courses : List (Course P)) → LivesRise life number low (nodes_in courses) → Each (λ e. e.stamp.0 ≤ n + k) (later_effects answer n k courses)
  later-low n zero low courses are = tt
  later-low n (suc k) low courses are =
      each_append (λ e. e.stamp.0 ≤ n + suc k) _ _
      (each-map (λ e. e.stamp.0 ≤ n + k) (λ e. e.stamp.0 ≤ n + suc k) _ (λ e (le : e.stamp.0 ≤ n + k). omega arith) (later-low n k low courses are))
      (each-map (IsLater (suc (n + k)) low) (λ e. e.stamp.0 ≤ n + suc k) _ (λ e f. let same : e.stamp.0 ≡ suc (n + k) = f.0 in omega arith) (courses-later (suc (n + k)) low courses are))

  -- those with later stamps stand by stamp, then by life, then by node, then by number
  pub later_rise : (n k low : ℕ) (courses : List (Course P)) → LivesRise life number low (nodes_in courses) → AreRising (later_effects answer n k courses)
  later_rise n zero low courses are = tt
  later_rise n (suc k) low courses are =
      let earlier = later_effects answer n k courses in
      let rest = course_effects_with answer (suc (n + k)) courses in
      rising-append earlier rest (later_rise n k low courses are) (courses-rising (suc (n + k)) low courses are)
      (stamp-before (n + k) earlier rest (later-low n k low courses are) (each-map (IsLater (suc (n + k)) low) (λ e. e.stamp.0 ≡ suc (n + k)) rest (λ e f. f.0) (courses-later (suc (n + k)) low courses are)))

  -- what has these effects, in any order, is this list once it is sorted
  pub later_sorted : (n k low : ℕ) (courses : List (Course P)) (done sorted : List Effect) → LivesRise life number low (nodes_in courses)
      → IsPermutation done (later_effects answer n k courses) → IsPermutation done sorted → AreSorted sorted → sorted ≡ later_effects answer n k courses
  later_sorted n k low courses done sorted are did same order =
      let due = later_effects answer n k courses in
      sorted_is due sorted (later_rise n k low courses are) (IsPermutation-trans due done sorted (IsPermutation-sym done due did) same) order
