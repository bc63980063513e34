-- Where a life of a store begins or ends: the open ones.
use Rattle.std.proofs.Common.{◌≡◌, ℕ, zero, suc, ◌+◌, ◌-◌, ◌≤◌, true, false, cond, List, [], ◌∷◌, ◌++◌, length, drop, None, Some, refl, sym, ap, subst, ◌∙◌, arith}
use Rattle.std.specs.Prelude.{slice_get}
use Rattle.std.specs.List.{list_any, remove}
use Rattle.std.proofs.lemmas.List.{drop_all}
use Rattle.kap_base.proofs.TestLaws.{second_of}
use Rattle.kap_base.specs.Points.{PointValue}
use Rattle.std.specs.Prelude.{bytes_eq}
use Rattle.task_run.specs.Courses.{Course, begun}
use Rattle.task_run.specs.Graphs.{Placed}
use Rattle.store_records.specs.Held.{end_life, is_open, is_open_of, life_from, open_from}
use Rattle.store_records.specs.declared.task.Life.{Life}
use Rattle.store_records.specs.declared.task.StoredTask.{StoredTask}
use Rattle.life_effects.specs.Effects.{course_of, courses_of, ending_from, open_courses}
use Rattle.life_effects.proofs.EffectLaws.{courses_end}

some-same : (x y : ℕ) → Some x ≡ Some y → x ≡ y
some-same x y e = cc

-- ---- a life that begins

module _ {P : Type 0} where
  -- it comes behind the open ones, and has seen no points
  pub open_begun : (points : List PointValue) (lives : List Life) (task : StoredTask) (graphs : List (List (Placed P))) (nodes : List (Placed P)) → length lives ≡ length graphs
      → open_courses (lives ++ life_from (length points) task ∷ []) (graphs ++ nodes ∷ []) points ≡ open_courses lives graphs points ++ begun (length points) nodes ∷ []
  open_begun points [] task [] nodes e =
      let none : drop (length points + 1 - 1) points ≡ [] = drop_all (length points + 1 - 1) points (omega arith) in
      let base : length points + 1 - 1 ≡ length points = omega arith in
      ap (λ (ps : List PointValue). record { nodes = nodes; base = length points + 1 - 1; points = ps } ∷ []) none
      ∙ ap (λ (b : ℕ). begun b nodes ∷ []) base
  open_begun points [] task (g ∷ graphs) nodes e = absurd (omega (arith, e))
  open_begun points (life ∷ lives) task [] nodes e = absurd (omega (arith, e))
  open_begun points (life ∷ lives) task (g ∷ graphs) nodes e =
      let more = life_from (length points) task ∷ [] in
      let rest : open_courses (lives ++ more) (graphs ++ nodes ∷ []) points ≡ open_courses lives graphs points ++ begun (length points) nodes ∷ [] = open_begun points lives task graphs nodes (omega (arith, e)) in
      elim (is_open life) as (λ b. cond b (course_of life g points ∷ open_courses (lives ++ more) (graphs ++ nodes ∷ []) points) (open_courses (lives ++ more) (graphs ++ nodes ∷ []) points)
      ≡ cond b (course_of life g points ∷ open_courses lives graphs points) (open_courses lives graphs points) ++ begun (length points) nodes ∷ []) [
        | true ↦ ap (λ (cs : List (Course P)). course_of life g points ∷ cs) rest
        | false ↦ rest
      ]

-- its number is the next one
pub numbers_begun : (n m : ℕ) (lives : List Life) (task : StoredTask) → open_from m (lives ++ life_from n task ∷ []) ≡ open_from m lives ++ (m + length lives) ∷ []
numbers_begun n m [] task = let same : m ≡ m + 0 = omega arith in ap (λ (k : ℕ). k ∷ []) same
numbers_begun n m (life ∷ lives) task =
    let more = life_from n task ∷ [] in
    let next : m + 1 + length lives ≡ m + suc (length lives) = omega arith in
    let rest : open_from (m + 1) (lives ++ more) ≡ open_from (m + 1) lives ++ (m + suc (length lives)) ∷ [] = numbers_begun n (m + 1) lives task ∙ ap (λ (k : ℕ). open_from (m + 1) lives ++ k ∷ []) next in
    elim (is_open life) as (λ b. cond b (m ∷ open_from (m + 1) (lives ++ more)) (open_from (m + 1) (lives ++ more)) ≡ cond b (m ∷ open_from (m + 1) lives) (open_from (m + 1) lives) ++ (m + suc (length lives)) ∷ []) [
      | true ↦ ap (λ (ns : List ℕ). m ∷ ns) rest
      | false ↦ rest
    ]

-- ---- a life that ends

-- its number isn't below the first one
ending-above : (id : List ℕ) (n : ℕ) (lives : List Life) (k : ℕ) → ending_from id n lives ≡ Some k → n ≤ k
ending-above id n [] k e = absurd cc
ending-above id n (life ∷ lives) k e =
    elim (list_any (is_open_of id) lives) as (λ b. cond b (ending_from id (n + 1) lives) (cond (is_open_of id life) (Some n) None) ≡ Some k → n ≤ k) [
      | true ↦ λ f. let later : n + 1 ≤ k = ending-above id (n + 1) lives k f in omega arith
      | false ↦ elim (is_open_of id life) as (λ b. cond b (Some n) None ≡ Some k → n ≤ k) [
        | true ↦ λ f. let same : n ≡ k = some-same n k f in omega arith
        | false ↦ λ f. absurd cc
      ]
    ] e

-- nor is that of any open one
open-above : (n : ℕ) (lives : List Life) (i k : ℕ) → slice_get (open_from n lives) i ≡ Some k → n ≤ k
open-above n [] i k e = absurd cc
open-above n (life ∷ lives) zero k e = elim (is_open life) as (λ b. slice_get (cond b (n ∷ open_from (n + 1) lives) (open_from (n + 1) lives)) zero ≡ Some k → n ≤ k) [
  | true ↦ λ f. let same : n ≡ k = some-same n k f in omega arith
  | false ↦ λ f. let later : n + 1 ≤ k = open-above (n + 1) lives zero k f in omega arith
] e
open-above n (life ∷ lives) (suc i) k e = elim (is_open life) as (λ b. slice_get (cond b (n ∷ open_from (n + 1) lives) (open_from (n + 1) lives)) (suc i) ≡ Some k → n ≤ k) [
  | true ↦ λ f. let later : n + 1 ≤ k = open-above (n + 1) lives i k f in omega arith
  | false ↦ λ f. let later : n + 1 ≤ k = open-above (n + 1) lives (suc i) k f in omega arith
] e

module _ {A : Type 0} where
  -- The open ones of things that stand beside lives.
  abbrev open_of : List Life → List A → List A
  open_of [] xs = []
  open_of (life ∷ lives) [] = []
  open_of (life ∷ lives) (x ∷ xs) = cond (is_open life) (x ∷ open_of lives xs) (open_of lives xs)

  -- a life ends behind this one
  ended-later : (life : Life) (ended lives : List Life) (x : A) (xs : List A) (n number place : ℕ) → n + 1 ≤ number → slice_get (open_from n (life ∷ lives)) place ≡ Some number
      → ((p : ℕ) → slice_get (open_from (n + 1) lives) p ≡ Some number → open_of ended xs ≡ remove (open_of lives xs) p)
      → open_of (life ∷ ended) (x ∷ xs) ≡ remove (open_of (life ∷ lives) (x ∷ xs)) place
  ended-later life ended lives x xs n number zero above at rest =
      elim (is_open life) as (λ b. slice_get (cond b (n ∷ open_from (n + 1) lives) (open_from (n + 1) lives)) zero ≡ Some number → cond b (x ∷ open_of ended xs) (open_of ended xs) ≡ remove (cond b (x ∷ open_of lives xs) (open_of lives xs)) zero) [
        | true ↦ λ f. let same : n ≡ number = some-same n number f in absurd (omega arith)
        | false ↦ λ f. rest zero f
      ] at
  ended-later life ended lives x xs n number (suc p) above at rest =
      elim (is_open life) as (λ b. slice_get (cond b (n ∷ open_from (n + 1) lives) (open_from (n + 1) lives)) (suc p) ≡ Some number → cond b (x ∷ open_of ended xs) (open_of ended xs) ≡ remove (cond b (x ∷ open_of lives xs) (open_of lives xs)) (suc p)) [
        | true ↦ λ f. ap (λ (l : List A). x ∷ l) (rest p f)
        | false ↦ λ f. rest (suc p) f
      ] at

  -- this one ends
  ended-here : (life : Life) (lives : List Life) (x : A) (xs : List A) (n place : ℕ) → is_open life ≡ true → slice_get (open_from n (life ∷ lives)) place ≡ Some n
      → open_of lives xs ≡ remove (open_of (life ∷ lives) (x ∷ xs)) place
  ended-here life lives x xs n zero is at =
      elim (is_open life) as (λ b. b ≡ true → slice_get (cond b (n ∷ open_from (n + 1) lives) (open_from (n + 1) lives)) zero ≡ Some n → open_of lives xs ≡ remove (cond b (x ∷ open_of lives xs) (open_of lives xs)) zero) [
        | true ↦ λ t f. refl
        | false ↦ λ t f. absurd cc
      ] is at
  ended-here life lives x xs n (suc p) is at =
      elim (is_open life) as (λ b. b ≡ true → slice_get (cond b (n ∷ open_from (n + 1) lives) (open_from (n + 1) lives)) (suc p) ≡ Some n → open_of lives xs ≡ remove (cond b (x ∷ open_of lives xs) (open_of lives xs)) (suc p)) [
        | true ↦ λ t f. let later : n + 1 ≤ n = open-above (n + 1) lives p n f in absurd (omega arith)
        | false ↦ λ t f. absurd cc
      ] is at

  -- the life that ends is gone, and the others are open as before
  open_ended : (k : ℕ) (id : List ℕ) (number n place : ℕ) (lives : List Life) (xs : List A) → length lives ≡ length xs → ending_from id n lives ≡ Some number → slice_get (open_from n lives) place ≡ Some number
      → open_of (end_life id k lives) xs ≡ remove (open_of lives xs) place
  open_ended k id number n place [] xs long e at = absurd cc
  open_ended k id number n place (life ∷ lives) [] long e at = absurd (omega (arith, long))
  open_ended k id number n place (life ∷ lives) (x ∷ xs) long e at =
      elim (list_any (is_open_of id) lives) as (λ b. cond b (ending_from id (n + 1) lives) (cond (is_open_of id life) (Some n) None) ≡ Some number
      → open_of (cond b (life ∷ end_life id k lives) (cond (is_open_of id life) (record life { last = Some k }) life ∷ lives)) (x ∷ xs) ≡ remove (open_of (life ∷ lives) (x ∷ xs)) place) [
        | true ↦ λ f. ended-later life (end_life id k lives) lives x xs n number place (ending-above id (n + 1) lives number f) at (λ p there. open_ended k id number (n + 1) p lives xs (omega (arith, long)) f there)
        | false ↦ elim (is_open_of id life) as (λ b. is_open_of id life ≡ b → cond b (Some n) None ≡ Some number → open_of (cond b (record life { last = Some k }) life ∷ lives) (x ∷ xs) ≡ remove (open_of (life ∷ lives) (x ∷ xs)) place) [
          | true ↦ λ is f. ended-here life lives x xs n place (second_of (bytes_eq life.task id) (is_open life) is) (subst (λ (m : ℕ). slice_get (open_from n (life ∷ lives)) place ≡ Some m) (sym (some-same n number f)) at)
          | false ↦ λ is f. absurd cc
        ] refl
      ] e

-- ---- the courses of the open lives, and their numbers

module _ {P : Type 0} where
  courses-open : (lives : List Life) (graphs : List (List (Placed P))) (points : List PointValue) → open_courses lives graphs points ≡ open_of lives (courses_of lives graphs points)
  courses-open [] graphs points = refl
  courses-open (life ∷ lives) [] points = refl
  courses-open (life ∷ lives) (nodes ∷ graphs) points = ap (λ (cs : List (Course P)). cond (is_open life) (course_of life nodes points ∷ cs) cs) (courses-open lives graphs points)

  courses-many : (lives : List Life) (graphs : List (List (Placed P))) (points : List PointValue) → length lives ≡ length graphs → length lives ≡ length (courses_of lives graphs points)
  courses-many [] graphs points e = refl
  courses-many (life ∷ lives) [] points e = absurd (omega (arith, e))
  courses-many (life ∷ lives) (nodes ∷ graphs) points e = ap suc (courses-many lives graphs points (omega (arith, e)))

  -- of the courses of the open lives that of the life that ends is gone
  pub courses_ended : (points : List PointValue) (id : List ℕ) (number n place : ℕ) (lives : List Life) (graphs : List (List (Placed P))) → length lives ≡ length graphs
      → ending_from id n lives ≡ Some number → slice_get (open_from n lives) place ≡ Some number
      → open_courses (end_life id (length points) lives) graphs points ≡ remove (open_courses lives graphs points) place
  courses_ended points id number n place lives graphs long e at =
      let k = length points in
      courses-open (end_life id k lives) graphs points
      ∙ ap (open_of (end_life id k lives)) (courses_end points lives id graphs)
      ∙ open_ended k id number n place lives (courses_of lives graphs points) (courses-many lives graphs points long) e at
      ∙ ap (λ (cs : List (Course P)). remove cs place) (sym (courses-open lives graphs points))

-- the numbers of lives from here on
abbrev numbers_from : ℕ → List Life → List ℕ
numbers_from n [] = []
numbers_from n (life ∷ lives) = n ∷ numbers_from (n + 1) lives

numbers-open : (n : ℕ) (lives : List Life) → open_from n lives ≡ open_of lives (numbers_from n lives)
numbers-open n [] = refl
numbers-open n (life ∷ lives) = ap (λ (ns : List ℕ). cond (is_open life) (n ∷ ns) ns) (numbers-open (n + 1) lives)

numbers-many : (n : ℕ) (lives : List Life) → length lives ≡ length (numbers_from n lives)
numbers-many n [] = refl
numbers-many n (life ∷ lives) = ap suc (numbers-many (n + 1) lives)

numbers-same : (k : ℕ) (id : List ℕ) (n : ℕ) (lives : List Life) → numbers_from n (end_life id k lives) ≡ numbers_from n lives
numbers-same k id n [] = refl
numbers-same k id n (life ∷ lives) = elim (list_any (is_open_of id) lives) as (λ b. numbers_from n (cond b (life ∷ end_life id k lives) (cond (is_open_of id life) (record life { last = Some k }) life ∷ lives)) ≡ n ∷ numbers_from (n + 1) lives) [
  | true ↦ ap (λ (ns : List ℕ). n ∷ ns) (numbers-same k id (n + 1) lives)
  | false ↦ refl
]

-- and of their numbers its own
pub numbers_ended : (k : ℕ) (id : List ℕ) (number n place : ℕ) (lives : List Life) → ending_from id n lives ≡ Some number → slice_get (open_from n lives) place ≡ Some number
    → open_from n (end_life id k lives) ≡ remove (open_from n lives) place
numbers_ended k id number n place lives e at =
    numbers-open n (end_life id k lives)
    ∙ ap (open_of (end_life id k lives)) (numbers-same k id n lives)
    ∙ open_ended k id number n place lives (numbers_from n lives) (numbers-many n lives) e at
    ∙ ap (λ (ns : List ℕ). remove ns place) (sym (numbers-open n lives))
