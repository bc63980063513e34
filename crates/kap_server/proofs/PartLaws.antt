-- What lives do in parts side by side is what all do.
use Rattle.std.proofs.Common.{◌≡◌, ℕ, zero, suc, ◌+◌, ◌≤◌, ◌==◌, true, false, cond, List, [], ◌∷◌, ◌++◌, length, map, refl, sym, ap, ◌∙◌, append_assoc, append-nil, arith, length-append}
use Rattle.std.specs.List.{AllByRecursion as Each, flat_map, sum_by}
use Rattle.std.proofs.lemmas.Bool.{eqb-true}
use Rattle.std.proofs.lemmas.List.{length-map}
use Rattle.std.proofs.lemmas.List.Sums.{sum_by-cons}
use Rattle.kap_base.specs.Points.{PointValue}
use Rattle.kap_base.specs.declared.items.Effect.{Effect}
use Rattle.effect_text.specs.Pieces.{HaveTheirStamps, by_stamp, side_by_side}
use Rattle.node_core.specs.Meaning.{Answer, Given}
use Rattle.flow_core.specs.Gathering.{LivesRise}
use Rattle.task_run.specs.Courses.{Course, course_effects_with, course_gives, from_first, later_effects, laters}
use Rattle.task_run.specs.Graphs.{Placed}
use Rattle.task_run.specs.Lives.{effects_with, node_effects_with}

-- ---- stamp by stamp, from the first on and up to the last

by_stamp-last : {A : Type 0} (n k : ℕ) (f : ℕ → List A) → by_stamp n (suc k) f ≡ by_stamp n k f ++ f (suc (n + k))
unfolding by_stamp
by_stamp-last {A} n zero f = let same : n + 0 ≡ n = omega arith in append-nil (f (suc n)) ∙ ap (λ (m : ℕ). f (suc m)) (sym same)
by_stamp-last {A} n (suc k) f =
    let same : suc n + k ≡ n + suc k = omega arith in
    ap (λ (l : List A). f (suc n) ++ l) (by_stamp-last (suc n) k f)
    ∙ sym (append_assoc (f (suc n)) (by_stamp (suc n) k f) (f (suc (suc n + k))))
    ∙ ap (λ (m : ℕ). (f (suc n) ++ by_stamp (suc n) k f) ++ f (suc m)) same

-- both ways give the same list
pub laters_by_stamp : (n k : ℕ) (f : ℕ → List Effect) → by_stamp n k f ≡ laters n k f
unfolding by_stamp
laters_by_stamp n zero f = refl
laters_by_stamp n (suc k) f = by_stamp-last n k f ∙ ap (λ (l : List Effect). l ++ f (suc (n + k))) (laters_by_stamp n k f)

by_stamp-same : {A : Type 0} (n k : ℕ) (f g : ℕ → List A) → ((s : ℕ) → f s ≡ g s) → by_stamp n k f ≡ by_stamp n k g
unfolding by_stamp
by_stamp-same n zero f g same = refl
by_stamp-same {A} n (suc k) f g same =
    ap (λ (l : List A). l ++ by_stamp (suc n) k f) (same (suc n)) ∙ ap (λ (l : List A). g (suc n) ++ l) (by_stamp-same (suc n) k f g same)

-- ---- how many come by stamp

none-by_stamp : {A : Type 0} (n k : ℕ) (f : ℕ → List A) → ((s : ℕ) → f s ≡ []) → length (by_stamp n k f) ≡ 0
unfolding by_stamp
none-by_stamp n zero f none = refl
none-by_stamp {A} n (suc k) f none =
    ap (λ (l : List A). length (l ++ by_stamp (suc n) k f)) (none (suc n)) ∙ none-by_stamp (suc n) k f none

both-by_stamp : {A : Type 0} (n k : ℕ) (f g h : ℕ → List A) → ((s : ℕ) → h s ≡ f s ++ g s)
    → length (by_stamp n k h) ≡ length (by_stamp n k f) + length (by_stamp n k g)
unfolding by_stamp
both-by_stamp n zero f g h both = refl
both-by_stamp n (suc k) f g h both =
    let later = both-by_stamp (suc n) k f g h both in
    let now = ap length (both (suc n)) ∙ length-append (f (suc n)) (g (suc n)) in
    let hs = length-append (h (suc n)) (by_stamp (suc n) k h) in
    let fs = length-append (f (suc n)) (by_stamp (suc n) k f) in
    let gs = length-append (g (suc n)) (by_stamp (suc n) k g) in
    omega (arith, later, now, hs, fs, gs)

-- as many as each has in all
pub told_count : {A B : Type 0} (h : A → B) (n k : ℕ) (fs : List (ℕ → List A))
    → sum_by length (map (λ f. map h (by_stamp n k f)) fs) ≡ length (by_stamp n k (side_by_side fs))
told_count h n k [] = sym (none-by_stamp n k (side_by_side []) (λ s. refl))
told_count h n k (f ∷ fs) =
    let first = sum_by-cons length (map h (by_stamp n k f)) (map (λ f. map h (by_stamp n k f)) fs) in
    let long = length-map (by_stamp n k f) h in
    let others = told_count h n k fs in
    let both = both-by_stamp n k f (side_by_side fs) (side_by_side (f ∷ fs)) (λ s. refl) in
    omega (arith, first, long, others, both)

-- ---- what comes with a stamp has it

each-both : {A : Type 0} (Q : A → Type 0) (xs ys : List A) → Each Q xs → Each Q ys → Each Q (xs ++ ys)
each-both Q [] ys a b = b
each-both Q (x ∷ xs) ys a b = (a.0, each-both Q xs ys a.1 b)

with-have : (s : ℕ) (xs : List Effect) → Each (λ e. e.stamp.0 ≡ s) (effects_with s xs)
with-have s [] = tt
with-have s (x ∷ xs) = elim (x.stamp.0 == s) as (λ t. (x.stamp.0 == s) ≡ t → Each (λ e. e.stamp.0 ≡ s) (cond t (x ∷ effects_with s xs) (effects_with s xs))) [
  | true ↦ λ is. (eqb-true x.stamp.0 s is, with-have s xs)
  | false ↦ λ is. with-have s xs
] refl

nodes-have : (s : ℕ) (gives : List Given) → Each (λ e. e.stamp.0 ≡ s) (node_effects_with s gives)
nodes-have s [] = tt
nodes-have s (g ∷ gives) = each-both (λ (e : Effect). e.stamp.0 ≡ s) (effects_with s g.effects) (node_effects_with s gives) (with-have s g.effects) (nodes-have s gives)

module _ {P : Type 0} (answer : P → Answer) where
  courses-have : (s : ℕ) (courses : List (Course P)) → Each (λ e. e.stamp.0 ≡ s) (course_effects_with answer s courses)
  courses-have s [] = tt
  courses-have s (c ∷ courses) =
      each-both (λ (e : Effect). e.stamp.0 ≡ s) (node_effects_with s (course_gives answer c)) (course_effects_with answer s courses) (nodes-have s (course_gives answer c)) (courses-have s courses)

  -- what lives do with a stamp
  abbrev does : List PointValue → List (List (Placed P)) → ℕ → List Effect
  does points lives s = course_effects_with answer s (from_first points lives)

  -- what each of some parts does with it has it
  pub parts_have : (points : List PointValue) (parts : List (List (List (Placed P)))) → Each HaveTheirStamps (map (does points) parts)
  parts_have points [] = tt
  parts_have points (part ∷ parts) = ((λ s. courses-have s (from_first points part)), parts_have points parts)

  does-both : (points : List PointValue) (xs ys : List (List (Placed P))) (s : ℕ) → does points (xs ++ ys) s ≡ does points xs s ++ does points ys s
  does-both points [] ys s = refl
  does-both points (x ∷ xs) ys s =
      ap (λ (l : List Effect). node_effects_with s (course_gives answer (record { nodes = x; base = 0; points = points })) ++ l) (does-both points xs ys s)
      ∙ sym (append_assoc (node_effects_with s (course_gives answer (record { nodes = x; base = 0; points = points }))) (does points xs s) (does points ys s))

  -- side by side they do what all lives do
  pub parts_do : (points : List PointValue) (parts : List (List (List (Placed P)))) (s : ℕ) → side_by_side (map (does points) parts) s ≡ does points (flat_map (λ part. part) parts) s
  parts_do points [] s = refl
  parts_do points (part ∷ parts) s =
      ap (λ (l : List Effect). does points part s ++ l) (parts_do points parts s) ∙ sym (does-both points part (flat_map (λ p. p) parts) s)

  -- and so what they do later, by stamp, is the later effects of all lives
  pub parts_later : (n k : ℕ) (points : List PointValue) (parts : List (List (List (Placed P))))
      → by_stamp n k (side_by_side (map (does points) parts)) ≡ later_effects answer n k (from_first points (flat_map (λ part. part) parts))
  parts_later n k points parts =
      by_stamp-same n k (side_by_side (map (does points) parts)) (does points (flat_map (λ p. p) parts)) (parts_do points parts)
      ∙ laters_by_stamp n k (does points (flat_map (λ p. p) parts))

-- ---- numbers of lives in parts

module _ {P : Type 0} (life number : P → ℕ) where
  rise-lower : (low high : ℕ) (xs : List (List (Placed P))) → low ≤ high → LivesRise life number high xs → LivesRise life number low xs
  rise-lower low high [] le rise = tt
  rise-lower low high (x ∷ xs) le rise = let above = rise.1 in (rise.0, omega (arith, le, above), rise.2, rise.3)

  -- where those of some lives and others rise, those of each do
  pub rise_first : (low : ℕ) (xs ys : List (List (Placed P))) → LivesRise life number low (xs ++ ys) → LivesRise life number low xs
  rise_first low [] ys rise = tt
  rise_first low (x ∷ xs) ys rise = (rise.0, rise.1, rise.2, rise_first (rise.0 + 1) xs ys rise.3)

  pub rise_behind : (low : ℕ) (xs ys : List (List (Placed P))) → LivesRise life number low (xs ++ ys) → LivesRise life number low ys
  rise_behind low [] ys rise = rise
  rise_behind low (x ∷ xs) ys rise =
      let above = rise.1 in rise-lower low (rise.0 + 1) ys (omega (arith, above)) (rise_behind (rise.0 + 1) xs ys rise.3)
