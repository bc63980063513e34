-- The effects of nodes, by stamp, life, node and number, rise.
use Rattle.std.proofs.Common.{◌≡◌, ℕ, suc, ◌+◌, ◌≤◌, ◌==◌, true, false, cond, List, [], ◌∷◌, ◌++◌, refl, sym, ◌∙◌, inl, inr, arith}
use Rattle.std.specs.List.{AllByRecursion as Each}
use Rattle.std.proofs.lemmas.Bool.Decides.{nat_tests}
use Rattle.kap_base.specs.declared.items.Item.{Item}
use Rattle.kap_base.specs.declared.items.Effect.{Effect}
use Rattle.node_core.specs.Meaning.{Answer, Given, Input, given_after}
use Rattle.node_core.specs.Cut.{AreEffectsOf, IsStamped}
use Rattle.task_run.specs.Merging.{merged}
use Rattle.task_run.specs.Graphs.{Placed, gives_behind, lists_of, node_gives, outs_of}
use Rattle.task_run.specs.EffectOrder.{NodesNumbered}
use Rattle.task_run.specs.Lives.{effects_with, node_effects_with}
use Rattle.task_run.proofs.OrderLaws.{merged_ordered}
use Rattle.flow_core.specs.Gathering.{AreNumbered, IsNumberedBelow, NumbersEffects}
use Rattle.flow_core.proofs.PortLaws.{ordered_rises}
use Rattle.flow_core.specs.Sorting.{AreRising, GoesBefore}

-- ---- one list behind the other

before-append : (a : Effect) (xs ys : List Effect) → GoesBefore a xs → GoesBefore a ys → GoesBefore a (xs ++ ys)
before-append a [] ys h k = k
before-append a (x ∷ xs) ys h k = (h.0, before-append a xs ys h.1 k)

-- each of the first goes before each of the second
abbrev pub AllBefore : List Effect → List Effect → Type 0
AllBefore xs ys = Each (λ x. GoesBefore x ys) xs

pub rising-append : (xs ys : List Effect) → AreRising xs → AreRising ys → AllBefore xs ys → AreRising (xs ++ ys)
rising-append [] ys a b h = b
rising-append (x ∷ xs) ys a b h = (before-append x xs ys a.0 h.0, rising-append xs ys a.1 b h.1)

-- what holds of each of two lists holds of both
pub each_append : (P : Effect → Type 0) (xs ys : List Effect) → Each P xs → Each P ys → Each P (xs ++ ys)
each_append P [] ys a b = b
each_append P (x ∷ xs) ys a b = (a.0, each_append P xs ys a.1 b)

pub each-map : (P Q : Effect → Type 0) (xs : List Effect) → ((x : Effect) → P x → Q x) → Each P xs → Each Q xs
each-map P Q [] f h = tt
each-map P Q (x ∷ xs) f h = (f x h.0, each-map P Q xs f h.1)

before-each : (P : Effect → Type 0) (a : Effect) (ys : List Effect) → ((y : Effect) → P y → GoesBefore a (y ∷ [])) → Each P ys → GoesBefore a ys
before-each P a [] f h = tt
before-each P a (y ∷ ys) f h = ((f y h.0).0, before-each P a ys f h.1)

-- ---- where effects stand

-- an effect of this life and this node
abbrev pub IsOf : ℕ → ℕ → Effect → Type 0
IsOf which node e = (e.life ≡ which) × (e.node ≡ node)

-- one with this stamp, of this life and of a node from here on
abbrev pub IsFrom : ℕ → ℕ → ℕ → Effect → Type 0
IsFrom s which low e = (e.stamp.0 ≡ s) × (e.life ≡ which) × (low ≤ e.node)

-- one with this stamp, of a life from here on
abbrev pub IsLater : ℕ → ℕ → Effect → Type 0
IsLater s low e = (e.stamp.0 ≡ s) × (low ≤ e.life)

of-given : (which node s : ℕ) (effects : List Effect) → AreEffectsOf which node s effects → Each (IsOf which node) effects
of-given which node s [] are = tt
of-given which node s (e ∷ effects) are = ((are.0.life_is, are.0.node_is), of-given which node s effects are.1)

module _ (which node : ℕ) (answer : Answer) (stamped : (before : List Input) (x : Input) → IsStamped which node x.1.stamp.0 (answer before x)) where
  of-after : (before xs : List Input) → Each (IsOf which node) (given_after answer before xs).effects
  of-after before [] = tt
  of-after before (x ∷ xs) = each_append (IsOf which node) _ _ (of-given which node x.1.stamp.0 (answer before x).effects (stamped before x).effects) (of-after (before ++ x ∷ []) xs)

-- ---- a node

from-of : (s which node low : ℕ) (xs : List Effect) → low ≤ node → Each (IsOf which node) xs → Each (IsFrom s which low) (effects_with s xs)
from-of s which node low [] le are = tt
from-of s which node low (e ∷ xs) le are = elim (e.stamp.0 == s) as (λ b. (e.stamp.0 == s) ≡ b → Each (IsFrom s which low) (cond b (e ∷ effects_with s xs) (effects_with s xs))) [
  | true ↦ λ t. let same : e.stamp.0 ≡ s = grind (arith, nat_tests) in let at : e.node ≡ node = are.0.1 in ((same, are.0.0, omega arith), from-of s which node low xs le are.1)
  | false ↦ λ t. from-of s which node low xs le are.1
] refl

numbered-before : (s which node : ℕ) (e : Effect) (xs : List Effect) → e.stamp.0 ≡ s → e.life ≡ which → e.node ≡ node → IsNumberedBelow e xs → Each (IsOf which node) xs → GoesBefore e (effects_with s xs)
numbered-before s which node e [] at l n below are = tt
numbered-before s which node e (x ∷ xs) at l n below are = elim (x.stamp.0 == s) as (λ b. (x.stamp.0 == s) ≡ b → GoesBefore e (cond b (x ∷ effects_with s xs) (effects_with s xs))) [
  | true ↦ λ t.
      let same : x.stamp.0 ≡ s = grind (arith, nat_tests) in
      let one : e.stamp.0 ≡ x.stamp.0 = at ∙ sym same in
      (inr (one, inr (l ∙ sym are.0.0, inr (n ∙ sym are.0.1, below.0 one))), numbered-before s which node e xs at l n below.1 are.1)
  | false ↦ λ t. numbered-before s which node e xs at l n below.1 are.1
] refl

node-rising : (s which node : ℕ) (xs : List Effect) → Each (IsOf which node) xs → AreNumbered xs → AreRising (effects_with s xs)
node-rising s which node [] are numbered = tt
node-rising s which node (e ∷ xs) are numbered = elim (e.stamp.0 == s) as (λ b. (e.stamp.0 == s) ≡ b → AreRising (cond b (e ∷ effects_with s xs) (effects_with s xs))) [
  | true ↦ λ t.
      let same : e.stamp.0 ≡ s = grind (arith, nat_tests) in
      (numbered-before s which node e xs same are.0.0 are.0.1 numbered.0 are.1, node-rising s which node xs are.1 numbered.1)
  | false ↦ λ t. node-rising s which node xs are.1 numbered.1
] refl

node-before : (s which node : ℕ) (xs rest : List Effect) → Each (IsOf which node) xs → Each (IsFrom s which (node + 1)) rest → AllBefore (effects_with s xs) rest
node-before s which node [] rest are from = tt
node-before s which node (e ∷ xs) rest are from = elim (e.stamp.0 == s) as (λ b. (e.stamp.0 == s) ≡ b → AllBefore (cond b (e ∷ effects_with s xs) (effects_with s xs)) rest) [
  | true ↦ λ t.
      let same : e.stamp.0 ≡ s = grind (arith, nat_tests) in
      let at : e.node ≡ node = are.0.1 in
      (before-each (IsFrom s which (node + 1)) e rest (λ y f. let low : node + 1 ≤ y.node = f.2 in (inr (same ∙ sym f.0, inr (are.0.0 ∙ sym f.1, inl (omega arith))), tt)) from, node-before s which node xs rest are.1 from)
  | false ↦ λ t. node-before s which node xs rest are.1 from
] refl

pub life-before : (s which : ℕ) (xs rest : List Effect) → Each (IsFrom s which 0) xs → Each (IsLater s (which + 1)) rest → AllBefore xs rest
life-before s which [] rest from later = tt
life-before s which (e ∷ xs) rest from later =
    let at : e.life ≡ which = from.0.1 in
    (before-each (IsLater s (which + 1)) e rest (λ y f. let low : which + 1 ≤ y.life = f.1 in (inr (from.0.0 ∙ sym f.0, inl (omega arith)), tt)) later, life-before s which xs rest from.1 later)

pub stamp-before : (n : ℕ) (xs rest : List Effect) → Each (λ e. e.stamp.0 ≤ n) xs → Each (λ e. e.stamp.0 ≡ suc n) rest → AllBefore xs rest
stamp-before n [] rest low high = tt
stamp-before n (e ∷ xs) rest low high =
    let le : e.stamp.0 ≤ n = low.0 in
    (before-each (λ y. y.stamp.0 ≡ suc n) e rest (λ y f. (inl (omega arith), tt)) high, stamp-before n xs rest low.1 high)

-- ---- nodes

module _ {P : Type 0} (answer : P → Answer) (life number : P → ℕ) (stamped : (p : P) (before : List Input) (x : Input) → IsStamped (life p) (number p) x.1.stamp.0 (answer p before x)) (numbers : (p : P) → NumbersEffects (answer p)) where
  gives-of : (which node n : ℕ) (points : List Item) (earlier : List Given) (d : Placed P) → life d.spec ≡ which → number d.spec ≡ node → Each (IsOf which node) (node_gives answer n points earlier d).effects
  gives-of which node n points earlier d e f =
      let are = of-after (life d.spec) (number d.spec) (answer d.spec) (stamped d.spec) [] (merged n (lists_of points (outs_of earlier) d.parents)) in
      rw (e, f) at are

  gives-numbered : (n : ℕ) (points : List Item) (earlier : List Given) (d : Placed P) → AreNumbered (node_gives answer n points earlier d).effects
  gives-numbered n points earlier d =
      let xs = merged n (lists_of points (outs_of earlier) d.parents) in
      numbers d.spec xs (ordered_rises xs (merged_ordered n (lists_of points (outs_of earlier) d.parents)))

  pub nodes-from : (s which node low n : ℕ) (points : List Item) (earlier : List Given) (nodes : List (Placed P)) → low ≤ node → NodesNumbered life number which node nodes → Each (IsFrom s which low) (node_effects_with s (gives_behind answer n points earlier nodes))
  nodes-from s which node low n points earlier [] le are = tt
  nodes-from s which node low n points earlier (d ∷ nodes) le are =
      let g = node_gives answer n points earlier d in
      each_append (IsFrom s which low) (effects_with s g.effects) (node_effects_with s (gives_behind answer n points (earlier ++ g ∷ []) nodes))
      (from-of s which node low g.effects le (gives-of which node n points earlier d are.0.0 are.0.1))
      (nodes-from s which (node + 1) low n points (earlier ++ g ∷ []) nodes (omega arith) are.1)

  pub nodes-rising : (s which node n : ℕ) (points : List Item) (earlier : List Given) (nodes : List (Placed P)) → NodesNumbered life number which node nodes → AreRising (node_effects_with s (gives_behind answer n points earlier nodes))
  nodes-rising s which node n points earlier [] are = tt
  nodes-rising s which node n points earlier (d ∷ nodes) are =
      let g = node_gives answer n points earlier d in
      let of = gives-of which node n points earlier d are.0.0 are.0.1 in
      let rest = node_effects_with s (gives_behind answer n points (earlier ++ g ∷ []) nodes) in
      rising-append (effects_with s g.effects) rest (node-rising s which node g.effects of (gives-numbered n points earlier d)) (nodes-rising s which (node + 1) n points (earlier ++ g ∷ []) nodes are.1)
      (node-before s which node g.effects rest of (nodes-from s which (node + 1) (node + 1) n points (earlier ++ g ∷ []) nodes (omega arith) are.1))
