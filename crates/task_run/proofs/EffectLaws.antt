-- The effects of lives stand in order.
use Rattle.std.proofs.Common.{◌≡◌, ℕ, zero, suc, ◌+◌, ◌≤◌, ◌<◌, ◌==◌, true, false, cond, List, [], ◌∷◌, ◌++◌, length, refl, sym, ◌∙◌, append-nil, inl, inr, arith}
use Rattle.std.specs.Prelude.{⊤, flat_map}
use Rattle.std.proofs.lemmas.Bool.Decides.{nat_tests}
use Rattle.std.proofs.lemmas.List.Concat.{flat_map-append}
use Rattle.kap_base.specs.Points.{PointValue}
use Rattle.kap_base.specs.declared.items.Item.{Item}
use Rattle.kap_base.specs.declared.items.Effect.{Effect}
use Rattle.node_core.specs.Meaning.{Given, Input, Answer, given_after}
use Rattle.node_core.specs.Cut.{AreEffectsOf, IsStamped}
use Rattle.task_run.specs.Merging.{stamps, merged}
use Rattle.task_run.specs.Graphs.{Placed, stamped_from, outs_of, lists_of, node_gives, gives_behind, graph_gives}
use Rattle.task_run.specs.Lives.{effects_with, node_effects_with, life_effects_with, effects_of}
use Rattle.task_run.specs.Stamps.{of_effect, StampsUpTo}
use Rattle.task_run.specs.StampLaws.{up_to_append}
use Rattle.task_run.specs.EffectOrder.{ComesBefore, AreInOrder, NodesNumbered, LivesNumbered}

comes-append : (a : Effect) (xs ys : List Effect) → ComesBefore a xs → ComesBefore a ys → ComesBefore a (xs ++ ys)
comes-append a [] ys h k = k
comes-append a (x ∷ xs) ys h k = (h.0, comes-append a xs ys h.1 k)

-- all of the first come before all of the second
abbrev AllCome : List Effect → List Effect → Type 0
AllCome [] ys = ⊤
AllCome (x ∷ xs) ys = ComesBefore x ys × AllCome xs ys

order-append : (xs ys : List Effect) → AreInOrder xs → AreInOrder ys → AllCome xs ys → AreInOrder (xs ++ ys)
order-append [] ys a b h = b
order-append (x ∷ xs) ys a b h = (comes-append x xs ys a.0 h.0, order-append xs ys a.1 b h.1)

-- each is of this life and this node
abbrev AreOf : ℕ → ℕ → List Effect → Type 0
AreOf which node [] = ⊤
AreOf which node (e ∷ effects) = ((e.life ≡ which) × (e.node ≡ node)) × AreOf which node effects

-- each has this stamp, and is of this life and of a node from here on
abbrev AreFrom : ℕ → ℕ → ℕ → List Effect → Type 0
AreFrom s which node [] = ⊤
AreFrom s which node (e ∷ effects) = ((e.stamp.0 ≡ s) × (e.life ≡ which) × (node ≤ e.node)) × AreFrom s which node effects

-- each has this stamp, and is of a life from here on
abbrev AreLater : ℕ → ℕ → List Effect → Type 0
AreLater s which [] = ⊤
AreLater s which (e ∷ effects) = ((e.stamp.0 ≡ s) × (which ≤ e.life)) × AreLater s which effects

-- ---- a node

of-append : (which node : ℕ) (xs ys : List Effect) → AreOf which node xs → AreOf which node ys → AreOf which node (xs ++ ys)
of-append which node [] ys a b = b
of-append which node (x ∷ xs) ys a b = (a.0, of-append which node xs ys a.1 b)

of-given : (which node s : ℕ) (effects : List Effect) → AreEffectsOf which node s effects → AreOf which node effects
of-given which node s [] are = tt
of-given which node s (e ∷ effects) are = ((are.0.life_is, are.0.node_is), of-given which node s effects are.1)

module _ (which node : ℕ) (answer : Answer) (stamped : (before : List Input) (x : Input) → IsStamped which node x.1.stamp.0 (answer before x)) where
  of-after : (before xs : List Input) → AreOf which node (given_after answer before xs).effects
  of-after before [] = tt
  of-after before (x ∷ xs) = of-append which node _ _ (of-given which node x.1.stamp.0 (answer before x).effects (stamped before x).effects) (of-after (before ++ x ∷ []) xs)

-- with one stamp all effects of a node may stand in any order
node-from : (s which node low : ℕ) (effects : List Effect) → low ≤ node → AreOf which node effects → AreFrom s which low (effects_with s effects)
node-from s which node low [] le are = tt
node-from s which node low (e ∷ effects) le are = elim (e.stamp.0 == s) as (λ b. (e.stamp.0 == s) ≡ b → AreFrom s which low (cond b (e ∷ effects_with s effects) (effects_with s effects))) [
  | true ↦ λ t. let same : e.stamp.0 ≡ s = grind (arith, nat_tests) in let node_is = are.0.1 in ((same, are.0.0, omega arith), node-from s which node low effects le are.1)
  | false ↦ λ t. node-from s which node low effects le are.1
] refl

comes-from : (s which node : ℕ) (a : Effect) (effects : List Effect) → a.stamp.0 ≡ s → a.life ≡ which → a.node ≤ node → AreFrom s which node effects → ComesBefore a effects
comes-from s which node a [] e f le from = tt
comes-from s which node a (b ∷ effects) e f le from =
    let low = from.0.2 in
    (inr (e ∙ sym from.0.0, inr (f ∙ sym from.0.1, omega arith)), comes-from s which node a effects e f le from.1)

node-order : (s which node : ℕ) (effects : List Effect) → AreOf which node effects → AreInOrder (effects_with s effects)
node-order s which node [] are = tt
node-order s which node (e ∷ effects) are = elim (e.stamp.0 == s) as (λ b. (e.stamp.0 == s) ≡ b → AreInOrder (cond b (e ∷ effects_with s effects) (effects_with s effects))) [
  | true ↦ λ t.
      let same : e.stamp.0 ≡ s = grind (arith, nat_tests) in
      let node_is = are.0.1 in
      (comes-from s which node e (effects_with s effects) same are.0.0 (omega arith) (node-from s which node node effects (omega arith) are.1), node-order s which node effects are.1)
  | false ↦ λ t. node-order s which node effects are.1
] refl

node-comes : (s which node : ℕ) (effects rest : List Effect) → AreOf which node effects → AreFrom s which (node + 1) rest → AllCome (effects_with s effects) rest
node-comes s which node [] rest are from = tt
node-comes s which node (e ∷ effects) rest are from = elim (e.stamp.0 == s) as (λ b. (e.stamp.0 == s) ≡ b → AllCome (cond b (e ∷ effects_with s effects) (effects_with s effects)) rest) [
  | true ↦ λ t.
      let same : e.stamp.0 ≡ s = grind (arith, nat_tests) in
      let node_is = are.0.1 in
      (comes-from s which (node + 1) e rest same are.0.0 (omega arith) from, node-comes s which node effects rest are.1 from)
  | false ↦ λ t. node-comes s which node effects rest are.1 from
] refl

from-append : (s which node : ℕ) (xs ys : List Effect) → AreFrom s which node xs → AreFrom s which node ys → AreFrom s which node (xs ++ ys)
from-append s which node [] ys a b = b
from-append s which node (x ∷ xs) ys a b = (a.0, from-append s which node xs ys a.1 b)

later-append : (s which : ℕ) (xs ys : List Effect) → AreLater s which xs → AreLater s which ys → AreLater s which (xs ++ ys)
later-append s which [] ys a b = b
later-append s which (x ∷ xs) ys a b = (a.0, later-append s which xs ys a.1 b)

from-later : (s which node low : ℕ) (effects : List Effect) → low ≤ which → AreFrom s which node effects → AreLater s low effects
from-later s which node low [] le from = tt
from-later s which node low (e ∷ effects) le from = let same = from.0.1 in ((from.0.0, omega arith), from-later s which node low effects le from.1)

comes-later : (s which : ℕ) (a : Effect) (effects : List Effect) → a.stamp.0 ≡ s → a.life < which → AreLater s which effects → ComesBefore a effects
comes-later s which a [] e lt later = tt
comes-later s which a (b ∷ effects) e lt later =
    let low = later.0.1 in
    (inr (e ∙ sym later.0.0, inl (omega arith)), comes-later s which a effects e lt later.1)

life-comes : (s which node : ℕ) (effects rest : List Effect) → AreFrom s which node effects → AreLater s (which + 1) rest → AllCome effects rest
life-comes s which node [] rest from later = tt
life-comes s which node (e ∷ effects) rest from later = let same = from.0.1 in (comes-later s (which + 1) e rest from.0.0 (omega arith) later, life-comes s which node effects rest from.1 later)

comes-above : (s which n : ℕ) (a : Effect) (effects : List Effect) → a.stamp.0 ≤ n → n < s → AreLater s which effects → ComesBefore a effects
comes-above s which n a [] le lt later = tt
comes-above s which n a (b ∷ effects) le lt later = let same = later.0.0 in (inl (omega arith), comes-above s which n a effects le lt later.1)

stamp-comes : (s which n : ℕ) (effects rest : List Effect) → n < s → StampsUpTo of_effect n effects → AreLater s which rest → AllCome effects rest
stamp-comes s which n [] rest lt up_to later = tt
stamp-comes s which n (e ∷ effects) rest lt up_to later = (comes-above s which n e rest up_to.0 lt later, stamp-comes s which n effects rest lt up_to.1 later)

later-up_to : (s which n : ℕ) (effects : List Effect) → s ≤ n → AreLater s which effects → StampsUpTo of_effect n effects
later-up_to s which n [] le later = tt
later-up_to s which n (e ∷ effects) le later = let same = later.0.0 in ((omega arith), later-up_to s which n effects le later.1)

-- ---- nodes, lives and stamps

module _ {P : Type 0} (answer : P → Answer) (life number : P → ℕ) (stamped : (p : P) (before : List Input) (x : Input) → IsStamped (life p) (number p) x.1.stamp.0 (answer p before x)) where
  gives-of : (which node n : ℕ) (points : List Item) (earlier : List Given) (placed : Placed P) → life placed.spec ≡ which → number placed.spec ≡ node → AreOf which node (node_gives answer n points earlier placed).effects
  gives-of which node n points earlier placed e f =
      let are = of-after (life placed.spec) (number placed.spec) (answer placed.spec) (stamped placed.spec) [] (merged n (lists_of points (outs_of earlier) placed.parents)) in
      rw (e, f) at are

  nodes-from : (s which node low n : ℕ) (points : List Item) (earlier : List Given) (nodes : List (Placed P)) → low ≤ node → NodesNumbered life number which node nodes → AreFrom s which low (node_effects_with s (gives_behind answer n points earlier nodes))
  nodes-from s which node low n points earlier [] le are = tt
  nodes-from s which node low n points earlier (p ∷ nodes) le are =
      let g = node_gives answer n points earlier p in
      from-append s which low (effects_with s g.effects) (node_effects_with s (gives_behind answer n points (earlier ++ g ∷ []) nodes))
      (node-from s which node low g.effects le (gives-of which node n points earlier p are.0.0 are.0.1))
      (nodes-from s which (node + 1) low n points (earlier ++ g ∷ []) nodes (omega arith) are.1)

  nodes-order : (s which node n : ℕ) (points : List Item) (earlier : List Given) (nodes : List (Placed P)) → NodesNumbered life number which node nodes → AreInOrder (node_effects_with s (gives_behind answer n points earlier nodes))
  nodes-order s which node n points earlier [] are = tt
  nodes-order s which node n points earlier (p ∷ nodes) are =
      let g = node_gives answer n points earlier p in
      let of = gives-of which node n points earlier p are.0.0 are.0.1 in
      let rest = node_effects_with s (gives_behind answer n points (earlier ++ g ∷ []) nodes) in
      order-append (effects_with s g.effects) rest (node-order s which node g.effects of) (nodes-order s which (node + 1) n points (earlier ++ g ∷ []) nodes are.1)
      (node-comes s which node g.effects rest of (nodes-from s which (node + 1) (node + 1) n points (earlier ++ g ∷ []) nodes (omega arith) are.1))

  lives-later : (s which low : ℕ) (points : List PointValue) (lives : List (List (Placed P))) → low ≤ which → LivesNumbered life number which lives → AreLater s low (life_effects_with answer s lives points)
  lives-later s which low points [] le are = tt
  lives-later s which low points (nodes ∷ lives) le are =
      later-append s low (node_effects_with s (graph_gives answer points nodes)) (life_effects_with answer s lives points)
      (from-later s which 0 low _ le (nodes-from s which 0 0 (length points) (stamped_from 1 points) [] nodes (omega arith) are.0))
      (lives-later s (which + 1) low points lives (omega arith) are.1)

  lives-order : (s which : ℕ) (points : List PointValue) (lives : List (List (Placed P))) → LivesNumbered life number which lives → AreInOrder (life_effects_with answer s lives points)
  lives-order s which points [] are = tt
  lives-order s which points (nodes ∷ lives) are =
      let one = node_effects_with s (graph_gives answer points nodes) in
      let rest = life_effects_with answer s lives points in
      order-append one rest (nodes-order s which 0 (length points) (stamped_from 1 points) [] nodes are.0) (lives-order s (which + 1) points lives are.1)
      (life-comes s which 0 one rest (nodes-from s which 0 0 (length points) (stamped_from 1 points) [] nodes (omega arith) are.0) (lives-later s (which + 1) (which + 1) points lives (omega arith) are.1))

  stamps-up_to : (n which : ℕ) (points : List PointValue) (lives : List (List (Placed P))) → LivesNumbered life number which lives → StampsUpTo of_effect n (flat_map (λ s. life_effects_with answer s lives points) (stamps n))
  stamps-up_to zero which points lives are = tt
  stamps-up_to (suc n) which points lives are =
      rw (flat_map-append, append-nil)
      (up_to_append of_effect (suc n) _ _ (wider n (flat_map (λ s. life_effects_with answer s lives points) (stamps n)) (stamps-up_to n which points lives are))
      (later-up_to (suc n) which (suc n) (life_effects_with answer (suc n) lives points) (omega arith) (lives-later (suc n) which which points lives (omega arith) are)))
    where
      wider : (n : ℕ) (xs : List Effect) → StampsUpTo of_effect n xs → StampsUpTo of_effect (suc n) xs
      wider n [] h = tt
      wider n (x ∷ xs) h = let low = h.0 in ((omega arith), wider n xs h.1)

  stamps-order : (n which : ℕ) (points : List PointValue) (lives : List (List (Placed P))) → LivesNumbered life number which lives → AreInOrder (flat_map (λ s. life_effects_with answer s lives points) (stamps n))
  stamps-order zero which points lives are = tt
  stamps-order (suc n) which points lives are =
      let earlier = flat_map (λ s. life_effects_with answer s lives points) (stamps n) in
      let rest = life_effects_with answer (suc n) lives points in
      rw (flat_map-append, append-nil)
      (order-append earlier rest (stamps-order n which points lives are) (lives-order (suc n) which points lives are)
      (stamp-comes (suc n) which n earlier rest (omega arith) (stamps-up_to n which points lives are) (lives-later (suc n) which which points lives (omega arith) are)))

  -- by stamp, with one stamp by life, and in one life by node
  pub effects_in_order : (points : List PointValue) (lives : List (List (Placed P))) → LivesNumbered life number 1 lives → AreInOrder (effects_of answer lives points)
  effects_in_order points lives are = stamps-order (length points) 1 points lives are
