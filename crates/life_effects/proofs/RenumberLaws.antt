-- Lives that do the same under other numbers.
use Rattle.std.proofs.Common.{◌≡◌, ℕ, ◌+◌, Bool, true, false, List, [], ◌∷◌, ◌++◌, length, map, refl, sym, ap, subst, ◌∙◌}
use Rattle.std.specs.Prelude.{◌==◌, if◌then◌else◌, flat_map}
use Rattle.std.specs.List.{AllZip}
use Rattle.std.proofs.lemmas.List.{map-append}
use Rattle.kap_base.specs.Points.{PointValue}
use Rattle.kap_base.specs.declared.items.Effect.{Effect}
use Rattle.kap_base.specs.declared.items.Item.{Item}
use Rattle.kap_base.specs.declared.items.Stamp.{Stamp}
use Rattle.kap_base.specs.declared.items.What.{What}
use Rattle.node_core.specs.Meaning.{Answer, Given, Input, Saying, given, given_after}
use Rattle.node_core.specs.Numbering.{arrival, effects_from, number_at, stamped, tally}
use Rattle.task_run.specs.Graphs.{Placed, gives_behind, graph_gives, lists_of, node_gives, outs_of, stamped_from}
use Rattle.task_run.specs.Lives.{effects_of, effects_with, life_effects_with, node_effects_with}
use Rattle.task_run.specs.Merging.{merged, stamps}
use Rattle.life_effects.specs.Renumbered.{AreAlike, SaysAlike, whats}

-- ---- effects of different lives

-- two effects have one stamp and tell the same
abbrev IsAlike : Effect → Effect → Type 0
IsAlike e f = (e.stamp ≡ f.stamp) × (e.what ≡ f.what)

-- and so do those of two lists
abbrev AreSame : List Effect → List Effect → Type 0
AreSame xs ys = AllZip IsAlike xs ys

same-append : (xs ys us vs : List Effect) → AreSame xs ys → AreSame us vs → AreSame (xs ++ us) (ys ++ vs)
same-append [] [] us vs a b = b
same-append [] (y ∷ ys) us vs a b = absurd a
same-append (x ∷ xs) [] us vs a b = absurd a
same-append (x ∷ xs) (y ∷ ys) us vs a b = (a.0, same-append xs ys us vs a.1 b)

same-whats : (xs ys : List Effect) → AreSame xs ys → whats xs ≡ whats ys
same-whats [] [] a = refl
same-whats [] (y ∷ ys) a = absurd a
same-whats (x ∷ xs) [] a = absurd a
same-whats (x ∷ xs) (y ∷ ys) a = ap (λ (w : What). w ∷ whats xs) a.0.1 ∙ ap (λ (ws : List What). y.what ∷ ws) (same-whats xs ys a.1)

-- those with a stamp too
same-with : (stamp : ℕ) (xs ys : List Effect) → AreSame xs ys → AreSame (effects_with stamp xs) (effects_with stamp ys)
same-with stamp [] [] a = tt
same-with stamp [] (y ∷ ys) a = absurd a
same-with stamp (x ∷ xs) [] a = absurd a
same-with stamp (x ∷ xs) (y ∷ ys) a =
    pick (x.stamp.0 == stamp) (y.stamp.0 == stamp) (ap (λ (s : Stamp). s.0 == stamp) a.0.0) a.0 (same-with stamp xs ys a.1)
  where
    pick : (p q : Bool) → p ≡ q → IsAlike x y → AreSame (effects_with stamp xs) (effects_with stamp ys)
        → AreSame (if p then x ∷ effects_with stamp xs else effects_with stamp xs) (if q then y ∷ effects_with stamp ys else effects_with stamp ys)
    pick true true e one rest = (one, rest)
    pick true false e one rest = absurd cc
    pick false true e one rest = absurd cc
    pick false false e one rest = rest

-- ---- what a node gives in one life and in another

-- the same items, and effects that are alike
pub record IsGivenAlike (g h : Given) : Type 0 where
  pub items : g.items ≡ h.items
  pub effects : AreSame g.effects h.effects

from-alike : (one other node : ℕ) (stamp : Stamp) (seq : ℕ) (ws : List What) → AreSame (effects_from one node stamp seq ws) (effects_from other node stamp seq ws)
from-alike one other node stamp seq [] = tt
from-alike one other node stamp seq (w ∷ ws) = ((refl, refl), from-alike one other node stamp (seq + 1) ws)

after-alike : (one other node : ℕ) (saying : Saying) (before xs : List Input) → IsGivenAlike (given_after (stamped one node saying) before xs) (given_after (stamped other node saying) before xs)
after-alike one other node saying before [] = record { items = refl; effects = tt }
after-alike one other node saying before (x ∷ xs) =
    let rest = after-alike one other node saying (before ++ x ∷ []) xs in
    let here = (stamped one node saying before x).items in
    record {
      items = ap (λ (is : List Item). here ++ is) rest.items;
      effects = same-append (stamped one node saying before x).effects (stamped other node saying before x).effects
          (given_after (stamped one node saying) (before ++ x ∷ []) xs).effects (given_after (stamped other node saying) (before ++ x ∷ []) xs).effects
          (from-alike one other node x.1.stamp (number_at (tally saying before) x.1.stamp.0) (saying (map arrival before) (arrival x)).deeds) rest.effects;
    }

-- ---- what the nodes of a life give

outs-more : (gs hs : List Given) (g h : Given) → outs_of gs ≡ outs_of hs → g.items ≡ h.items → outs_of (gs ++ g ∷ []) ≡ outs_of (hs ++ h ∷ [])
outs-more gs hs g h e i =
    map-append (λ (x : Given). x.items) gs (g ∷ [])
    ∙ ap (λ (os : List (List Item)). os ++ g.items ∷ []) e
    ∙ ap (λ (is : List Item). outs_of hs ++ is ∷ []) i
    ∙ sym (map-append (λ (x : Given). x.items) hs (h ∷ []))

module _ {P : Type 0} (answer : P → Answer) where
  node-alike : (n : ℕ) (points : List Item) (one other : ℕ) (a b : Placed P) (gs hs : List Given) → SaysAlike answer one other a b → outs_of gs ≡ outs_of hs
      → IsGivenAlike (node_gives answer n points gs a) (node_gives answer n points hs b)
  node-alike n points one other a b gs hs s outs =
      let xs = merged n (lists_of points (outs_of hs) b.parents) in
      let inputs : merged n (lists_of points (outs_of gs) a.parents) ≡ xs =
      ap (λ (os : List (List Item)). merged n (lists_of points os a.parents)) outs ∙ ap (λ (ps : List ℕ). merged n (lists_of points (outs_of hs) ps)) s.parents in
      let own : node_gives answer n points gs a ≡ given (stamped one s.node s.saying) xs =
      ap (λ (f : Answer). given f (merged n (lists_of points (outs_of gs) a.parents))) s.answer_one ∙ ap (given (stamped one s.node s.saying)) inputs in
      let theirs : node_gives answer n points hs b ≡ given (stamped other s.node s.saying) xs = ap (λ (f : Answer). given f xs) s.answer_other in
      subst (λ (g : Given). IsGivenAlike g (node_gives answer n points hs b)) (sym own)
      (subst (λ (h : Given). IsGivenAlike (given (stamped one s.node s.saying) xs) h) (sym theirs) (after-alike one other s.node s.saying [] xs))

  behind-alike : (stamp n : ℕ) (points : List Item) (one other : ℕ) (xs ys : List (Placed P)) (gs hs : List Given) → AllZip (SaysAlike answer one other) xs ys → outs_of gs ≡ outs_of hs
      → AreSame (node_effects_with stamp (gives_behind answer n points gs xs)) (node_effects_with stamp (gives_behind answer n points hs ys))
  behind-alike stamp n points one other [] [] gs hs z outs = tt
  behind-alike stamp n points one other [] (b ∷ ys) gs hs z outs = absurd z
  behind-alike stamp n points one other (a ∷ xs) [] gs hs z outs = absurd z
  behind-alike stamp n points one other (a ∷ xs) (b ∷ ys) gs hs z outs =
      let g = node_gives answer n points gs a in
      let h = node_gives answer n points hs b in
      let own = node-alike n points one other a b gs hs z.0 outs in
      same-append (effects_with stamp g.effects) (effects_with stamp h.effects)
      (node_effects_with stamp (gives_behind answer n points (gs ++ g ∷ []) xs)) (node_effects_with stamp (gives_behind answer n points (hs ++ h ∷ []) ys))
      (same-with stamp g.effects h.effects own.effects)
      (behind-alike stamp n points one other xs ys (gs ++ g ∷ []) (hs ++ h ∷ []) z.1 (outs-more gs hs g h outs own.items))

  -- ---- what lives do

  lives-alike : (stamp : ℕ) (points : List PointValue) (xs ys : List (List (Placed P))) → AllZip (AreAlike answer) xs ys → AreSame (life_effects_with answer stamp xs points) (life_effects_with answer stamp ys points)
  lives-alike stamp points [] [] z = tt
  lives-alike stamp points [] (y ∷ ys) z = absurd z
  lives-alike stamp points (x ∷ xs) [] z = absurd z
  lives-alike stamp points (x ∷ xs) (y ∷ ys) z =
      same-append (node_effects_with stamp (graph_gives answer points x)) (node_effects_with stamp (graph_gives answer points y))
      (life_effects_with answer stamp xs points) (life_effects_with answer stamp ys points)
      (behind-alike stamp (length points) (stamped_from 1 points) z.0.number z.0.other_number x y [] [] z.0.nodes refl)
      (lives-alike stamp points xs ys z.1)

  stamps-alike : (points : List PointValue) (xs ys : List (List (Placed P))) (ss : List ℕ) → AllZip (AreAlike answer) xs ys
      → AreSame (flat_map (λ s. life_effects_with answer s xs points) ss) (flat_map (λ s. life_effects_with answer s ys points) ss)
  stamps-alike points xs ys [] z = tt
  stamps-alike points xs ys (s ∷ ss) z =
      same-append (life_effects_with answer s xs points) (life_effects_with answer s ys points)
      (flat_map (λ t. life_effects_with answer t xs points) ss) (flat_map (λ t. life_effects_with answer t ys points) ss)
      (lives-alike s points xs ys z) (stamps-alike points xs ys ss z)

  -- lives tell the same under any numbers
  pub effects_alike : (points : List PointValue) (xs ys : List (List (Placed P))) → AllZip (AreAlike answer) xs ys
      → whats (effects_of answer xs points) ≡ whats (effects_of answer ys points)
  effects_alike points xs ys z =
      same-whats (effects_of answer xs points) (effects_of answer ys points) (stamps-alike points xs ys (stamps (length points)) z)
