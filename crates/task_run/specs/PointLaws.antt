-- What one point more adds to lives.
use Rattle.std.proofs.Common.{◌≡◌, ℕ, zero, suc, ◌+◌, ◌≤◌, List, [], ◌∷◌, ◌++◌, map, length, refl, sym, ap, ◌∙◌, append-nil, arith}
use Rattle.std.specs.Prelude.{flat_map}
use Rattle.std.proofs.lemmas.List.Concat.{flat_map-append}
use Rattle.kap_base.specs.Points.{PointValue}
use Rattle.kap_base.specs.declared.items.Item.{Item}
use Rattle.kap_base.specs.declared.items.Body.TheVariants as bodies
use Rattle.kap_base.specs.declared.items.Effect.{Effect}
use Rattle.node_core.specs.Meaning.{Given, Input, Answer, Move, given, fold}
use Rattle.node_core.specs.Cut.{IsStamped}
use Rattle.task_run.specs.Merging.{stamps, merged}
use Rattle.task_run.specs.Graphs.{Placed, stamped_from, outs_of, lists_of, node_gives, gives_behind, graph_gives}
use Rattle.task_run.specs.Lives.{life_effects_with, effects_of}
use Rattle.task_run.specs.Active.{Active, placed, AreFirst, AreAt, IsAt}
use Rattle.task_run.specs.Stamps.{of_item, StampsUpTo}
use Rattle.task_run.specs.MoreLaws.{Source, Part, AreParts, olds, wholes, parts_behind, parts_behind-are, gives-old, gives-new, effects-old}

-- a point with a stamp
abbrev pub stamped_point : ℕ → PointValue → Item
stamped_point stamp p = record { stamp = record { 0 = stamp }; body = bodies.Point p }

-- one point more with the next stamp
pub from-more : (s : ℕ) (ps : List PointValue) (p : PointValue) (n : ℕ) → n ≡ s + length ps
    → stamped_from s (ps ++ p ∷ []) ≡ stamped_from s ps ++ stamped_point n p ∷ []
from-more s [] p n e = let same : s ≡ n = omega arith in ap (λ (t : ℕ). stamped_point t p ∷ []) same
from-more s (q ∷ ps) p n e = ap (λ (l : List Item). stamped_point s q ∷ l) (from-more (s + 1) ps p n (omega arith))

-- none of the points has a higher stamp
pub from-up_to : (s : ℕ) (ps : List PointValue) (n : ℕ) → s + length ps ≤ n + 1
    → StampsUpTo of_item n (stamped_from s ps)
from-up_to s [] n le = tt
from-up_to s (q ∷ ps) n le = ((omega arith), from-up_to (s + 1) ps n (omega arith))

-- the points, and one more
source_of : (ps : List PointValue) (p : PointValue) → Source (length ps)
source_of ps p = record {
  old = stamped_from 1 ps;
  more = stamped_point (suc (length ps)) p ∷ [];
  new = stamped_from 1 (ps ++ p ∷ []);
  grows = record {
    is = from-more 1 ps p (suc (length ps)) (omega arith);
    before = from-up_to 1 ps (length ps) (omega arith);
    behind = (refl, tt);
  };
}

pub length-more : {A : Type 0} (xs : List A) (x : A) → length (xs ++ x ∷ []) ≡ suc (length xs)
length-more [] x = refl
length-more (y ∷ xs) x = ap suc (length-more xs x)

module _ {P : Type 0} (answer : P → Answer) (life number : P → ℕ) (stamped : (p : P) (before : List Input) (x : Input)
    → IsStamped (life p) (number p) x.1.stamp.0 (answer p before x)) where
  abbrev parts-of : List PointValue → PointValue → List (Placed P) → List Part
  parts-of ps p nodes = parts_behind answer life number stamped (length ps) (source_of ps p) [] nodes

  graph-old : (ps : List PointValue) (p : PointValue) (nodes : List (Placed P))
      → graph_gives answer ps nodes ≡ olds (parts-of ps p nodes)
  unfolding source_of
  graph-old ps p nodes = gives-old answer life number stamped (length ps) (source_of ps p) [] nodes

  graph-new : (ps : List PointValue) (p : PointValue) (nodes : List (Placed P))
      → graph_gives answer (ps ++ p ∷ []) nodes ≡ wholes (parts-of ps p nodes)
  unfolding source_of
  graph-new ps p nodes =
      ap (λ (n : ℕ). gives_behind answer n (stamped_from 1 (ps ++ p ∷ [])) [] nodes) (length-more ps p)
      ∙ gives-new answer life number stamped (length ps) (source_of ps p) [] tt nodes

  parts-are : (ps : List PointValue) (p : PointValue) (nodes : List (Placed P))
      → AreParts (length ps) (parts-of ps p nodes)
  parts-are ps p nodes = parts_behind-are answer life number stamped (length ps) (source_of ps p) [] tt nodes

  life-old : (ps : List PointValue) (p : PointValue) (s : ℕ) (lives : List (List (Placed P))) → s ≤ length ps
      → life_effects_with answer s lives (ps ++ p ∷ []) ≡ life_effects_with answer s lives ps
  life-old ps p s [] le = refl
  life-old ps p s (nodes ∷ lives) le =
      rw (
        graph-new ps p nodes,
        graph-old ps p nodes,
        effects-old (length ps) s (parts-of ps p nodes) le
            (parts-are ps p nodes),
        life-old ps p s lives le,
      ) refl

  stamps-old : (ps : List PointValue) (p : PointValue) (lives : List (List (Placed P))) (m : ℕ) → m ≤ length ps
      → flat_map (λ s. life_effects_with answer s lives (ps ++ p ∷ [])) (stamps m)
      ≡ flat_map (λ s. life_effects_with answer s lives ps) (stamps m)
  stamps-old ps p lives zero le = refl
  stamps-old ps p lives (suc m) le =
      let low : m ≤ length ps = omega arith in
      flat_map-append (λ s. life_effects_with answer s lives (ps ++ p ∷ [])) (stamps m) (suc m ∷ [])
      ∙ ap (λ (es : List Effect). es ++ (life_effects_with answer (suc m) lives (ps ++ p ∷ []) ++ []))
      (stamps-old ps p lives m low)
      ∙ ap (λ (es : List Effect). flat_map (λ s. life_effects_with answer s lives ps) (stamps m) ++ (es ++ []))
      (life-old ps p (suc m) lives le)
      ∙ sym (flat_map-append (λ s. life_effects_with answer s lives ps) (stamps m) (suc m ∷ []))

  -- the effects of one point more come behind the others
  pub effects_more : (lives : List (List (Placed P))) (ps : List PointValue) (p : PointValue)
      → effects_of answer lives (ps ++ p ∷ []) ≡ effects_of answer lives ps
      ++ life_effects_with answer (suc (length ps)) lives (ps ++ p ∷ [])
  effects_more lives ps p =
      let low : length ps ≤ length ps = omega arith in
      ap (λ (n : ℕ). flat_map (λ s. life_effects_with answer s lives (ps ++ p ∷ [])) (stamps n)) (length-more ps p)
      ∙ flat_map-append (λ s. life_effects_with answer s lives (ps ++ p ∷ [])) (stamps (length ps))
      (suc (length ps) ∷ [])
      ∙ ap (λ (es : List Effect). es ++ (life_effects_with answer (suc (length ps)) lives (ps ++ p ∷ []) ++ []))
      (stamps-old ps p lives (length ps) low)
      ∙ ap (λ (es : List Effect). effects_of answer lives ps ++ es)
      (append-nil (life_effects_with answer (suc (length ps)) lives (ps ++ p ∷ [])))

  module _ {S : Type 0} (first : P → S) (step : P → S → Input → Move S) (folds : (p : P) (xs : List Input)
      → (fold (step p) (first p) xs).given ≡ given (answer p) xs) where
    -- before the first point
    begins-at : (earlier : List Given) (acts : List (Active P S)) → AreFirst first acts
        → AreAt answer first step 0 [] earlier acts
    begins-at earlier [] h = tt
    begins-at earlier (a ∷ acts) h =
        (h.0, begins-at (earlier ++ node_gives answer 0 [] earlier (placed a) ∷ []) acts h.1)

    pub begins : (acts : List (Active P S)) → AreFirst first acts → IsAt answer first step [] acts
    begins acts h = begins-at [] acts h

    -- counted drops
    drops-at : (drops : S → ℕ)
        → ((p : P) (xs : List Input) → drops (fold (step p) (first p) xs).state ≡ (given (answer p) xs).drops)
        → (n : ℕ) (points : List Item) (earlier : List Given) (acts : List (Active P S))
        → AreAt answer first step n points earlier acts
        → map (λ a. drops a.state) acts ≡ map (λ g. g.drops) (gives_behind answer n points earlier (map placed acts))
    drops-at drops counts n points earlier [] at = refl
    drops-at drops counts n points earlier (a ∷ acts) at =
        rw (
          at.0,
          counts a.spec (merged n (lists_of points (outs_of earlier) a.parents)),
          drops-at drops counts n points
              (earlier ++ node_gives answer n points earlier (placed a) ∷ []) acts at.1,
        ) refl

    pub dropped_at : (drops : S → ℕ)
        → ((p : P) (xs : List Input) → drops (fold (step p) (first p) xs).state ≡ (given (answer p) xs).drops)
        → (ps : List PointValue) (acts : List (Active P S)) → IsAt answer first step ps acts
        → map (λ a. drops a.state) acts ≡ map (λ g. g.drops) (graph_gives answer ps (map placed acts))
    dropped_at drops counts ps acts at = drops-at drops counts (length ps) (stamped_from 1 ps) [] acts at
