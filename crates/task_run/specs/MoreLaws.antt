-- What one point more adds to what each node gives, to its state and to the effects.
use Rattle.std.proofs.Common.{◌≡◌, ℕ, zero, suc, ◌≤◌, ◌==◌, false, List, [], ◌∷◌, ◌++◌, map, refl, sym, ap, ◌∙◌, append-nil, arith}
use Rattle.std.specs.Prelude.{⊤, slice_index_or}
use Rattle.std.proofs.lemmas.Bool.Decides.{nat_tests}
use Rattle.std.proofs.lemmas.List.{map-append}
use Rattle.std.proofs.lemmas.List.Elements.{filter-append}
use Rattle.kap_base.specs.declared.items.Item.{Item}
use Rattle.kap_base.specs.declared.items.Effect.{Effect}
use Rattle.node_core.specs.Meaning.{Given, Input, Answer, Move, also, given_after, given, fold}
use Rattle.node_core.specs.Cut.{IsStamped}
use Rattle.node_core.specs.Laws.{also_assoc, nothing-also, given-append}
use Rattle.task_run.specs.Merging.{at_ports, merged}
use Rattle.task_run.specs.Graphs.{Placed, outs_of, lists_of, node_gives, gives_behind}
use Rattle.task_run.specs.Lives.{node_effects_with}
use Rattle.task_run.specs.Stamps.{of_effect, of_input, HaveStamp}
use Rattle.task_run.specs.StampLaws.{none_with}
use Rattle.task_run.specs.GivenLaws.{GivenAt, GivenUpTo, after_at, after_up_to}
use Rattle.task_run.specs.Growth.{Grows, merged_more, added_at, merged_up_to}

-- what a node gave so far, and what it gives with the next stamp
pub record Part : Type 0 where
  pub old : Given
  pub more : Given

-- all that a node gave, with what it gives with the next stamp
abbrev pub whole : Part → Given
whole t = also t.old t.more

-- what a node gave so far has the stamps up to n, and what it gives then has the next one
pub record IsPart (n : ℕ) (t : Part) : Type 0 where
  pub old : GivenUpTo n t.old
  pub more : GivenAt (suc n) t.more

-- each of these is such a part
abbrev pub AreParts : ℕ → List Part → Type 0
AreParts n [] = ⊤
AreParts n (t ∷ ts) = IsPart n t × AreParts n ts

-- what the nodes gave so far
abbrev pub olds : List Part → List Given
olds ts = map (λ t. t.old) ts

-- what the nodes give with the next stamp
abbrev pub mores : List Part → List Given
mores ts = map (λ t. t.more) ts

-- all that the nodes gave, with what they give with the next stamp
abbrev pub wholes : List Part → List Given
wholes ts = map whole ts

-- these parts with one more behind them are parts too
pub parts-more : (n : ℕ) (ts : List Part) (t : Part) → AreParts n ts → IsPart n t → AreParts n (ts ++ t ∷ [])
parts-more n [] t are is = (is, tt)
parts-more n (u ∷ ts) t are is = (are.0, parts-more n ts t are.1 is)

-- ---- the lists that a node takes grow

-- a list that nothing is known of but that it is empty
no-growth : (n : ℕ) → Grows n [] [] []
no-growth n = record { is = refl; before = tt; behind = tt }

-- what the node with a number gave out
abbrev pub out_at : List Given → ℕ → List Item
out_at gives i = slice_index_or (outs_of gives) i []

parts-grow : (n : ℕ) (ts : List Part) → AreParts n ts → (i : ℕ)
    → Grows n (out_at (olds ts) i) (out_at (mores ts) i) (out_at (wholes ts) i)
parts-grow n [] are i = no-growth n
parts-grow n (t ∷ ts) are zero = record { is = refl; before = are.0.old.items; behind = are.0.more.items }
parts-grow n (t ∷ ts) are (suc i) = parts-grow n ts are.1 i

-- the points, and what is new of them
pub record Source (n : ℕ) : Type 0 where
  pub old : List Item
  pub more : List Item
  pub new : List Item
  pub grows : Grows n old more new

-- what a node takes grows by what its parents give with the next stamp
pub lists-more : (n : ℕ) (source : Source n) (ts : List Part) → AreParts n ts → (parents : List ℕ)
    → merged (suc n) (lists_of source.new (outs_of (wholes ts)) parents)
    ≡ merged n (lists_of source.old (outs_of (olds ts)) parents)
    ++ at_ports 0 (lists_of source.more (outs_of (mores ts)) parents)
lists-more n source ts are [] =
    merged_more n (λ i. source.old) (λ i. source.more) (λ i. source.new) (λ i. source.grows) (0 ∷ [])
lists-more n source ts are (p ∷ ps) =
    merged_more n (out_at (olds ts)) (out_at (mores ts)) (out_at (wholes ts)) (parts-grow n ts are) (p ∷ ps)

lists-at : (n : ℕ) (source : Source n) (ts : List Part) → AreParts n ts → (parents : List ℕ)
    → HaveStamp of_input (suc n) (at_ports 0 (lists_of source.more (outs_of (mores ts)) parents))
lists-at n source ts are [] =
    added_at n (λ i. source.old) (λ i. source.more) (λ i. source.new) (λ i. source.grows) 0 (0 ∷ [])
lists-at n source ts are (p ∷ ps) =
    added_at n (out_at (olds ts)) (out_at (mores ts)) (out_at (wholes ts)) (parts-grow n ts are) 0 (p ∷ ps)

-- ---- the nodes of a graph, one behind the other

module _ {P : Type 0} (answer : P → Answer) (life number : P → ℕ) (stamped : (p : P) (before : List Input) (x : Input)
    → IsStamped (life p) (number p) x.1.stamp.0 (answer p before x)) where
  -- a node's part, where these are the parts of the earlier ones
  abbrev pub part : (n : ℕ) → Source n → List Part → Placed P → Part
  part n source ts node =
      let before = merged n (lists_of source.old (outs_of (olds ts)) node.parents) in
      record {
        old = given (answer node.spec) before;
        more = given_after (answer node.spec) before
            (at_ports 0 (lists_of source.more (outs_of (mores ts)) node.parents));
      }

  pub part-is : (n : ℕ) (source : Source n) (ts : List Part) → AreParts n ts → (node : Placed P)
      → IsPart n (part n source ts node)
  part-is n source ts are node =
      let before = merged n (lists_of source.old (outs_of (olds ts)) node.parents) in
      record {
        old = after_up_to (life node.spec) (number node.spec) (answer node.spec) (stamped node.spec) n [] before
            (merged_up_to n (lists_of source.old (outs_of (olds ts)) node.parents));
        more = after_at (life node.spec) (number node.spec) (answer node.spec) (stamped node.spec) (suc n) before _
            (lists-at n source ts are node.parents);
      }

  -- all that it gives is both
  pub part-whole : (n : ℕ) (source : Source n) (ts : List Part) → AreParts n ts → (node : Placed P)
      → node_gives answer (suc n) source.new (wholes ts) node ≡ whole (part n source ts node)
  part-whole n source ts are node =
      rw (lists-more n source ts are node.parents)
      (given-append (answer node.spec) [] (merged n (lists_of source.old (outs_of (olds ts)) node.parents))
      (at_ports 0 (lists_of source.more (outs_of (mores ts)) node.parents)))

  -- the parts of these nodes, where those are the parts of the earlier ones
  abbrev pub parts_behind : (n : ℕ) → Source n → List Part → List (Placed P) → List Part
  parts_behind n source ts [] = []
  parts_behind n source ts (node ∷ nodes) =
      let t = part n source ts node in t ∷ parts_behind n source (ts ++ t ∷ []) nodes

  pub parts_behind-are : (n : ℕ) (source : Source n) (ts : List Part) → AreParts n ts → (nodes : List (Placed P))
      → AreParts n (parts_behind n source ts nodes)
  parts_behind-are n source ts are [] = tt
  parts_behind-are n source ts are (node ∷ nodes) =
      let is = part-is n source ts are node in (
        is,
        parts_behind-are n source (ts ++ part n source ts node ∷ [])
            (parts-more n ts (part n source ts node) are is) nodes,
      )

  pub gives-old : (n : ℕ) (source : Source n) (ts : List Part) (nodes : List (Placed P))
      → gives_behind answer n source.old (olds ts) nodes ≡ olds (parts_behind n source ts nodes)
  gives-old n source ts [] = refl
  gives-old n source ts (node ∷ nodes) =
      ap (λ (gs : List Given). (part n source ts node).old ∷ gs)
      (ap (λ (gs : List Given). gives_behind answer n source.old gs nodes)
      (sym (map-append (λ t. t.old) ts (part n source ts node ∷ [])))
      ∙ gives-old n source (ts ++ part n source ts node ∷ []) nodes)

  pub gives-new : (n : ℕ) (source : Source n) (ts : List Part) → AreParts n ts → (nodes : List (Placed P))
      → gives_behind answer (suc n) source.new (wholes ts) nodes ≡ wholes (parts_behind n source ts nodes)
  gives-new n source ts are [] = refl
  gives-new n source ts are (node ∷ nodes) =
      let t = part n source ts node in
      let is = part-is n source ts are node in
      let rest = gives-new n source (ts ++ t ∷ []) (parts-more n ts t are is) nodes in
      rw (part-whole n source ts are node)
      (ap (λ (gs : List Given). whole t ∷ gs)
      (ap (λ (gs : List Given). gives_behind answer (suc n) source.new gs nodes) (sym (map-append whole ts (t ∷ [])))
      ∙ rest))

-- ---- effects

-- the effects with an old stamp are those that were there
pub effects-old : (n s : ℕ) (ts : List Part) → s ≤ n → AreParts n ts
    → node_effects_with s (wholes ts) ≡ node_effects_with s (olds ts)
effects-old n s [] le are = refl
effects-old n s (t ∷ ts) le are =
    let other : (suc n == s) ≡ false = grind (arith, nat_tests) in
    rw (
      filter-append,
      none_with of_effect s (suc n) t.more.effects other are.0.more.effects,
      append-nil,
      effects-old n s ts le are.1,
    ) refl

-- ---- steps

module _ {S : Type 0} (step : S → Input → Move S) where
  pub fold-append : (s : S) (xs ys : List Input)
      → fold step s (xs ++ ys)
      ≡ record {
        state = (fold step (fold step s xs).state ys).state;
        given = also (fold step s xs).given (fold step (fold step s xs).state ys).given;
      }
  fold-append s [] ys =
      ap (λ (g : Given). record { state = (fold step s ys).state; given = g })
      (sym (nothing-also (fold step s ys).given))
  fold-append s (x ∷ xs) ys =
      let t = step s x in
      rw (fold-append t.state xs ys)
      (ap (λ (g : Given). record { state = (fold step (fold step t.state xs).state ys).state; given = g })
      (sym (also_assoc t.given (fold step t.state xs).given (fold step (fold step t.state xs).state ys).given)))

pub same-given : (b c : Given) → b.items ≡ c.items → b.effects ≡ c.effects → b.drops ≡ c.drops → b ≡ c
same-given b c i e d =
    ap (λ (x : List Item). record { items = x; effects = b.effects; drops = b.drops }) i
    ∙ ap (λ (x : List Effect). record { items = c.items; effects = x; drops = b.drops }) e
    ∙ ap (λ (x : ℕ). record { items = c.items; effects = c.effects; drops = x }) d
