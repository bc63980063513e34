-- What a graph's shape and want of faults say of each node, and which fault comes first.
use Rattle.std.proofs.Common.{◌≡◌, ℕ, zero, suc, ◌+◌, ◌<◌, Bool, true, false, true≢false, ◌&&◌, ◌||◌, List, [], ◌∷◌, length, get_or, Option, Some, None, refl, sym, ◌∙◌, ap, subst, arith, if◌then◌else◌, slice_get, Contains, option_map, is_none, nat_lt, nat_eq}
use Rattle.std.specs.List.{list_any, list_all}
use Rattle.std.specs.Option.{option_map_or}
use Rattle.std.proofs.lemmas.Bool.{eqb-true, ltb-true, ltb-false, leb-false}
use Rattle.std.proofs.lemmas.List.{get_or_default}
use Rattle.std.proofs.lemmas.List.Folds.{list_any_at}
use Rattle.std.proofs.lemmas.List.Sums.{AllPass-from_list_all}
use Rattle.std.proofs.lemmas.Option.{slice_get_within, slice_get-get_or}
use Rattle.task_graph.specs.declared.graph.Flow.{Flow}
use Rattle.task_graph.specs.declared.graph.Flow.TheVariants.{Points, Batches}
use Rattle.task_graph.specs.declared.graph.GraphFault.{GraphFault}
use Rattle.task_graph.specs.declared.graph.TheConstants.{NODE_LIMIT, PARENT_LIMIT}
use Rattle.task_graph.specs.declared.spec.NodeSpec.{NodeSpec}
use Rattle.task_graph.specs.declared.spec.Spec.{Spec}
use Rattle.task_graph.specs.declared.spec.Spec.TheVariants.{Stream, Eval, Union, Join}
use Rattle.task_graph.specs.Edges.{gives, takes, is_stream, ends_chain, cannot_stand, differs, is_wrong_kind}
use Rattle.task_graph.specs.Graphs.{is_fit, are_behind, has_shape, spec_at, some_parent, node_fault, first, fault_from, first_graph_fault, IsLowestFault, IsFaultless, IsGraph, BeginsWithStream, HangsTogether}

-- ---- tests

left_of : (x y : Bool) → (x && y) ≡ true → x ≡ true
left_of true y h = refl
left_of false y h = absurd cc

right_of : (x y : Bool) → (x && y) ≡ true → y ≡ true
right_of true y h = h
right_of false y h = absurd cc

neither_left : (x y : Bool) → (x || y) ≡ false → x ≡ false
neither_left true y h = absurd cc
neither_left false y h = refl

neither_right : (x y : Bool) → (x || y) ≡ false → y ≡ false
neither_right true y h = absurd cc
neither_right false y h = h

-- no element passes the test
any_none : {X : Type 0} (test : X → Bool) (xs : List X) (x : X) → Contains xs x → list_any test xs ≡ false → test x ≡ false
any_none {X} test xs x has none = go (test x) refl
  where
    go : (b : Bool) → test x ≡ b → b ≡ false
    go false e = refl
    go true e = absurd (true≢false (sym (list_any_at test xs has.0 x has.1 (ap test has.2 ∙ e)) ∙ none))

-- each does
all_pass : {X : Type 0} (test : X → Bool) (xs : List X) (x : X) → Contains xs x → list_all test xs ≡ true → test x ≡ true
all_pass {X} test xs x has pass = ap test (sym has.2) ∙ AllPass-from_list_all test xs pass has.0 x has.1

-- ---- the shape

pub record Behind {L : Type 0} (number : ℕ) (node : NodeSpec L) : Type 0 where
  pub fits : is_fit (length node.parents) node.spec ≡ true
  pub earlier : list_all (λ p. nat_lt p number) node.parents ≡ true

behind_at : {L : Type 0} (nodes : List (NodeSpec L)) (number k at : ℕ) (node : NodeSpec L)
    → at ≡ number + k → are_behind number nodes ≡ true → slice_get nodes k ≡ Some node → Behind at node
behind_at [] number k at node here shape there = absurd cc
behind_at {L} (n ∷ nodes) number zero at node here shape there =
    let same : n ≡ node = cc in
    let number_is : at ≡ number = omega arith in
    let front : (is_fit (length n.parents) n.spec && list_all (λ p. nat_lt p number) n.parents) ≡ true = left_of _ _ shape in
    subst (λ (m : ℕ). Behind m node) (sym number_is) (subst (λ (x : NodeSpec L). Behind number x) same (record { fits = left_of _ _ front; earlier = right_of _ _ front }))
behind_at (n ∷ nodes) number (suc k) at node here shape there = behind_at nodes (number + 1) k at node (omega arith) (right_of _ _ shape) there

-- each node but the first stands behind it
node_behind : {L : Type 0} (nodes : List (NodeSpec L)) (number : ℕ) (node : NodeSpec L)
    → has_shape nodes ≡ true → 0 < number → slice_get nodes number ≡ Some node → Behind number node
node_behind [] number node shape later there = absurd cc
node_behind (n ∷ nodes) zero node shape later there = absurd (omega arith)
node_behind (n ∷ nodes) (suc k) node shape later there = behind_at nodes 1 k (suc k) node (omega arith) (right_of _ _ shape) there

-- ---- faults

first_none : (x y : Option GraphFault) → first x y ≡ None → (x ≡ None) × (y ≡ None)
first_none None y h = (refl, h)
first_none (Some f) y h = absurd cc

faultless_at : {L : Type 0} (all nodes : List (NodeSpec L)) (number k at : ℕ) (node : NodeSpec L)
    → at ≡ number + k → fault_from all number nodes ≡ None → slice_get nodes k ≡ Some node → node_fault all at node ≡ None
faultless_at all [] number k at node here none there = absurd cc
faultless_at {L} all (n ∷ nodes) number zero at node here none there =
    let same : n ≡ node = cc in
    let number_is : at ≡ number = omega arith in
    subst (λ (m : ℕ). node_fault all m node ≡ None) (sym number_is) (subst (λ (x : NodeSpec L). node_fault all number x ≡ None) same (first_none _ _ none).0)
faultless_at all (n ∷ nodes) number (suc k) at node here none there =
    faultless_at all nodes (number + 1) k at node (omega arith) (first_none _ _ none).1 there

pub no_fault : {L : Type 0} (nodes : List (NodeSpec L)) → first_graph_fault nodes ≡ None → IsFaultless nodes
no_fault nodes none k node there = faultless_at nodes nodes 0 k k node (omega arith) none there

-- the lowest fault from a number on
record LowestFrom {L : Type 0} (all nodes : List (NodeSpec L)) (number : ℕ) (fault : GraphFault) : Type 0 where
  k : ℕ
  node : NodeSpec L
  there : slice_get nodes k ≡ Some node
  fault_is : (at : ℕ) → at ≡ number + k → node_fault all at node ≡ Some fault
  lower : (j at : ℕ) (n : NodeSpec L) → at ≡ number + j → j < k → slice_get nodes j ≡ Some n → node_fault all at n ≡ None

-- a fault here is the lowest
fault_here : {L : Type 0} (all nodes : List (NodeSpec L)) (n : NodeSpec L) (number : ℕ) (fault : GraphFault)
    → node_fault all number n ≡ Some fault → LowestFrom all (n ∷ nodes) number fault
fault_here {L} all nodes n number fault e = record {
  k = 0;
  node = n;
  there = refl;
  fault_is = λ at i. let here : at ≡ number = omega arith in subst (λ (m : ℕ). node_fault all m n ≡ Some fault) (sym here) e;
  lower = λ j at m i below there. absurd (omega arith);
}

lower_by_one : {L : Type 0} (all nodes : List (NodeSpec L)) (n : NodeSpec L) (number k : ℕ) → node_fault all number n ≡ None
    → ((j at : ℕ) (m : NodeSpec L) → at ≡ (number + 1) + j → j < k → slice_get nodes j ≡ Some m → node_fault all at m ≡ None)
    → (j at : ℕ) (m : NodeSpec L) → at ≡ number + j → j < suc k → slice_get (n ∷ nodes) j ≡ Some m → node_fault all at m ≡ None
lower_by_one {L} all nodes n number k e lower zero at m i less there =
    let same : n ≡ m = cc in
    let here : at ≡ number = omega arith in
    subst (λ (x : NodeSpec L). node_fault all at x ≡ None) same (subst (λ (a : ℕ). node_fault all a n ≡ None) (sym here) e)
lower_by_one all nodes n number k e lower (suc j) at m i less there = lower j at m (omega arith) (omega arith) there

-- a fault behind a node without one
fault_behind : {L : Type 0} (all nodes : List (NodeSpec L)) (n : NodeSpec L) (number : ℕ) (fault : GraphFault)
    → node_fault all number n ≡ None → LowestFrom all nodes (number + 1) fault → LowestFrom all (n ∷ nodes) number fault
fault_behind {L} all nodes n number fault e low = record {
  k = suc low.k;
  node = low.node;
  there = low.there;
  fault_is = λ at i. low.fault_is at (omega arith);
  lower = lower_by_one all nodes n number low.k e low.lower;
}

lowest_from : {L : Type 0} (all nodes : List (NodeSpec L)) (number : ℕ) (fault : GraphFault)
    → fault_from all number nodes ≡ Some fault → LowestFrom all nodes number fault
lowest_from all [] number fault h = absurd cc
lowest_from {L} all (n ∷ nodes) number fault h =
    elim (node_fault all number n) as (λ (f : Option GraphFault). node_fault all number n ≡ f → first f (fault_from all (number + 1) nodes) ≡ Some fault → LowestFrom all (n ∷ nodes) number fault) [
      | Some f ↦ λ e is. fault_here all nodes n number fault (e ∙ is)
      | None ↦ λ e is. fault_behind all nodes n number fault e (lowest_from all nodes (number + 1) fault is)
    ] refl h

pub lowest_fault : {L : Type 0} (nodes : List (NodeSpec L)) (fault : GraphFault) → first_graph_fault nodes ≡ Some fault → IsLowestFault nodes fault
lowest_fault {L} nodes fault h =
    let low = lowest_from nodes nodes 0 fault h in
    record {
      number = low.k;
      node = low.node;
      there = low.there;
      fault_is = low.fault_is low.k (omega arith);
      lower = λ k n less there. low.lower k k n (omega arith) less there;
    }

-- the four questions of a node without a fault
record Quiet (a b c d : Bool) : Type 0 where
  few : a ≡ false
  chain : b ≡ false
  parents : c ≡ false
  kind : d ≡ false

quiet : (a b c d : Bool) (w x y z : GraphFault)
    → (if a then Some w else (if b then Some x else (if c then Some y else (if d then Some z else None)))) ≡ None → Quiet a b c d
quiet true b c d w x y z h = absurd cc
quiet false true c d w x y z h = absurd cc
quiet false false true d w x y z h = absurd cc
quiet false false false true w x y z h = absurd cc
quiet false false false false w x y z h = record { few = refl; chain = refl; parents = refl; kind = refl }

-- ---- graphs

-- what no parent passes, this one doesn't
parent_fails : {L : Type 0} (test : Spec L → Bool) (nodes : List (NodeSpec L)) (parents : List ℕ) (p : ℕ) (parent : NodeSpec L)
    → some_parent test nodes parents ≡ false → Contains parents p → slice_get nodes p ≡ Some parent → test parent.spec ≡ false
parent_fails {L} test nodes parents p parent none has there =
    ap (λ (o : Option (NodeSpec L)). option_map_or test (option_map (λ n. n.spec) o) false) (sym there) ∙ any_none (λ q. option_map_or test (spec_at nodes q) false) parents p has none

-- who gives something and nothing else gives what is taken
flow_is : (taken : Flow) (given : Option Flow) → is_none given ≡ false → differs taken given ≡ false → given ≡ Some taken
flow_is taken None some same = absurd cc
flow_is Points (Some Points) some same = refl
flow_is Batches (Some Batches) some same = refl
flow_is Points (Some Batches) some same = absurd cc
flow_is Batches (Some Points) some same = absurd cc

stands_no_stream : {L : Type 0} (child parent : Spec L) → cannot_stand child parent ≡ false → is_stream child ≡ false
stands_no_stream (Stream dbrps) parent h = absurd cc
stands_no_stream child parent h = refl

-- a node that isn't the stream has a parent
some_fit : {L : Type 0} (n : ℕ) (spec : Spec L) → is_fit n spec ≡ true → 0 < n
some_fit n (Union rename) h = ltb-true 0 n h
some_fit n (Join join) h = ltb-true 0 n (left_of _ _ (left_of _ _ h))
some_fit n (Eval eval) h = let one : n ≡ 1 = eqb-true n 1 (left_of _ _ h) in omega arith
some_fit n spec h = let one : n ≡ 1 = eqb-true n 1 h in omega arith

-- it has one that stands before it
first_parent : {L : Type 0} (nodes : List (NodeSpec L)) (number : ℕ) (node : NodeSpec L) → Behind number node → slice_get nodes number ≡ Some node
    → (p : ℕ) × (parent : NodeSpec L) × Contains node.parents p × (slice_get nodes p ≡ Some parent)
first_parent {L} nodes number node behind there =
    let p : ℕ = get_or node.parents 0 0 in
    let some : 0 < length node.parents = some_fit _ node.spec behind.fits in
    let same : get_or node.parents 0 p ≡ p = get_or_default node.parents 0 p 0 some in
    let has : Contains node.parents p = (0, some, same) in
    let below : p < number = ltb-true p number (all_pass (λ q. nat_lt q number) node.parents p has behind.earlier) in
    let within : number < length nodes = slice_get_within nodes number node there in
    (p, get_or nodes p node, has, slice_get-get_or nodes p node (omega arith))

pub hangs_together : {L : Type 0} (nodes : List (NodeSpec L)) (number : ℕ) (node : NodeSpec L)
    → IsGraph nodes → 0 < number → slice_get nodes number ≡ Some node → HangsTogether nodes number node
hangs_together {L} nodes number node graph later there =
    let behind : Behind number node = node_behind nodes number node graph.shape later there in
    let none : Quiet _ _ _ _ = quiet _ _ _ _ _ _ _ _ (no_fault nodes graph.faultless number node there) in
    let stands = (λ (p : ℕ) (parent : NodeSpec L) (has : Contains node.parents p) (is : slice_get nodes p ≡ Some parent).
    parent_fails (cannot_stand node.spec) nodes node.parents p parent (neither_left _ _ none.parents) has is) in
    let one = first_parent nodes number node behind there in
    record {
      within = leb-false NODE_LIMIT number none.few;
      fits = behind.fits;
      few = ltb-false PARENT_LIMIT (length node.parents) (neither_right _ _ none.parents);
      no_stream = stands_no_stream node.spec one.1.spec (stands one.0 one.1 one.2 one.3);
      earlier = λ p has. ltb-true p number (all_pass (λ q. nat_lt q number) node.parents p has behind.earlier);
      stands = stands;
      flows = λ p parent has is. flow_is (takes node.spec) (gives parent.spec)
          (parent_fails ends_chain nodes node.parents p parent none.chain has is)
          (parent_fails (is_wrong_kind node.spec) nodes node.parents p parent none.kind has is);
    }

no_parent : (parents : List ℕ) → nat_eq (length parents) 0 ≡ true → parents ≡ []
no_parent [] h = refl
no_parent (p ∷ parents) h = absurd (omega (arith, eqb-true (length (p ∷ parents)) 0 h))

pub begins_with_stream : {L : Type 0} (nodes : List (NodeSpec L)) → IsGraph nodes → BeginsWithStream nodes
begins_with_stream {L} nodes graph = go nodes graph.shape
  where
    go : (all : List (NodeSpec L)) → has_shape all ≡ true → BeginsWithStream all
    go [] h = absurd cc
    go (node ∷ rest) h =
        let front : (is_stream node.spec && nat_eq (length node.parents) 0) ≡ true = left_of _ _ h in
        record { node = node; there = refl; stream = left_of _ _ front; parents = no_parent node.parents (right_of _ _ front) }
