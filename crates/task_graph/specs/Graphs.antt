-- Which nodes are a graph, and the first fault of those that are none.
use Rattle.std.specs.Prelude.{◌≡◌, ℕ, ◌<◌, ◌≤◌, Bool, true, false, not, ◌&&◌, ◌||◌, ◌+◌, if◌then◌else◌, List, [], ◌∷◌, length, Option, Some, None, slice_get, Contains, bytes_eq, nat_eq, nat_lt, nat_le, option_map, IsTrue}
use Rattle.std.specs.List.{list_any, list_all}
use Rattle.std.specs.Option.{option_map_or}
use Rattle.task_graph.specs.declared.graph.GraphFault.{GraphFault}
use Rattle.task_graph.specs.declared.graph.GraphFault.TheVariants.{TooManyNodes, Chain, Parents, Kind}
use Rattle.task_graph.specs.declared.graph.TheConstants.{NODE_LIMIT, PARENT_LIMIT}
use Rattle.task_graph.specs.declared.spec.NodeSpec.{NodeSpec}
use Rattle.task_graph.specs.declared.spec.Spec.{Spec}
use Rattle.task_graph.specs.declared.spec.Spec.TheVariants.{Eval, Union, Join}
use Rattle.task_graph.specs.Edges.{gives, takes, is_stream, ends_chain, cannot_stand, is_wrong_kind}

-- ---- what nodes are handed in as

-- no text stands twice
abbrev pub are_different : List (List ℕ) → Bool
are_different [] = true
are_different (x ∷ xs) = not (list_any (bytes_eq x) xs) && are_different xs

-- What a node is given fits so many parents: a union has one or more, a join one for each of its prefixes, which
-- differ, and any other node one. And an `eval` has a lambda.
abbrev pub is_fit : {L : Type 0} → ℕ → Spec L → Bool
is_fit parents (Union rename) = nat_lt 0 parents
is_fit parents (Join join) = nat_lt 0 parents && nat_eq (length join.prefixes) parents && are_different join.prefixes
is_fit parents (Eval eval) = nat_eq parents 1 && nat_lt 0 (length eval.results)
is_fit parents spec = nat_eq parents 1

-- each node from this number on fits its parents, which are earlier nodes
abbrev pub are_behind : {L : Type 0} → ℕ → List (NodeSpec L) → Bool
are_behind number [] = true
are_behind number (node ∷ nodes) =
    is_fit (length node.parents) node.spec && list_all (λ p. nat_lt p number) node.parents
    && are_behind (number + 1) nodes

-- node 0 is the stream, which has no parent
abbrev pub has_shape : {L : Type 0} → List (NodeSpec L) → Bool
has_shape [] = false
has_shape (node ∷ nodes) = is_stream node.spec && nat_eq (length node.parents) 0 && are_behind 1 nodes

-- ---- faults

-- what the node of this number is given
abbrev pub spec_at : {L : Type 0} → List (NodeSpec L) → ℕ → Option (Spec L)
spec_at nodes number = option_map (λ n. n.spec) (slice_get nodes number)

-- some parent of a node passes a test
abbrev pub some_parent : {L : Type 0} → (Spec L → Bool) → List (NodeSpec L) → List ℕ → Bool
some_parent test nodes parents = list_any (λ p. option_map_or test (spec_at nodes p) false) parents

-- the fault of the node of this number
abbrev pub node_fault : {L : Type 0} → List (NodeSpec L) → ℕ → NodeSpec L → Option GraphFault
node_fault nodes number node =
    if nat_le NODE_LIMIT number then Some TooManyNodes else (
    if some_parent ends_chain nodes node.parents then Some (Chain number) else (
    if some_parent (cannot_stand node.spec) nodes node.parents || nat_lt PARENT_LIMIT (length node.parents)
    then Some (Parents number) else (
    if some_parent (is_wrong_kind node.spec) nodes node.parents then Some (Kind number) else None)))

-- the first of two faults
abbrev pub first : Option GraphFault → Option GraphFault → Option GraphFault
first (Some fault) later = Some fault
first None later = later

-- the fault of the lowest node that has one, from this number on
abbrev pub fault_from : {L : Type 0} → List (NodeSpec L) → ℕ → List (NodeSpec L) → Option GraphFault
fault_from nodes number [] = None
fault_from nodes number (node ∷ rest) = first (node_fault nodes number node) (fault_from nodes (number + 1) rest)

-- the fault of the lowest node that has one
abbrev pub first_graph_fault : {L : Type 0} → List (NodeSpec L) → Option GraphFault
first_graph_fault nodes = fault_from nodes 0 nodes

-- the same as a relation: some node has this fault, and no lower one has any
pub record IsLowestFault {L : Type 0} (nodes : List (NodeSpec L)) (fault : GraphFault) : Type 0 where
  pub number : ℕ
  pub node : NodeSpec L
  pub there : slice_get nodes number ≡ Some node
  pub fault_is : node_fault nodes number node ≡ Some fault
  pub lower : (k : ℕ) (n : NodeSpec L) → k < number → slice_get nodes k ≡ Some n → node_fault nodes k n ≡ None

-- no node has a fault
abbrev pub IsFaultless : {L : Type 0} → List (NodeSpec L) → Type 0
IsFaultless {L} nodes = (k : ℕ) (n : NodeSpec L) → slice_get nodes k ≡ Some n → node_fault nodes k n ≡ None

-- ---- graphs

-- what holds of a graph
pub record IsGraph {L : Type 0} (nodes : List (NodeSpec L)) : Type 0 where
  pub shape : IsTrue (has_shape nodes)
  pub faultless : first_graph_fault nodes ≡ None

-- what holds of its first node
pub record BeginsWithStream {L : Type 0} (nodes : List (NodeSpec L)) : Type 0 where
  pub node : NodeSpec L
  pub there : slice_get nodes 0 ≡ Some node
  pub stream : IsTrue (is_stream node.spec)
  pub parents : node.parents ≡ []

-- what holds of each other node
pub record HangsTogether {L : Type 0} (nodes : List (NodeSpec L)) (number : ℕ) (node : NodeSpec L) : Type 0 where
  pub within : number < NODE_LIMIT
  pub fits : IsTrue (is_fit (length node.parents) node.spec)
  pub few : length node.parents ≤ PARENT_LIMIT
  pub no_stream : is_stream node.spec ≡ false
  pub earlier : (p : ℕ) → Contains node.parents p → p < number
  pub stands : (p : ℕ) (parent : NodeSpec L) → Contains node.parents p → slice_get nodes p ≡ Some parent
      → cannot_stand node.spec parent.spec ≡ false
  pub flows : (p : ℕ) (parent : NodeSpec L) → Contains node.parents p → slice_get nodes p ≡ Some parent
      → gives parent.spec ≡ Some (takes node.spec)
