-- Compiling as its calls make it, and the shape of what a bound script's nodes are read as.
use Rattle.std.proofs.Common.{◌≡◌, ◌&&◌, ◌<◌, ◌+◌, ℕ, zero, suc, Bool, true, false, cond, List, [], ◌∷◌, ◌++◌, length, map, Result, Ok, refl, sym, ap, ◌∙◌, subst, nat_lt, arith, length-append}
use Rattle.std.specs.Prelude.{IfOk, IsTrue, take}
use Rattle.std.specs.List.{list_all}
use Rattle.std.proofs.lemmas.Bool.Decides.{nat_tests}
use Rattle.kap_base.proofs.TestLaws.{bind_ok, both, first_of, second_of}
use Rattle.kap_base.specs.Tree.{Tree}
use Rattle.kap_base.specs.declared.dbrp.Dbrp.{Dbrp}
use Rattle.task_graph.specs.declared.spec.NodeSpec.{NodeSpec}
use Rattle.task_graph.specs.declared.spec.Spec.{Spec}
use Rattle.task_graph.specs.declared.spec.Spec.TheVariants.{Stream}
use Rattle.task_graph.specs.Edges.{takes_nodes}
use Rattle.task_graph.specs.Graphs.{are_behind, has_shape, is_fit}
use Rattle.tick_vars.specs.Nodes.{ArgTree, LitArg, StarArg, LambdaArg, NodeArg, NodeTree, BoundTree}
use Rattle.tick_vars.specs.Binding.{stream_node}
use Rattle.tick_vars.specs.Law.{AllSettled, IsSettled, NodesSettled}
use Rattle.tick_compile.specs.declared.given.Node.{Node}
use Rattle.tick_compile.specs.declared.node_fault.NodeFault.{NodeFault}
use Rattle.tick_compile.specs.Kinds.{spec_of}
use Rattle.tick_compile.proofs.KindLaws.{IsRight, spec_right}
use Rattle.tick_compile.specs.Nodes.{node_name, node_spec, nodes_above, nodes_in, parents_of, specs_from, stream_spec}
use Rattle.tick_compile.specs.Rows.{no_props}
use Rattle.tick_compile.specs.Typing.{given_of, node_of}

-- a node behind so many fits its parents, all earlier
abbrev one_behind : {L : Type 0} → ℕ → NodeSpec L → Bool
one_behind number node = is_fit (length node.parents) node.spec && list_all (λ p. nat_lt p number) node.parents

more_behind : {L : Type 0} (number : ℕ) (nodes : List (NodeSpec L)) (node : NodeSpec L) (n : ℕ) → n ≡ number + length nodes → are_behind number nodes ≡ true → one_behind n node ≡ true → are_behind number (nodes ++ node ∷ []) ≡ true
more_behind number [] node n e behind one =
    let same : n ≡ number = omega (arith, e) in
    both (one_behind number node) true (subst (λ (m : ℕ). one_behind m node ≡ true) same one) refl
more_behind number (x ∷ nodes) node n e behind one =
    both (one_behind number x) (are_behind (number + 1) (nodes ++ node ∷ [])) (first_of (one_behind number x) (are_behind (number + 1) nodes) behind)
    (more_behind (number + 1) nodes node n (omega (arith, e)) (second_of (one_behind number x) (are_behind (number + 1) nodes) behind) one)

shape_more : {L : Type 0} (nodes : List (NodeSpec L)) (node : NodeSpec L) → has_shape nodes ≡ true → one_behind (length nodes) node ≡ true → has_shape (nodes ++ node ∷ []) ≡ true
shape_more [] node shape one = absurd cc
shape_more (x ∷ nodes) node shape one =
    both _ (are_behind 1 (nodes ++ node ∷ [])) (first_of _ (are_behind 1 nodes) shape)
    (more_behind 1 nodes node (length (x ∷ nodes)) (omega arith) (second_of _ (are_behind 1 nodes) shape) one)

args_below : (number : ℕ) (args : List ArgTree) → AllSettled number args → list_all (λ p. nat_lt p number) (nodes_in (map given_of args)) ≡ true
args_below number [] settled = refl
args_below number (LitArg lit at ∷ args) settled = args_below number args settled.1
args_below number (StarArg at ∷ args) settled = args_below number args settled.1
args_below number (LambdaArg body at ∷ args) settled = args_below number args settled.1
args_below number (NodeArg n at ∷ args) settled =
    let lt : n < number = settled.0 in
    both (nat_lt n number) _ (grind (arith, nat_tests)) (args_below number args settled.1)

-- what is known of a node that isn't the stream
record IsOther (node : Node Tree) (spec : NodeSpec Tree) : Type 0 where
  parents : spec.parents ≡ parents_of spec.spec (nodes_above node)
  stands : IsRight node spec.spec

other : (dbrps : List Dbrp) (n : ℕ) (node : Node Tree) (spec : NodeSpec Tree) → 0 < n → node_spec dbrps n node ≡ Ok spec → IsOther node spec
other dbrps zero node spec lt is = absurd (omega (arith, lt))
other dbrps (suc n) node spec lt is =
    let parts = bind_ok (spec_of node) _ spec is in
    let stands : IsRight node parts.0 = subst (λ (r : Result (Spec Tree) NodeFault). IfOk r (IsRight node)) parts.1 (spec_right node) in
    let made : record { name = node_name node.kind (suc n); spec = parts.0; parents = parents_of parts.0 (nodes_above node) } ≡ spec = cc (parts.2) in
    subst (λ (s : NodeSpec Tree). IsOther node s) made (record { parents = refl; stands = stands })

-- all, or the first alone
fewer_below : (test : ℕ → Bool) (b : Bool) (p : ℕ) (ps : List ℕ) → list_all test (p ∷ ps) ≡ true → list_all test (cond b (p ∷ ps) (take 1 (p ∷ ps))) ≡ true
fewer_below test true p ps all = all
fewer_below test false p ps all = both (test p) true (first_of (test p) (list_all test ps) all) refl

node_behind : (dbrps : List Dbrp) (number : ℕ) (node : NodeTree) (spec : NodeSpec Tree) → 0 < number → node.parent < number → AllSettled number node.args → node_spec dbrps number (node_of node) ≡ Ok spec → one_behind number spec ≡ true
node_behind dbrps number node spec some parent args is =
    let known = other dbrps number (node_of node) spec some is in
    let first : nat_lt node.parent number ≡ true = grind (arith, nat_tests) in
    let above : list_all (λ p. nat_lt p number) (nodes_above (node_of node)) ≡ true = both (nat_lt node.parent number) _ first (args_below number node.args args) in
    let all = fewer_below (λ p. nat_lt p number) (takes_nodes spec.spec) node.parent (nodes_in (map given_of node.args)) above in
    subst (λ (ps : List ℕ). (is_fit (length ps) spec.spec && list_all (λ p. nat_lt p number) ps) ≡ true) (sym known.parents)
    (both (is_fit (length (parents_of spec.spec (nodes_above (node_of node)))) spec.spec) _ known.stands all)

all_shaped : (dbrps : List Dbrp) (count : ℕ) (nodes : List NodeTree) (read : List (NodeSpec Tree)) (number : ℕ) → length read ≡ number → 0 < number → has_shape read ≡ true → NodesSettled count number nodes
    → (specs : List (NodeSpec Tree)) → specs_from dbrps read (map node_of nodes) ≡ Ok specs → has_shape specs ≡ true
all_shaped dbrps count [] read number len some shape settled specs is =
    let same : read ≡ specs = cc in subst (λ (s : List (NodeSpec Tree)). has_shape s ≡ true) same shape
all_shaped dbrps count (node ∷ nodes) read number len some shape settled specs is =
    let parts = bind_ok (node_spec dbrps (length read) (node_of node)) (λ spec. specs_from dbrps (read ++ spec ∷ []) (map node_of nodes)) specs is in
    let at_number : node_spec dbrps number (node_of node) ≡ Ok parts.0 = subst (λ (n : ℕ). node_spec dbrps n (node_of node) ≡ Ok parts.0) len parts.1 in
    let behind = node_behind dbrps number node parts.0 some settled.0 settled.1 at_number in
    let longer : length (read ++ parts.0 ∷ []) ≡ number + 1 = length-append read (parts.0 ∷ []) ∙ ap (λ (n : ℕ). n + 1) len in
    all_shaped dbrps count nodes (read ++ parts.0 ∷ []) (number + 1) longer (omega arith)
    (shape_more read parts.0 shape (subst (λ (n : ℕ). one_behind n parts.0 ≡ true) (sym len) behind)) settled.3 specs parts.2

stream_shape : (dbrps : List Dbrp) (node : Node Tree) (spec : NodeSpec Tree) → node_spec dbrps 0 node ≡ Ok spec → has_shape (spec ∷ []) ≡ true
stream_shape dbrps node spec is =
    let outer = bind_ok (stream_spec dbrps node) _ spec is in
    let inner = bind_ok (no_props node.props) _ outer.0 outer.1 in
    let same : Stream dbrps ≡ outer.0 = cc (inner.2) in
    let made : record { name = node_name node.kind 0; spec = outer.0; parents = [] } ≡ spec = cc (outer.2) in
    subst (λ (s : NodeSpec Tree). has_shape (s ∷ []) ≡ true) made (subst (λ (k : Spec Tree). has_shape (record { name = node_name node.kind 0; spec = k; parents = [] } ∷ []) ≡ true) same refl)

-- what a bound script's nodes are read as has the shape of a graph
pub settled_shape : (bind : BoundTree) → IsSettled bind → (specs : List (NodeSpec Tree)) → specs_from bind.dbrps [] (map node_of bind.nodes) ≡ Ok specs → IsTrue (has_shape specs)
settled_shape bind settled specs is =
    let whole = subst (λ (nodes : List NodeTree). specs_from bind.dbrps [] (map node_of nodes) ≡ Ok specs) settled.nodes is in
    let parts = bind_ok (node_spec bind.dbrps 0 (node_of (record stream_node { props = settled.props }))) (λ spec. specs_from bind.dbrps ([] ++ spec ∷ []) (map node_of settled.others)) specs whole in
    let first = stream_shape bind.dbrps (node_of (record stream_node { props = settled.props })) parts.0 parts.1 in
    all_shaped bind.dbrps (length bind.nodes) settled.others (parts.0 ∷ []) 1 refl (omega arith) first settled.settled specs parts.2
