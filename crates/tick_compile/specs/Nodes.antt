-- A task's nodes, from those of its script.
use Rattle.std.specs.Prelude.{ℕ, zero, suc, List, [], ◌∷◌, ◌++◌, if◌then◌else◌, length, take, Result, Ok}
use Rattle.std.specs.Fmt.{decimal}
use Rattle.kap_base.specs.declared.dbrp.Dbrp.{Dbrp}
use Rattle.kap_base.specs.Words.{◌>>=◌}
use Rattle.task_graph.specs.Edges.{takes_nodes}
use Rattle.task_graph.specs.declared.spec.NodeSpec.{NodeSpec}
use Rattle.task_graph.specs.declared.spec.Spec.{Spec}
use Rattle.task_graph.specs.declared.spec.Spec.TheVariants as specs
use Rattle.tick_compile.specs.declared.node_fault.NodeFault.{NodeFault}
use Rattle.tick_compile.specs.declared.given.Given.{Given}
use Rattle.tick_compile.specs.declared.given.Given.TheVariants as givens
use Rattle.tick_compile.specs.declared.given.Node.{Node}
use Rattle.tick_compile.specs.Rows.{no_props}
use Rattle.tick_compile.specs.Kinds.{spec_of}

-- the stream has what its task sees, and no properties
abbrev pub stream_spec : {L : Type 0} → List Dbrp → Node L → Result (Spec L) NodeFault
stream_spec dbrps node = no_props node.props >>= λ _. Ok (specs.Stream dbrps)

-- the nodes among arguments
abbrev pub nodes_in : {L : Type 0} → List (Given L) → List ℕ
nodes_in [] = []
nodes_in (givens.Node number ∷ args) = number ∷ nodes_in args
nodes_in (_ ∷ args) = nodes_in args

-- the node under which a node stands, and those that it is given
abbrev pub nodes_above : {L : Type 0} → Node L → List ℕ
nodes_above node = node.parent ∷ nodes_in node.args

-- the parents of a node that is given this: all of them, or the first alone where it takes no nodes
abbrev pub parents_of : {L : Type 0} → Spec L → List ℕ → List ℕ
parents_of spec above = if takes_nodes spec then above else take 1 above

-- a node's name: its kind and its number
abbrev pub node_name : List ℕ → ℕ → List ℕ
node_name kind number = kind ++ decimal number

-- node 0 is the stream, without parents
abbrev pub stream_node : {L : Type 0} → List Dbrp → Node L → Result (NodeSpec L) NodeFault
stream_node dbrps node =
    stream_spec dbrps node >>= λ spec. Ok (record { name = node_name node.kind 0; spec = spec; parents = [] })

-- a node of this number that isn't the stream
abbrev pub other_node : {L : Type 0} → ℕ → Node L → Result (NodeSpec L) NodeFault
other_node number node = spec_of node
    >>= λ spec. Ok
    (record { name = node_name node.kind number; spec = spec; parents = parents_of spec (nodes_above node) })

-- the node of this number
abbrev pub node_spec : {L : Type 0} → List Dbrp → ℕ → Node L → Result (NodeSpec L) NodeFault
node_spec dbrps zero node = stream_node dbrps node
node_spec dbrps (suc n) node = other_node (suc n) node

-- all nodes in order, or the first fault, behind those that are read
abbrev pub specs_from : {L : Type 0} → List Dbrp → List (NodeSpec L) → List (Node L)
    → Result (List (NodeSpec L)) NodeFault
specs_from dbrps read [] = Ok read
specs_from dbrps read (node ∷ nodes) =
    node_spec dbrps (length read) node >>= λ spec. specs_from dbrps (read ++ spec ∷ []) nodes
