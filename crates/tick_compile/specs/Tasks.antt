-- The task of a bound script, or its first fault.
use Rattle.std.specs.Prelude.{ℕ, Bool, true, false, if◌then◌else◌, List, [], map, Option, Some, None, Result, Ok, Err}
use Rattle.std.specs.List.{list_any}
use Rattle.kap_base.specs.Tree.{Tree}
use Rattle.kap_base.specs.Words.{◌>>=◌}
use Rattle.kap_base.specs.declared.dbrp.Dbrp.{Dbrp}
use Rattle.lambda_types.specs.Faults.{Refusal, is_pattern, refusal_of}
use Rattle.lambda_types.specs.declared.fault.TypeFault.{TypeFault}
use Rattle.task_graph.specs.Graphs.{first_graph_fault}
use Rattle.task_graph.specs.declared.graph.GraphFault.{GraphFault}
use Rattle.task_graph.specs.declared.spec.NodeSpec.{NodeSpec}
use Rattle.task_graph.specs.declared.spec.Spec.{Spec}
use Rattle.task_graph.specs.declared.spec.Spec.TheVariants.{From}
use Rattle.tick_vars.specs.Nodes.{BoundTree, NodeTree}
use Rattle.tick_compile.specs.declared.script_fault.ScriptFault.{ScriptFault}
use Rattle.tick_compile.specs.declared.script_fault.ScriptFault.TheVariants.{NoKind, Property, Argument, Handler, Template, Lambda, Graph, NoFrom, NoMemory}
use Rattle.tick_compile.specs.declared.node_fault.NodeFault.{NodeFault}
use Rattle.tick_compile.specs.declared.node_fault.NodeFault.TheVariants as nodes
use Rattle.tick_compile.specs.Nodes.{specs_from}
use Rattle.tick_compile.specs.Typing.{node_of, type_fault}

-- the fault of a node as one of the script
abbrev pub of_node : NodeFault → ScriptFault
of_node (nodes.NoKind at) = NoKind at
of_node (nodes.Property at) = Property at
of_node (nodes.Argument at) = Argument at
of_node (nodes.Handler at) = Handler at
of_node (nodes.Template at fault) = Template at fault
of_node nodes.NoMemory = NoMemory

-- what is made of a node, or its fault as one of the script
abbrev pub raised : {A : Type 0} → Result A NodeFault → Result A ScriptFault
raised (Ok x) = Ok x
raised (Err fault) = Err (of_node fault)

-- the lambdas' types are in order, or their first fault
abbrev pub typed : Option TypeFault → Result (Unit {0}) ScriptFault
typed None = Ok tt
typed (Some fault) = Err (Lambda fault)

-- the nodes are a graph, or their first fault
abbrev pub well_joined : Option GraphFault → Result (Unit {0}) ScriptFault
well_joined None = Ok tt
well_joined (Some fault) = Err (Graph fault)

-- the node is a `from`
abbrev pub is_from : {L : Type 0} → Spec L → Bool
is_from (From from) = true
is_from _ = false

-- some node is a `from`
abbrev pub has_from : {L : Type 0} → List (NodeSpec L) → Bool
has_from specs = list_any (λ node. is_from node.spec) specs

-- the nodes, or the fault that there is no `from` among them
abbrev pub with_from : {L : Type 0} → List (NodeSpec L) → Result (List (NodeSpec L)) ScriptFault
with_from specs = if has_from specs then Ok specs else Err NoFrom

-- the nodes, or the first fault of them as a whole: of their graph, else that there is no `from`
abbrev pub finished : {L : Type 0} → List (NodeSpec L) → Result (List (NodeSpec L)) ScriptFault
finished specs = well_joined (first_graph_fault specs) >>= λ _. with_from specs

-- The nodes of the task of a bound script's nodes and of what it sees, where this pattern is refused, or its first
-- fault: of its nodes, each with its kind, its arguments and its properties; else of its lambdas' types in the same
-- order; else of its graph; else that there is no `from`.
abbrev pub compiled_nodes : Option Refusal → List Dbrp → List NodeTree → Result (List (NodeSpec Tree)) ScriptFault
compiled_nodes refused dbrps nodes =
    raised (specs_from dbrps [] (map node_of nodes)) >>= λ specs. typed (type_fault refused nodes)
    >>= λ _. finished specs

-- the nodes of the task of a bound script, where this pattern is refused, or its first fault
abbrev pub compiled : Option Refusal → BoundTree → Result (List (NodeSpec Tree)) ScriptFault
compiled refused «bound» = compiled_nodes refused «bound».dbrps «bound».nodes

-- the nodes have their first fault, or none
abbrev pub checked : {A : Type 0} → Result A ScriptFault → Result (Unit {0}) ScriptFault
checked specs = specs >>= λ _. Ok tt

-- the nodes of a task
abbrev pub NodeSpecTrees : Type 0
NodeSpecTrees = List (NodeSpec Tree)

-- the refused pattern of which a fault speaks, if it speaks of one, by the text that was refused last
abbrev pub refusal_in : ScriptFault → List ℕ → Option Refusal
refusal_in (Lambda fault) text = refusal_of fault text
refusal_in _ text = None

-- the fault is a refused pattern
abbrev pub is_refusal : ScriptFault → Bool
is_refusal (Lambda fault) = is_pattern fault
is_refusal _ = false
