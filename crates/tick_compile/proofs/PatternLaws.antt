-- A pattern is a fault only where it is the refused one.
use Rattle.std.proofs.Common.{◌≡◌, ◌&&◌, ℕ, Bool, true, false, not, cond, List, [], ◌∷◌, map, Option, Some, None, Result, Ok, Err, ⊎_elim, inl, inr, ap, ◌∙◌}
use Rattle.std.specs.Prelude.{◌⊎◌}
use Rattle.kap_base.specs.declared.expr.Lit.TheVariants as lits
use Rattle.kap_base.specs.Tree.{Tree, LitTree, RefTree, NameTree, CallTree, GroupTree, NegTree, NotTree, BinTree}
use Rattle.kap_base.specs.Words.{◌>>=◌}
use Rattle.lambda_types.specs.declared.fault.TypeFault.{TypeFault}
use Rattle.lambda_types.specs.declared.fault.TypeFault.TheVariants.{Mismatch, Pattern}
use Rattle.lambda_types.specs.Faults.{Refusal, first, first_fault}
use Rattle.lambda_types.specs.FirstFault.{IsRefusedAt as IsRefusedTree}
use Rattle.lambda_types.specs.Sets.{types_of}
use Rattle.lambda_types.proofs.FirstLaws as walks
use Rattle.task_graph.specs.declared.graph.GraphFault.{GraphFault}
use Rattle.task_graph.specs.declared.spec.NodeSpec.{NodeSpec}
use Rattle.task_graph.specs.Graphs.{first_graph_fault}
use Rattle.tick_parser.specs.Trees.{StmtTree}
use Rattle.tick_vars.specs.Binding.{bound_of}
use Rattle.tick_vars.specs.declared.fault.VarFault.{VarFault}
use Rattle.tick_vars.specs.Nodes.{ArgTree, LitArg, StarArg, LambdaArg, NodeArg, BoundTree, NodeTree, PropTree}
use Rattle.tick_compile.specs.declared.node_fault.NodeFault.{NodeFault}
use Rattle.tick_compile.specs.declared.node_fault.NodeFault.TheVariants as nodes
use Rattle.tick_compile.specs.declared.script_fault.ScriptFault.TheVariants.{Lambda, NoFrom}
use Rattle.tick_compile.specs.Nodes.{specs_from}
use Rattle.tick_compile.specs.declared.script_fault.ScriptFault.{ScriptFault}
use Rattle.tick_compile.specs.declared.tasks.Task.{Task}
use Rattle.tick_compile.specs.Scripts.{IsRefusedPattern, Refuses, named, task_of}
use Rattle.tick_compile.specs.Tasks.{compiled, finished, has_from, of_node, raised, typed, well_joined, with_from}
use Rattle.tick_compile.specs.Typing.{arg_fault, firsts, lambda_fault, node_of, node_type_fault, prop_fault, takes_conditions, type_fault}

-- each refused pattern of which the fault speaks is the one that is refused
abbrev Told : Option Refusal → Option TypeFault → Type 0
Told refused o = (at : ℕ) → o ≡ Some (Pattern at) → IsRefusedPattern refused at

either_first : (a b : Option TypeFault) (f : TypeFault) → first a b ≡ Some f → (a ≡ Some f) ⊎ (b ≡ Some f)
either_first (Some g) b f is = inl is
either_first None b f is = inr is

first_told : (refused : Option Refusal) (a b : Option TypeFault) → Told refused a → Told refused b → Told refused (first a b)
first_told refused a b p q at is = ⊎_elim (λ (l : a ≡ Some (Pattern at)). p at l) (λ (r : b ≡ Some (Pattern at)). q at r) (either_first a b (Pattern at) is)

tree_told : (refused : Option Refusal) (tree : Tree) (at : ℕ) → IsRefusedTree refused tree at → IsRefusedPattern refused at
tree_told refused (LitTree (lits.Regex text) place) at told = (text, told.0 ∙ ap (λ (p : ℕ). Some (record { text = text; at = p })) told.1)
tree_told refused (LitTree (lits.Int number) place) at told = elim told [ ]
tree_told refused (LitTree (lits.Dur span) place) at told = elim told [ ]
tree_told refused (LitTree (lits.Str text) place) at told = elim told [ ]
tree_told refused (LitTree (lits.Bool truth) place) at told = elim told [ ]
tree_told refused (RefTree name place) at told = elim told [ ]
tree_told refused (NameTree name place) at told = elim told [ ]
tree_told refused (CallTree name args place) at told = elim told [ ]
tree_told refused (GroupTree inner place) at told = elim told [ ]
tree_told refused (NegTree operand place) at told = elim told [ ]
tree_told refused (NotTree operand place) at told = elim told [ ]
tree_told refused (BinTree op left right place) at told = elim told [ ]

body_told : (refused : Option Refusal) (body : Tree) → Told refused (first_fault refused body)
body_told refused body at is = let f = walks.is_first refused body (Pattern at) is in tree_told refused f.part.tree at f.breaks.0

mismatch_told : (refused : Option Refusal) (test : Bool) (place : ℕ) → Told refused (cond test (Some (Mismatch place)) None)
mismatch_told refused true place at is = absurd cc
mismatch_told refused false place at is = absurd cc

lambda_told : (refused : Option Refusal) (condition : Bool) (body : Tree) (place : ℕ) → Told refused (lambda_fault refused condition body place)
lambda_told refused condition body place =
    first_told refused (first_fault refused body) _ (body_told refused body) (mismatch_told refused (condition && not (types_of body).truth) place)

arg_told : (refused : Option Refusal) (condition : Bool) (arg : ArgTree) → Told refused (arg_fault refused condition arg)
arg_told refused condition (LitArg lit place) at is = absurd cc
arg_told refused condition (StarArg place) at is = absurd cc
arg_told refused condition (LambdaArg body place) at is = lambda_told refused condition body place at is
arg_told refused condition (NodeArg number place) at is = absurd cc

all_told : {A : Type 0} (refused : Option Refusal) (fault : A → Option TypeFault) → ((x : A) → Told refused (fault x)) → (xs : List A) → Told refused (firsts fault xs)
all_told refused fault each [] at is = absurd cc
all_told refused fault each (x ∷ xs) at is = first_told refused (fault x) (firsts fault xs) (each x) (all_told refused fault each xs) at is

prop_told : (refused : Option Refusal) (condition : Bool) (prop : PropTree) → Told refused (prop_fault refused condition prop)
prop_told refused condition prop = all_told refused (arg_fault refused condition) (arg_told refused condition) prop.args

node_told : (refused : Option Refusal) (node : NodeTree) → Told refused (node_type_fault refused node)
node_told refused node =
    first_told refused (firsts (arg_fault refused (takes_conditions node.kind)) node.args) (firsts (prop_fault refused (takes_conditions node.kind)) node.props)
    (all_told refused (arg_fault refused (takes_conditions node.kind)) (arg_told refused (takes_conditions node.kind)) node.args)
    (all_told refused (prop_fault refused (takes_conditions node.kind)) (prop_told refused (takes_conditions node.kind)) node.props)

type_told : (refused : Option Refusal) (nodes : List NodeTree) → Told refused (type_fault refused nodes)
type_told refused nodes = all_told refused (node_type_fault refused) (node_told refused) nodes

-- a fault of compiling is that of its first step that has one
either_step : {A B E : Type 0} (r : Result A E) (f : A → Result B E) (e : E) → (r >>= f) ≡ Err e → (r ≡ Err e) ⊎ ((x : A) × (f x ≡ Err e))
either_step (Ok x) f e is = inr (x, is)
either_step (Err d) f e is = inl (let same : d ≡ e = cc in ap Err same)

no_node_fault : (f : NodeFault) (t : TypeFault) → of_node f ≡ Lambda t → ⊥
no_node_fault (nodes.NoKind at) t is = absurd cc
no_node_fault (nodes.Property at) t is = absurd cc
no_node_fault (nodes.Argument at) t is = absurd cc
no_node_fault (nodes.Handler at) t is = absurd cc
no_node_fault (nodes.Template at fault) t is = absurd cc
no_node_fault nodes.NoMemory t is = absurd cc

no_raised : {A : Type 0} (r : Result A NodeFault) (t : TypeFault) → raised r ≡ Err (Lambda t) → ⊥
no_raised (Ok x) t is = absurd cc
no_raised (Err f) t is = no_node_fault f t cc

typed_fault : (o : Option TypeFault) (t : TypeFault) → typed o ≡ Err (Lambda t) → o ≡ Some t
typed_fault None t is = absurd cc
typed_fault (Some f) t is = let same : f ≡ t = cc in ap Some same

joined_no : (o : Option GraphFault) (t : TypeFault) → well_joined o ≡ Err (Lambda t) → ⊥
joined_no None t is = absurd cc
joined_no (Some f) t is = absurd cc

from_no : {A : Type 0} (b : Bool) (x : A) (t : TypeFault) → cond b (Ok x) (Err NoFrom) ≡ Err (Lambda t) → ⊥
from_no true x t is = absurd cc
from_no false x t is = absurd cc

no_finished : (specs : List (NodeSpec Tree)) (t : TypeFault) → finished specs ≡ Err (Lambda t) → ⊥
no_finished specs t is = ⊎_elim
    (λ (l : well_joined (first_graph_fault specs) ≡ Err (Lambda t)). joined_no (first_graph_fault specs) t l)
    (λ (r : (x : Unit {0}) × (with_from specs ≡ Err (Lambda t))). from_no (has_from specs) specs t r.1)
    (either_step (well_joined (first_graph_fault specs)) (λ _. with_from specs) (Lambda t) is)

compiled_fault : (refused : Option Refusal) (bind : BoundTree) (t : TypeFault) → compiled refused bind ≡ Err (Lambda t) → type_fault refused bind.nodes ≡ Some t
compiled_fault refused bind t is =
    let read = raised (specs_from bind.dbrps [] (map node_of bind.nodes)) in
    ⊎_elim
    (λ (l : read ≡ Err (Lambda t)). absurd (no_raised (specs_from bind.dbrps [] (map node_of bind.nodes)) t l))
    (λ (r : (specs : List (NodeSpec Tree)) × ((typed (type_fault refused bind.nodes) >>= λ _. finished specs) ≡ Err (Lambda t))). ⊎_elim
    (λ (l : typed (type_fault refused bind.nodes) ≡ Err (Lambda t)). typed_fault (type_fault refused bind.nodes) t l)
    (λ (q : (x : Unit {0}) × (finished r.0 ≡ Err (Lambda t))). absurd (no_finished r.0 t q.1))
    (either_step (typed (type_fault refused bind.nodes)) (λ _. finished r.0) (Lambda t) r.1))
    (either_step read (λ specs. typed (type_fault refused bind.nodes) >>= λ _. finished specs) (Lambda t) is)

-- the task of these nodes, which sees what the script names
abbrev task_in : BoundTree → List (NodeSpec Tree) → Task
task_in made nodes = record { graph = nodes; dbrps = made.dbrps }

no_task : (task : Task) (t : TypeFault) → ◌≡◌ {A = Result Task ScriptFault} (Ok task) (Err (Lambda t)) → ⊥
no_task task t is = absurd cc

no_name : {A : Type 0} (r : Result A VarFault) (t : TypeFault) → named r ≡ Err (Lambda t) → ⊥
no_name (Ok x) t is = absurd cc
no_name (Err f) t is = absurd cc

script_told : (refused : Option Refusal) (script : List StmtTree) (at : ℕ) → task_of refused script ≡ Err (Lambda (Pattern at)) → IsRefusedPattern refused at
script_told refused script at is = ⊎_elim
    (λ (l : named (bound_of script) ≡ Err (Lambda (Pattern at))). absurd (no_name (bound_of script) (Pattern at) l))
    (λ (r : (made : BoundTree) × ((compiled refused made >>= λ nodes. Ok (task_in made nodes)) ≡ Err (Lambda (Pattern at)))). ⊎_elim
    (λ (l : compiled refused r.0 ≡ Err (Lambda (Pattern at))). type_told refused r.0.nodes at (compiled_fault refused r.0 (Pattern at) l))
    (λ (q : (nodes : List (NodeSpec Tree)) × (Ok (task_in r.0 nodes) ≡ Err (Lambda (Pattern at)))). absurd (no_task (task_in r.0 q.0) (Pattern at) q.1))
    (either_step (compiled refused r.0) (λ nodes. Ok (task_in r.0 nodes)) (Lambda (Pattern at)) r.1))
    (either_step (named (bound_of script)) (λ made. compiled refused made >>= λ nodes. Ok (task_in made nodes)) (Lambda (Pattern at)) is)

-- a text is refused for a pattern only where that is the refused one
pub pattern_is_refused : (refused : Option Refusal) (text : List ℕ) (at : ℕ) → Refuses refused text (Lambda (Pattern at)) → IsRefusedPattern refused at
pattern_is_refused refused text at (inl misread) = elim misread [ ]
pattern_is_refused refused text at (inr written) = script_told refused written.script at written.is
