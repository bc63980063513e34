-- What lambdas a script's nodes take, and the first fault of their types; nodes without the places of what they are
-- given.
use Rattle.std.specs.Prelude.{◌≡◌, ◌&&◌, ℕ, Bool, not, if◌then◌else◌, List, [], ◌∷◌, map, Option, Some, None, Result, Ok, Err, codes, bytes_eq}
use Rattle.kap_base.specs.Tree.{Tree}
use Rattle.lambda_types.specs.Builds.{AtMostOneMore}
use Rattle.lambda_types.specs.Faults.{FailsBy, IsCounted, Refusal, first, first_fault}
use Rattle.lambda_types.specs.Sets.{types_of}
use Rattle.lambda_types.specs.declared.fault.TypeFault.{TypeFault}
use Rattle.lambda_types.specs.declared.fault.TypeFault.TheVariants.{Mismatch}
use Rattle.tick_vars.specs.Nodes.{ArgTree, LitArg, StarArg, LambdaArg, NodeArg, PropTree, NodeTree}
use Rattle.tick_compile.specs.declared.given.Given.{Given}
use Rattle.tick_compile.specs.declared.given.Given.TheVariants as givens
use Rattle.tick_compile.specs.declared.given.Node.{Node}
use Rattle.tick_compile.specs.declared.given.Setting.{Setting}

-- The lambdas of every kind but `eval` are conditions. One of `eval` may be of any type: each lambda that has one has
-- that of an integer, a truth value or a text.
abbrev pub takes_conditions : List ℕ → Bool
takes_conditions kind = not (bytes_eq kind (codes "eval"))

-- The fault of a lambda whose word `lambda` stands at this place, where this pattern is refused: the first of its
-- types, else Mismatch of a condition that can't be a truth value.
abbrev pub lambda_fault : Option Refusal → Bool → Tree → ℕ → Option TypeFault
lambda_fault refused condition body at =
    first (first_fault refused body) (if condition && not (types_of body).truth then Some (Mismatch at) else None)

-- the fault of the first that has one
abbrev pub firsts : {A : Type 0} → (A → Option TypeFault) → List A → Option TypeFault
firsts fault [] = None
firsts fault (x ∷ xs) = first (fault x) (firsts fault xs)

-- the fault of a lambda that is an argument; no other argument has one
abbrev pub arg_fault : Option Refusal → Bool → ArgTree → Option TypeFault
arg_fault refused condition (LambdaArg body at) = lambda_fault refused condition body at
arg_fault refused condition _ = None

-- the first fault of the lambdas that a property is given
abbrev pub prop_fault : Option Refusal → Bool → PropTree → Option TypeFault
prop_fault refused condition prop = firsts (arg_fault refused condition) prop.args

-- the first fault of a node's lambdas: of its arguments, then of its properties in the order of the script
abbrev pub node_type_fault : Option Refusal → NodeTree → Option TypeFault
node_type_fault refused node =
    first (firsts (arg_fault refused (takes_conditions node.kind)) node.args)
    (firsts (prop_fault refused (takes_conditions node.kind)) node.props)

-- the first fault of a script's lambdas
abbrev pub type_fault : Option Refusal → List NodeTree → Option TypeFault
type_fault refused nodes = firsts (node_type_fault refused) nodes

-- what is given, without its place
abbrev pub given_of : ArgTree → Given Tree
given_of (LitArg lit at) = givens.Lit lit
given_of (StarArg at) = givens.Star
given_of (LambdaArg body at) = givens.Lambda body
given_of (NodeArg number at) = givens.Node number

-- a property with what it is given, without the places of that
abbrev pub setting_of : PropTree → Setting Tree
setting_of prop = record { name = prop.name; args = map given_of prop.args; at = prop.at }

-- a node with what it is given, without the places of that
abbrev pub node_of : NodeTree → Node Tree
node_of node =
    record {
      kind = node.kind;
      parent = node.parent;
      args = map given_of node.args;
      props = map setting_of node.props;
      at = node.at;
    }

-- This value where no pattern is refused and there is no fault; else the first fault, where the pattern of which it
-- speaks is the one that was refused last.
abbrev pub FindsTyped : {A : Type 0} → A → (Option Refusal → Option TypeFault) → List ℕ → Result A TypeFault → Type 0
FindsTyped value fault refused (Ok x) = (x ≡ value) × (fault None ≡ None)
FindsTyped value fault refused (Err f) = FailsBy fault refused f

-- No pattern was refused; else the count rose by one at most, and did so where the fault is a refused pattern.
abbrev pub Counts : {A : Type 0} → Result A TypeFault → ℕ → ℕ → Type 0
Counts (Ok x) before after = after ≡ before
Counts (Err f) before after = AtMostOneMore before after × IsCounted before after f
