-- Which fault of names a script has, and where: the names that stand in it, from left to right, and what is needed of
-- each.
use Rattle.std.specs.Prelude.{◌≡◌, ℕ, Bool, true, false, ◌||◌, List, [], ◌∷◌, ◌++◌, Option, Some, None, is_some}
use Rattle.kap_base.specs.Tree.{Tree, LitTree, RefTree, NameTree, CallTree, GroupTree, NegTree, NotTree, BinTree, Trees, NoTrees, MoreTrees}
use Rattle.tick_parser.specs.Trees.{ValTree, LitVal, StarVal, LambdaVal, ChainVal, ValTrees, NoVals, MoreVals, JointTrees, NoJoints, MoreJoints, StmtTree, VarStmt, DbrpStmt, ChainStmt}
use Rattle.tick_vars.specs.declared.fault.VarFault.{VarFault}
use Rattle.tick_vars.specs.declared.fault.VarFault.TheVariants.{Unknown, Twice, NotValue, NotNode, Batch, NoMemory}
use Rattle.tick_vars.specs.Nodes.{ArgTree, NodeArg}
use Rattle.tick_vars.specs.Names.{Scope, first_scope, is_batch}
use Rattle.tick_vars.specs.Law.{IsValue, IsWellNamed, events_of, in_the_end}

-- what is needed of a name: behind `var` that it is new, as an argument that it stands for something, before `|` or `.`
-- that it stands for a node, and in a lambda that it stands for a value
pub data Need : Type 0 where
  New : Need
  Known : Need
  ForNode : Need
  ForValue : Need

-- a name that stands in a script, with what is needed of it there; the place is its own, but that of the word `var`
-- before a new name
pub record Use : Type 0 where
  pub need : Need
  pub name : List ℕ
  pub at : ℕ

-- the names in a lambda, from left to right
abbrev mutual
  pub uses_in_lambda : Tree → List Use
  uses_in_lambda (LitTree lit at) = []
  uses_in_lambda (RefTree name at) = []
  uses_in_lambda (NameTree name at) = record { need = ForValue; name = name; at = at } ∷ []
  uses_in_lambda (CallTree name args at) = uses_in_lambdas args
  uses_in_lambda (GroupTree inner at) = uses_in_lambda inner
  uses_in_lambda (NegTree operand at) = uses_in_lambda operand
  uses_in_lambda (NotTree operand at) = uses_in_lambda operand
  uses_in_lambda (BinTree op left right at) = uses_in_lambda left ++ uses_in_lambda right

  pub uses_in_lambdas : Trees → List Use
  uses_in_lambdas NoTrees = []
  uses_in_lambdas (MoreTrees first rest) = uses_in_lambda first ++ uses_in_lambdas rest

-- what is needed of the name at the head of a chain with these links
abbrev pub need_before : JointTrees → Need
need_before NoJoints = Known
need_before (MoreJoints node name args at rest) = ForNode

-- the names in a value, in values, along the links of a chain, from left to right
abbrev mutual
  pub uses_in : ValTree → List Use
  uses_in (LitVal lit at) = []
  uses_in (StarVal at) = []
  uses_in (LambdaVal body at) = uses_in_lambda body
  uses_in (ChainVal head links at) = record { need = need_before links; name = head; at = at } ∷ uses_along links

  pub uses_among : ValTrees → List Use
  uses_among NoVals = []
  uses_among (MoreVals first rest) = uses_in first ++ uses_among rest

  pub uses_along : JointTrees → List Use
  uses_along NoJoints = []
  uses_along (MoreJoints node name args at rest) = uses_among args ++ uses_along rest

-- the names in a statement, from left to right
abbrev pub uses_by : StmtTree → List Use
uses_by (VarStmt name value at) = record { need = New; name = name; at = at } ∷ uses_in value
uses_by (DbrpStmt db rp at) = []
uses_by (ChainStmt head links at) = uses_in (ChainVal head links at)

-- a name that is `batch` or isn't, and that stands for this, is as it is needed
abbrev pub Meets : Bool → Option ArgTree → Need → Type 0
Meets batch there New = (batch || is_some there) ≡ false
Meets batch there Known = (arg : ArgTree) × (there ≡ Some arg)
Meets batch there ForNode = (number : ℕ) × (place : ℕ) × (there ≡ Some (NodeArg number place))
Meets batch there ForValue = IsValue there

-- it is not, for this reason
abbrev pub Misses : Bool → Option ArgTree → Need → VarFault → Type 0
Misses batch there New (Twice at) = (batch || is_some there) ≡ true
Misses batch there New other = ⊥
Misses batch there need (Batch at) = batch ≡ true
Misses batch there need (Unknown at) = (batch ≡ false) × (there ≡ None)
Misses batch there ForNode (NotNode at) = (arg : ArgTree) × (there ≡ Some arg) × (Meets batch there ForNode → ⊥)
Misses batch there ForValue (NotValue at) = (arg : ArgTree) × (there ≡ Some arg) × (Meets batch there ForValue → ⊥)
Misses batch there need other = ⊥

-- the place that a fault names
abbrev pub fault_place : VarFault → ℕ
fault_place (Unknown at) = at
fault_place (Twice at) = at
fault_place (NotValue at) = at
fault_place (NotNode at) = at
fault_place (Batch at) = at
fault_place NoMemory = 0

-- the name is as it is needed, where names stand for this
abbrev pub Holds : Scope → Use → Type 0
Holds scope it = Meets (is_batch it.name) (scope it.name) it.need

-- the same of each of a list
abbrev pub AllHold : Scope → List Use → Type 0
AllHold scope [] = Unit {0}
AllHold scope (it ∷ others) = Holds scope it × AllHold scope others

-- the name has this fault, at its place
abbrev pub Breaks : Scope → Use → VarFault → Type 0
Breaks scope it fault = Misses (is_batch it.name) (scope it.name) it.need fault × (fault_place fault ≡ it.at)

-- the script's first fault of names, from left to right: the statements before are in order, and so are the names
-- before it in its own statement
pub record HasFirstNameFault (script : List StmtTree) (fault : VarFault) : Type 0 where
  pub before : List StmtTree
  pub stmt : StmtTree
  pub after : List StmtTree
  pub joined : script ≡ before ++ stmt ∷ after
  pub named : IsWellNamed before
  pub held : List Use
  pub broken : Use
  pub others : List Use
  pub uses : uses_by stmt ≡ held ++ broken ∷ others
  pub holds : AllHold (in_the_end first_scope (events_of before)) held
  pub breaks : Breaks (in_the_end first_scope (events_of before)) broken fault
