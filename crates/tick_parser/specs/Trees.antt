-- Scripts as trees, apart from how they lie in memory.
use Rattle.std.specs.Prelude.{ℕ, Bool, List, [], ◌∷◌}
use Rattle.kap_base.specs.declared.expr.Lit.{Lit}
use Rattle.kap_base.specs.Tree.{Tree, tree_of}
use Rattle.tick_parser.specs.declared.script.Chain.{Chain}
use Rattle.tick_parser.specs.declared.script.Joint.{Joint}
use Rattle.tick_parser.specs.declared.script.Links.{Links, End as EndLinks, More' as MoreLink'}
use Rattle.tick_parser.specs.declared.script.Stmt.{Stmt}
use Rattle.tick_parser.specs.declared.script.Stmt.TheVariants.{Var as OfVar, Dbrp as OfDbrp, Chain as OfChainStmt}
use Rattle.tick_parser.specs.declared.script.Val.{Val, Lit as OfLit, Star, Lambda, Chain' as OfChain}
use Rattle.tick_parser.specs.declared.script.Vals.{Vals, End, More'}

-- a value, values, and the nodes and properties of a chain
mutual
  pub data ValTree : Type 0 where
    LitVal : (lit : Lit) (at : ℕ) → ValTree
    StarVal : (at : ℕ) → ValTree
    LambdaVal : (body : Tree) (at : ℕ) → ValTree
    ChainVal : (head : List ℕ) (links : JointTrees) (at : ℕ) → ValTree

  pub data ValTrees : Type 0 where
    NoVals : ValTrees
    MoreVals : (first : ValTree) (rest : ValTrees) → ValTrees

  -- node: it stands behind `|`, and not behind `.`
  pub data JointTrees : Type 0 where
    NoJoints : JointTrees
    MoreJoints : (node : Bool) (name : List ℕ) (args : ValTrees) (at : ℕ) (rest : JointTrees) → JointTrees

-- a statement
pub data StmtTree : Type 0 where
  VarStmt : (name : List ℕ) (value : ValTree) (at : ℕ) → StmtTree
  DbrpStmt : (db rp : List ℕ) (at : ℕ) → StmtTree
  ChainStmt : (head : List ℕ) (links : JointTrees) (at : ℕ) → StmtTree

-- the trees of values and of links
abbrev mutual
  pub val_tree : Val → ValTree
  val_tree (OfLit lit at) = LitVal lit at
  val_tree (Star at) = StarVal at
  val_tree (Lambda body at) = LambdaVal (tree_of body) at
  val_tree (OfChain head links at) = ChainVal head (joints_tree links) at

  pub vals_tree : Vals → ValTrees
  vals_tree End = NoVals
  vals_tree (More' p first q rest) = MoreVals (val_tree first) (vals_tree rest)

  pub joints_tree : Links → JointTrees
  joints_tree EndLinks = NoJoints
  joints_tree (MoreLink' p node name args at q rest) = MoreJoints node name (vals_tree args) at (joints_tree rest)

-- the tree of a chain as a value
abbrev pub chain_tree : Chain → ValTree
chain_tree chain = ChainVal chain.head (joints_tree chain.links) chain.at

-- the tree of one node or property
abbrev pub joint_tree : Joint → JointTrees
joint_tree joint = MoreJoints joint.node joint.name (vals_tree joint.args) joint.at NoJoints

-- the tree of a statement
abbrev pub stmt_tree : Stmt → StmtTree
stmt_tree (OfVar name value at) = VarStmt name (val_tree value) at
stmt_tree (OfDbrp db rp at) = DbrpStmt db rp at
stmt_tree (OfChainStmt chain) = ChainStmt chain.head (joints_tree chain.links) chain.at

-- the trees of a script's statements
abbrev pub script_tree : List Stmt → List StmtTree
script_tree [] = []
script_tree (stmt ∷ script) = stmt_tree stmt ∷ script_tree script

-- the first list from its last element to its first, and then the second
abbrev pub vals_onto : ValTrees → ValTrees → ValTrees
vals_onto NoVals onto = onto
vals_onto (MoreVals first rest) onto = vals_onto rest (MoreVals first onto)

-- the first list from its last element to its first, and then the second
abbrev pub joints_onto : JointTrees → JointTrees → JointTrees
joints_onto NoJoints onto = onto
joints_onto (MoreJoints node name args at rest) onto = joints_onto rest (MoreJoints node name args at onto)
