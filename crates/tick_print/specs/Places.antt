-- Scripts without the places of their parts.
use Rattle.std.specs.Prelude.{List, [], ◌∷◌}
use Rattle.kap_base.specs.Tree.{Tree, LitTree, RefTree, NameTree, CallTree, GroupTree, NegTree, NotTree, BinTree, Trees, NoTrees, MoreTrees}
use Rattle.tick_parser.specs.Trees.{ValTree, LitVal, StarVal, LambdaVal, ChainVal, ValTrees, NoVals, MoreVals, JointTrees, NoJoints, MoreJoints, StmtTree, VarStmt, DbrpStmt, ChainStmt}

-- an expression with every place set to 0
abbrev mutual
  pub bare : Tree → Tree
  bare (LitTree lit at) = LitTree lit 0
  bare (RefTree name at) = RefTree name 0
  bare (NameTree name at) = NameTree name 0
  bare (CallTree name args at) = CallTree name (bare_all args) 0
  bare (GroupTree inner at) = GroupTree (bare inner) 0
  bare (NegTree operand at) = NegTree (bare operand) 0
  bare (NotTree operand at) = NotTree (bare operand) 0
  bare (BinTree op left right at) = BinTree op (bare left) (bare right) 0

  pub bare_all : Trees → Trees
  bare_all NoTrees = NoTrees
  bare_all (MoreTrees first rest) = MoreTrees (bare first) (bare_all rest)

-- values and links with every place set to 0
abbrev mutual
  pub bare_val : ValTree → ValTree
  bare_val (LitVal lit at) = LitVal lit 0
  bare_val (StarVal at) = StarVal 0
  bare_val (LambdaVal body at) = LambdaVal (bare body) 0
  bare_val (ChainVal head links at) = ChainVal head (bare_joints links) 0

  pub bare_vals : ValTrees → ValTrees
  bare_vals NoVals = NoVals
  bare_vals (MoreVals first rest) = MoreVals (bare_val first) (bare_vals rest)

  pub bare_joints : JointTrees → JointTrees
  bare_joints NoJoints = NoJoints
  bare_joints (MoreJoints node name args at rest) = MoreJoints node name (bare_vals args) 0 (bare_joints rest)

-- a statement with every place set to 0
abbrev pub bare_stmt : StmtTree → StmtTree
bare_stmt (VarStmt name value at) = VarStmt name (bare_val value) 0
bare_stmt (DbrpStmt db rp at) = DbrpStmt db rp 0
bare_stmt (ChainStmt head links at) = ChainStmt head (bare_joints links) 0

-- a script with every place set to 0: two scripts are equal here where they are the same, places aside
abbrev pub bare_script : List StmtTree → List StmtTree
bare_script [] = []
bare_script (stmt ∷ script) = bare_stmt stmt ∷ bare_script script
