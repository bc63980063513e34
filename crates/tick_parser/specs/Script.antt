-- The grammar of scripts: which trees there are, and the tokens of each.
use Rattle.std.specs.Prelude.{ℕ, ◌+◌, ◌≤◌, max, cond, List, [], ◌∷◌, ◌++◌, length}
use Rattle.kap_base.specs.declared.expr.Op.TheVariants.{Mul}
use Rattle.tick_lexer.specs.declared.token.Kind.TheVariants.{Ident, Reference, Operator, OpenParen, CloseParen, Comma, Dot, Pipe, Assign, Var, Lambda}
use Rattle.tick_lexer.specs.declared.token.Token.{Token}
use Rattle.tick_parser.specs.declared.limits.TheConstants.{DEPTH_LIMIT, OPERATOR_LIMIT, STATEMENT_LIMIT}
use Rattle.tick_parser.specs.Trees.{ValTree, LitVal, StarVal, LambdaVal, ChainVal, ValTrees, NoVals, MoreVals, JointTrees, NoJoints, MoreJoints, StmtTree, VarStmt, DbrpStmt, ChainStmt}
use Rattle.tick_parser.specs.Grammar.{Fits, Mark, At, Free, Signed, spell, Agree, depth, binaries}

-- the tokens of values and links
abbrev mutual
  pub spell_val : ValTree → List Mark
  spell_val (LitVal lit at) = Signed lit at ∷ []
  spell_val (StarVal at) = At (Operator Mul) at ∷ []
  spell_val (LambdaVal body at) = At Lambda at ∷ spell body
  spell_val (ChainVal head links at) = At (Ident head) at ∷ spell_joints links

  -- arguments, and the parenthesis behind them
  pub spell_vals : ValTrees → List Mark
  spell_vals NoVals = Free CloseParen ∷ []
  spell_vals (MoreVals first rest) = spell_val first ++ spell_more rest

  -- further arguments, each behind a comma, and the parenthesis behind them
  pub spell_more : ValTrees → List Mark
  spell_more NoVals = Free CloseParen ∷ []
  spell_more (MoreVals first rest) = Free Comma ∷ (spell_val first ++ spell_more rest)

  -- nodes behind `|`, properties behind a dot
  pub spell_joints : JointTrees → List Mark
  spell_joints NoJoints = []
  spell_joints (MoreJoints node name args at rest) =
      Free (cond node Pipe Dot) ∷ At (Ident name) at ∷ Free OpenParen ∷ (spell_vals args ++ spell_joints rest)

-- the name with which a dbrp statement begins
abbrev pub word_dbrp : List ℕ
word_dbrp = 100 ∷ 98 ∷ 114 ∷ 112 ∷ []

-- a statement's tokens
abbrev pub spell_stmt : StmtTree → List Mark
spell_stmt (VarStmt name value at) = At Var at ∷ Free (Ident name) ∷ Free Assign ∷ spell_val value
spell_stmt (DbrpStmt db rp at) = At (Ident word_dbrp) at ∷ Free (Reference db) ∷ Free Dot ∷ Free (Reference rp) ∷ []
spell_stmt (ChainStmt head links at) = At (Ident head) at ∷ spell_joints links

-- a script's tokens
abbrev pub spell_script : List StmtTree → List Mark
spell_script [] = []
spell_script (stmt ∷ script) = spell_stmt stmt ++ spell_script script

-- each lambda fits the precedences of its operators
abbrev mutual
  pub FitsVal : ValTree → Type 0
  FitsVal (LitVal lit at) = Unit {0}
  FitsVal (StarVal at) = Unit {0}
  FitsVal (LambdaVal body at) = Fits 0 body
  FitsVal (ChainVal head links at) = FitJoints links

  pub FitVals : ValTrees → Type 0
  FitVals NoVals = Unit {0}
  FitVals (MoreVals first rest) = FitsVal first × FitVals rest

  pub FitJoints : JointTrees → Type 0
  FitJoints NoJoints = Unit {0}
  FitJoints (MoreJoints node name args at rest) = FitVals args × FitJoints rest

-- a star is no value of a variable
abbrev pub IsOne : ValTree → Type 0
IsOne (StarVal at) = ⊥
IsOne _ = Unit {0}

-- the statement is one of the grammar
abbrev pub FitsStmt : StmtTree → Type 0
FitsStmt (VarStmt name value at) = IsOne value × FitsVal value
FitsStmt (DbrpStmt db rp at) = Unit {0}
FitsStmt (ChainStmt head links at) = FitJoints links

-- each statement is one of the grammar
abbrev pub FitsScript : List StmtTree → Type 0
FitsScript [] = Unit {0}
FitsScript (stmt ∷ script) = FitsStmt stmt × FitsScript script

-- how many parentheses and unary operators are open at most at a token; a minus before a literal that stands as a
-- value isn't counted
abbrev mutual
  pub depth_val : ValTree → ℕ
  depth_val (LitVal lit at) = 0
  depth_val (StarVal at) = 0
  depth_val (LambdaVal body at) = depth body
  depth_val (ChainVal head links at) = depth_joints links

  pub depth_vals : ValTrees → ℕ
  depth_vals NoVals = 0
  depth_vals (MoreVals first rest) = max (depth_val first) (depth_vals rest)

  pub depth_joints : JointTrees → ℕ
  depth_joints NoJoints = 0
  depth_joints (MoreJoints node name args at rest) = max (depth_vals args + 1) (depth_joints rest)

-- how many parentheses and unary operators are open at most in a statement
abbrev pub depth_stmt : StmtTree → ℕ
depth_stmt (VarStmt name value at) = depth_val value
depth_stmt (DbrpStmt db rp at) = 0
depth_stmt (ChainStmt head links at) = depth_joints links

-- how many parentheses and unary operators are open at most in a script
abbrev pub depth_script : List StmtTree → ℕ
depth_script [] = 0
depth_script (stmt ∷ script) = max (depth_stmt stmt) (depth_script script)

-- how many binary operators a lambda has at most
abbrev mutual
  pub width_val : ValTree → ℕ
  width_val (LitVal lit at) = 0
  width_val (StarVal at) = 0
  width_val (LambdaVal body at) = binaries body
  width_val (ChainVal head links at) = width_joints links

  pub width_vals : ValTrees → ℕ
  width_vals NoVals = 0
  width_vals (MoreVals first rest) = max (width_val first) (width_vals rest)

  pub width_joints : JointTrees → ℕ
  width_joints NoJoints = 0
  width_joints (MoreJoints node name args at rest) = max (width_vals args) (width_joints rest)

-- how many binary operators a lambda of this statement has at most
abbrev pub width_stmt : StmtTree → ℕ
width_stmt (VarStmt name value at) = width_val value
width_stmt (DbrpStmt db rp at) = 0
width_stmt (ChainStmt head links at) = width_joints links

-- how many binary operators a lambda of this script has at most
abbrev pub width_script : List StmtTree → ℕ
width_script [] = 0
width_script (stmt ∷ script) = max (width_stmt stmt) (width_script script)

-- these tokens are this script's
pub record Reads (tokens : List Token) (script : List StmtTree) : Type 0 where
  pub fits : FitsScript script
  pub spelled : Agree tokens (spell_script script)

-- the script keeps these limits: on open parentheses and unary operators, on the binary operators of a lambda, and
-- on statements
pub record Within (deep wide many : ℕ) (script : List StmtTree) : Type 0 where
  pub depth_fits : depth_script script ≤ deep
  pub width_fits : width_script script ≤ wide
  pub count_fits : length script ≤ many

-- the tokens are those of this script, which keeps the limits of the parser
abbrev pub IsScriptOf : List Token → List StmtTree → Type 0
IsScriptOf tokens script = Reads tokens script × Within DEPTH_LIMIT OPERATOR_LIMIT STATEMENT_LIMIT script
