-- The canonical text of a script.
use Rattle.std.specs.Prelude.{ℕ, ℤ, pos, negsuc, suc, ◌/◌, ◌%◌, Bool, cond, eqb, List, [], ◌∷◌, ◌++◌, codes}
use Rattle.std.specs.Fmt.{decimal, signed_decimal}
use Rattle.kap_base.specs.declared.expr.Lit.{Lit}
use Rattle.kap_base.specs.declared.expr.Lit.TheVariants.{Int, Dur, Str, Bool as Truth, Regex}
use Rattle.kap_base.specs.Texts.{backslash, ends_with}
use Rattle.kap_base.specs.Tree.{Tree, LitTree, RefTree, NameTree, CallTree, GroupTree, NegTree, NotTree, BinTree, Trees, NoTrees, MoreTrees}
use Rattle.tick_lexer.specs.declared.unit.Unit as units
use Rattle.tick_lexer.specs.declared.unit.Unit.TheVariants.{Week, Day, Hour, Minute, Second, Milli, Micro}
use Rattle.tick_lexer.specs.Spelling.{unit_bytes, unit_nanos, operator_bytes, escaped}
use Rattle.tick_parser.specs.Trees.{ValTree, LitVal, StarVal, LambdaVal, ChainVal, ValTrees, NoVals, MoreVals, JointTrees, NoJoints, MoreJoints, StmtTree, VarStmt, DbrpStmt, ChainStmt}

-- the text in these quotes, with a backslash before each quote in it
abbrev pub in_quotes : ℕ → List ℕ → List ℕ
in_quotes quote text = quote ∷ (escaped quote text ++ quote ∷ [])

-- a string in single quotes, or in three where it ends in a backslash
abbrev pub string_text : List ℕ → List ℕ
string_text text = cond (ends_with backslash text) (codes "'''" ++ (text ++ codes "'''")) (in_quotes 39 text)

-- the unit divides this many nanoseconds
abbrev pub divides : units.Unit → ℕ → Bool
divides unit nanos = eqb (nanos % unit_nanos unit) 0

-- the largest unit that divides this many nanoseconds, of those that are written in ASCII; the least one where none
-- does
abbrev pub largest_unit : ℕ → units.Unit
largest_unit nanos =
    cond (divides Week nanos) Week
    (cond (divides Day nanos) Day
    (cond (divides Hour nanos) Hour
    (cond (divides Minute nanos) Minute
    (cond (divides Second nanos) Second
    (cond (divides Milli nanos) Milli Micro)))))

-- the unit that this many nanoseconds are written in, which is seconds for none
abbrev pub unit_of : ℕ → units.Unit
unit_of nanos = cond (eqb nanos 0) Second (largest_unit nanos)

-- this many nanoseconds in a unit; what is less than the unit is left out
abbrev pub counted : ℕ → units.Unit → List ℕ
counted nanos unit = decimal (nanos / unit_nanos unit) ++ unit_bytes unit

-- a duration of this many nanoseconds, with a minus before it where it is negative
abbrev pub duration_text : ℤ → List ℕ
duration_text (pos n) = counted n (unit_of n)
duration_text (negsuc n) = codes "-" ++ counted (suc n) (unit_of (suc n))

-- a literal
abbrev pub lit_text : Lit → List ℕ
lit_text (Int n) = signed_decimal n
lit_text (Dur n) = duration_text n
lit_text (Str text) = string_text text
lit_text (Truth b) = cond b (codes "TRUE") (codes "FALSE")
lit_text (Regex text) = in_quotes 47 text

-- an expression: binary operators stand between single spaces, unary ones directly before their operand
abbrev mutual
  pub tree_text : Tree → List ℕ
  tree_text (LitTree lit at) = lit_text lit
  tree_text (RefTree name at) = in_quotes 34 name
  tree_text (NameTree name at) = name
  tree_text (CallTree name args at) = name ++ (codes "(" ++ args_text args)
  tree_text (GroupTree inner at) = codes "(" ++ (tree_text inner ++ codes ")")
  tree_text (NegTree operand at) = codes "-" ++ tree_text operand
  tree_text (NotTree operand at) = codes "!" ++ tree_text operand
  tree_text (BinTree op left right at) =
      tree_text left ++ (codes " " ++ (operator_bytes op ++ (codes " " ++ tree_text right)))

  -- arguments, and the parenthesis behind them
  pub args_text : Trees → List ℕ
  args_text NoTrees = codes ")"
  args_text (MoreTrees first rest) = tree_text first ++ further_text rest

  -- further arguments, each behind a comma and a space, and the parenthesis behind them
  pub further_text : Trees → List ℕ
  further_text NoTrees = codes ")"
  further_text (MoreTrees first rest) = codes ", " ++ (tree_text first ++ further_text rest)

-- a value; a chain has no spaces between its parts
abbrev mutual
  pub val_text : ValTree → List ℕ
  val_text (LitVal lit at) = lit_text lit
  val_text (StarVal at) = codes "*"
  val_text (LambdaVal body at) = codes "lambda: " ++ tree_text body
  val_text (ChainVal head links at) = head ++ joints_text links

  -- arguments, and the parenthesis behind them
  pub vals_text : ValTrees → List ℕ
  vals_text NoVals = codes ")"
  vals_text (MoreVals first rest) = val_text first ++ more_text rest

  -- further arguments, each behind a comma and a space, and the parenthesis behind them
  pub more_text : ValTrees → List ℕ
  more_text NoVals = codes ")"
  more_text (MoreVals first rest) = codes ", " ++ (val_text first ++ more_text rest)

  -- nodes behind `|`, properties behind a dot
  pub joints_text : JointTrees → List ℕ
  joints_text NoJoints = []
  joints_text (MoreJoints node name args at rest) =
      cond node (codes "|") (codes ".") ++ (name ++ (codes "(" ++ (vals_text args ++ joints_text rest)))

-- a statement
abbrev pub stmt_text : StmtTree → List ℕ
stmt_text (VarStmt name value at) = codes "var " ++ (name ++ (codes " = " ++ val_text value))
stmt_text (DbrpStmt db rp at) = codes "dbrp " ++ (in_quotes 34 db ++ (codes "." ++ in_quotes 34 rp))
stmt_text (ChainStmt head links at) = head ++ joints_text links

-- a script: its statements, each with a line feed
abbrev pub script_text : List StmtTree → List ℕ
script_text [] = []
script_text (stmt ∷ script) = stmt_text stmt ++ (codes "\n" ++ script_text script)
