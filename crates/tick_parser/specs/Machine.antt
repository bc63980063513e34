-- How a script is read, token by token, over a stack of what is open.
use Rattle.std.specs.Prelude.{ℕ, ◌+◌, ◌-◌, Bool, true, false, cond, ltb, ◌&&◌, Option, Some, None, List, [], ◌∷◌, ◌++◌, length, bytes_eq}
use Rattle.kap_base.specs.declared.expr.Lit.{Lit}
use Rattle.kap_base.specs.declared.expr.Op.TheVariants.{Sub, Mul}
use Rattle.tick_lexer.specs.declared.token.Kind.{Kind}
use Rattle.tick_lexer.specs.declared.token.Kind.TheVariants.{Ident, Literal, Reference, Operator, OpenParen, CloseParen, Comma, Dot, Pipe, Assign, Var, Lambda}
use Rattle.tick_lexer.specs.declared.token.Token.{Token}
use Rattle.tick_parser.specs.declared.fault.Want.TheVariants.{Statement, Name, Equal, Value, Open as WantOpen, Close as WantClose, Ref, Dot as WantDot}
use Rattle.tick_parser.specs.declared.fault.ParseFault.{ParseFault}
use Rattle.tick_parser.specs.declared.fault.ParseFault.TheVariants.{Expected, Deep, TooMany}
use Rattle.tick_parser.specs.Trees.{ValTree, LitVal, StarVal, LambdaVal, ChainVal, ValTrees, NoVals, MoreVals, JointTrees, NoJoints, MoreJoints, StmtTree, VarStmt, DbrpStmt, ChainStmt, vals_onto, joints_onto}
use Rattle.tick_parser.specs.Grammar.{minus}
use Rattle.tick_parser.specs.Script.{word_dbrp}
use Rattle.tick_parser.specs.Lambdas as lambdas

-- a chain of which more may come: its links from the last to the first
pub record Chain : Type 0 where
  pub head : List ℕ
  pub links : JointTrees
  pub at : ℕ

-- a node or a property whose arguments come
pub record Call : Type 0 where
  pub node : Bool
  pub name : List ℕ
  pub at : ℕ

-- where a value stands
pub data Context : Type 0 where
  Variable : (name : List ℕ) (at : ℕ) → Context
  -- the arguments that are read, the last first
  Argument : (chain : Chain) (call : Call) (args : ValTrees) → Context

-- done: the statements that are read; stack: where the chain stands, the innermost first, nowhere for a statement
pub data State : Type 0 where
  -- a statement may begin
  Between : (done : List StmtTree) → State
  -- behind `var`
  VarRead : (done : List StmtTree) (at : ℕ) → State
  -- behind the name of a variable
  NameRead : (done : List StmtTree) (name : List ℕ) (at : ℕ) → State
  -- behind the first reference of a dbrp statement
  DbRead : (done : List StmtTree) (db : List ℕ) (at : ℕ) → State
  -- behind its dot
  DotRead : (done : List StmtTree) (db : List ℕ) (at : ℕ) → State
  -- a value comes
  ValueNext : (done : List StmtTree) (stack : List Context) (context : Context) → State
  -- behind a minus before a value
  MinusRead : (done : List StmtTree) (stack : List Context) (context : Context) (at : ℕ) → State
  -- behind a value of which nothing more can come
  ValueRead : (done : List StmtTree) (stack : List Context) (context : Context) (value : ValTree) → State
  -- in a lambda
  InLambda : (done : List StmtTree) (stack : List Context) (context : Context) (at : ℕ) (inner : lambdas.State) → State
  -- in a chain, behind its head or a link
  ChainRead : (done : List StmtTree) (stack : List Context) (chain : Chain) → State
  -- behind `|`, or else a dot
  LinkRead : (done : List StmtTree) (stack : List Context) (chain : Chain) (node : Bool) → State
  -- behind the name of a node or a property
  CallRead : (done : List StmtTree) (stack : List Context) (chain : Chain) (call : Call) → State
  -- behind its parenthesis
  ParenRead : (done : List StmtTree) (stack : List Context) (chain : Chain) (call : Call) → State
  Stopped : (fault : ParseFault) → State

-- a chain with one more link
abbrev pub linked : Chain → Call → ValTrees → Chain
linked chain call args =
    record { head = chain.head; links = MoreJoints call.node call.name args call.at chain.links; at = chain.at }

-- a chain as a value
abbrev pub chain_value : Chain → ValTree
chain_value chain = ChainVal chain.head (joints_onto chain.links NoJoints) chain.at

-- a chain as a statement
abbrev pub chain_stmt : Chain → StmtTree
chain_stmt chain = ChainStmt chain.head (joints_onto chain.links NoJoints) chain.at

-- how many parentheses are open
abbrev pub opens_context : Context → ℕ
opens_context (Variable name at) = 0
opens_context (Argument chain call args) = 1

-- how many parentheses are open in all these places
abbrev pub opens : List Context → ℕ
opens [] = 0
opens (context ∷ stack) = opens stack + opens_context context

-- a token where a statement may begin
abbrev pub begin : ℕ → List StmtTree → ℕ → Kind → State
begin many done at Var = cond (ltb (length done) many) (VarRead done at) (Stopped (TooMany at))
begin many done at (Ident name) =
    cond (ltb (length done) many) (ChainRead done [] (record { head = name; links = NoJoints; at = at }))
    (Stopped (TooMany at))
begin many done at _ = Stopped (Expected Statement at)

-- a token behind an argument, which is the first of these
abbrev pub argue : List StmtTree → List Context → Chain → Call → ValTrees → ℕ → Kind → State
argue done stack chain call args at CloseParen = ChainRead done stack (linked chain call (vals_onto args NoVals))
argue done stack chain call args at Comma = ValueNext done stack (Argument chain call args)
argue done stack chain call args at _ = Stopped (Expected WantClose at)

-- a token behind a value
abbrev pub settle : ℕ → List StmtTree → List Context → Context → ValTree → ℕ → Kind → State
settle many done stack (Variable name place) value at kind = begin many (done ++ VarStmt name value place ∷ []) at kind
settle many done stack (Argument chain call args) value at kind =
    argue done stack chain call (MoreVals value args) at kind

-- there are no links
abbrev pub is_bare : JointTrees → Bool
is_bare NoJoints = true
is_bare (MoreJoints node name args at rest) = false

-- a token behind a chain
abbrev pub leave : ℕ → List StmtTree → List Context → Chain → ℕ → Kind → State
leave many done [] chain at kind = begin many (done ++ chain_stmt chain ∷ []) at kind
leave many done (context ∷ stack) chain at kind = settle many done stack context (chain_value chain) at kind

-- nothing but the name of a dbrp statement, where a statement began
abbrev pub is_dbrp : List Context → Chain → Bool
is_dbrp [] chain = is_bare chain.links && bytes_eq chain.head word_dbrp
is_dbrp (context ∷ stack) chain = false

-- a token in a chain, behind its head or a link
abbrev pub follow : ℕ → List StmtTree → List Context → Chain → ℕ → Kind → State
follow many done stack chain at Pipe = LinkRead done stack chain true
follow many done stack chain at Dot = LinkRead done stack chain false
follow many done stack chain at (Reference db) =
    cond (is_dbrp stack chain) (DbRead done db chain.at) (leave many done stack chain at (Reference db))
follow many done stack chain at kind = leave many done stack chain at kind

-- a star where a value comes
abbrev pub star : List StmtTree → List Context → Context → ℕ → State
star done stack (Variable name place) at = Stopped (Expected Value at)
star done stack (Argument chain call args) at = ValueRead done stack (Argument chain call args) (StarVal at)

-- a token where a value comes
abbrev pub value : List StmtTree → List Context → Context → ℕ → Kind → State
value done stack context at (Literal lit) = ValueRead done stack context (LitVal lit at)
value done stack context at (Operator Sub) = MinusRead done stack context at
value done stack context at (Operator Mul) = star done stack context at
value done stack context at Lambda = InLambda done stack context at (lambdas.OperandNext [] 0)
value done stack context at (Ident name) =
    ChainRead done (context ∷ stack) (record { head = name; links = NoJoints; at = at })
value done stack context at _ = Stopped (Expected Value at)

-- a literal behind a minus
abbrev pub signed : List StmtTree → List Context → Context → ℕ → ℕ → Option Lit → State
signed done stack context place at (Some lit) = ValueRead done stack context (LitVal lit place)
signed done stack context place at None = Stopped (Expected Value at)

-- a token behind a minus before a value: a literal
abbrev pub number : List StmtTree → List Context → Context → ℕ → ℕ → Kind → State
number done stack context place at (Literal lit) = signed done stack context place at (minus lit)
number done stack context place at _ = Stopped (Expected Value at)

-- a token behind the name of a node or a property
abbrev pub opening : ℕ → List StmtTree → List Context → Chain → Call → ℕ → Kind → State
opening deep done stack chain call at OpenParen =
    cond (ltb (opens stack) deep) (ParenRead done stack chain call) (Stopped (Deep at))
opening deep done stack chain call at _ = Stopped (Expected WantOpen at)

-- a token behind its parenthesis
abbrev pub opened : List StmtTree → List Context → Chain → Call → ℕ → Kind → State
opened done stack chain call at CloseParen = ChainRead done stack (linked chain call NoVals)
opened done stack chain call at kind = value done stack (Argument chain call NoVals) at kind

-- a token in a lambda, by what the lambda makes of it
abbrev pub within : ℕ → List StmtTree → List Context → Context → ℕ → ℕ → Kind → lambdas.State → State
within many done stack context place at kind (lambdas.Ended tree) =
    settle many done stack context (LambdaVal tree place) at kind
within many done stack context place at kind (lambdas.Stopped fault) = Stopped fault
within many done stack context place at kind inner = InLambda done stack context place inner

-- a token behind `var`: a name
abbrev pub declare : List StmtTree → ℕ → ℕ → Kind → State
declare done place at (Ident name) = NameRead done name place
declare done place at _ = Stopped (Expected Name at)

-- a token behind the name of a variable: an equals sign
abbrev pub assign : List StmtTree → List ℕ → ℕ → ℕ → Kind → State
assign done name place at Assign = ValueNext done [] (Variable name place)
assign done name place at _ = Stopped (Expected Equal at)

-- a token behind the first reference of a dbrp statement: a dot
abbrev pub dotted : List StmtTree → List ℕ → ℕ → ℕ → Kind → State
dotted done db place at Dot = DotRead done db place
dotted done db place at _ = Stopped (Expected WantDot at)

-- a token behind the dot of a dbrp statement: its second reference
abbrev pub target : List StmtTree → List ℕ → ℕ → ℕ → Kind → State
target done db place at (Reference rp) = Between (done ++ DbrpStmt db rp place ∷ [])
target done db place at _ = Stopped (Expected Ref at)

-- a token behind `|` or a dot in a chain: the name of a node or a property
abbrev pub link : List StmtTree → List Context → Chain → Bool → ℕ → Kind → State
link done stack chain node at (Ident name) = CallRead done stack chain (record { node = node; name = name; at = at })
link done stack chain node at _ = Stopped (Expected Name at)

-- deep: how many parentheses and unary operators may be open; wide: how many binary operators a lambda may have;
-- many: how many statements there may be
abbrev pub step : ℕ → ℕ → ℕ → State → Token → State
step deep wide many (Between done) token = begin many done token.start token.kind
step deep wide many (VarRead done at) token = declare done at token.start token.kind
step deep wide many (NameRead done name at) token = assign done name at token.start token.kind
step deep wide many (DbRead done db at) token = dotted done db at token.start token.kind
step deep wide many (DotRead done db at) token = target done db at token.start token.kind
step deep wide many (ValueNext done stack context) token = value done stack context token.start token.kind
step deep wide many (MinusRead done stack context at) token = number done stack context at token.start token.kind
step deep wide many (ValueRead done stack context value) token =
    settle many done stack context value token.start token.kind
step deep wide many (InLambda done stack context at inner) token =
    within many done stack context at token.start token.kind
    (lambdas.step (deep - (opens stack + opens_context context)) wide inner token)
step deep wide many (ChainRead done stack chain) token = follow many done stack chain token.start token.kind
step deep wide many (LinkRead done stack chain node) token = link done stack chain node token.start token.kind
step deep wide many (CallRead done stack chain call) token = opening deep done stack chain call token.start token.kind
step deep wide many (ParenRead done stack chain call) token = opened done stack chain call token.start token.kind
step deep wide many (Stopped fault) token = Stopped fault

-- the state behind these tokens
abbrev pub run : ℕ → ℕ → ℕ → List Token → State → State
run deep wide many [] state = state
run deep wide many (token ∷ tokens) state = run deep wide many tokens (step deep wide many state token)

-- a script that was read, or why there is none
pub data Answer : Type 0 where
  Got : (script : List StmtTree) → Answer
  Refuses : (fault : ParseFault) → Answer

-- the tokens end behind a value
abbrev pub settled : ℕ → List StmtTree → Context → ValTree → Answer
settled at done (Variable name place) value = Got (done ++ VarStmt name value place ∷ [])
settled at done (Argument chain call args) value = Refuses (Expected WantClose at)

-- the tokens end behind a chain
abbrev pub left : ℕ → List StmtTree → List Context → Chain → Answer
left at done [] chain = Got (done ++ chain_stmt chain ∷ [])
left at done (context ∷ stack) chain = settled at done context (chain_value chain)

-- the tokens end in a lambda
abbrev pub closed : ℕ → List StmtTree → Context → ℕ → lambdas.Answer → Answer
closed at done context place (lambdas.Got tree) = settled at done context (LambdaVal tree place)
closed at done context place (lambdas.Refuses fault) = Refuses fault

-- the tokens end here
abbrev pub finish : ℕ → State → Answer
finish at (Between done) = Got done
finish at (VarRead done place) = Refuses (Expected Name at)
finish at (NameRead done name place) = Refuses (Expected Equal at)
finish at (DbRead done db place) = Refuses (Expected WantDot at)
finish at (DotRead done db place) = Refuses (Expected Ref at)
finish at (ValueNext done stack context) = Refuses (Expected Value at)
finish at (MinusRead done stack context place) = Refuses (Expected Value at)
finish at (ValueRead done stack context value) = settled at done context value
finish at (InLambda done stack context place inner) = closed at done context place (lambdas.finish at inner)
finish at (ChainRead done stack chain) = left at done stack chain
finish at (LinkRead done stack chain node) = Refuses (Expected Name at)
finish at (CallRead done stack chain call) = Refuses (Expected WantOpen at)
finish at (ParenRead done stack chain call) = Refuses (Expected Value at)
finish at (Stopped fault) = Refuses fault
