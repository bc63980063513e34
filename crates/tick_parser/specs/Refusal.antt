-- The first place where no reading of tokens as a script goes on, and what the grammar needs there.
use Rattle.std.specs.Prelude.{◌≡◌, ◌⊎◌, ℕ, ◌≤◌, List, [], ◌∷◌, ◌++◌, length, pos}
use Rattle.kap_base.specs.declared.expr.Lit.TheVariants.{Int}
use Rattle.tick_lexer.specs.declared.token.Kind.{Kind}
use Rattle.tick_lexer.specs.declared.token.Kind.TheVariants.{Ident, Literal, Reference, Operator, Not, OpenParen, CloseParen, Dot, Assign, Var}
use Rattle.tick_lexer.specs.declared.token.Token.{Token}
use Rattle.tick_parser.specs.declared.limits.TheConstants.{DEPTH_LIMIT, OPERATOR_LIMIT, STATEMENT_LIMIT}
use Rattle.tick_parser.specs.declared.fault.Want.{Want}
use Rattle.tick_parser.specs.declared.fault.Want.TheVariants.{Statement, Name, Equal, Value, Open as WantOpen, Close as WantClose, Ref, Dot as WantDot, Operand}
use Rattle.tick_parser.specs.declared.fault.ParseFault.{ParseFault}
use Rattle.tick_parser.specs.declared.fault.ParseFault.TheVariants.{Expected, Deep, TooMany, NoMemory}
use Rattle.tick_parser.specs.Trees.{StmtTree}
use Rattle.tick_parser.specs.Script.{depth_script, width_script, Reads}

-- some script begins with these tokens
pub record Begins (tokens : List Token) : Type 0 where
  pub more : List Token
  pub script : List StmtTree
  pub reads : Reads (tokens ++ more) script

-- some script with no more open parentheses, unary and binary operators than these begins with these tokens
pub record Opens (deep wide : ℕ) (tokens : List Token) : Type 0 where
  pub more : List Token
  pub script : List StmtTree
  pub reads : Reads (tokens ++ more) script
  pub depth_fits : depth_script script ≤ deep
  pub width_fits : width_script script ≤ wide

-- some script goes on behind these tokens with one of this kind
abbrev pub Can : Kind → List Token → Type 0
Can kind tokens = Begins (tokens ++ record { kind = kind; start = 0; «end» = 0 } ∷ [])

-- no script does
abbrev pub Cannot : Kind → List Token → Type 0
Cannot kind tokens = Can kind tokens → ⊥

-- they are a whole script
abbrev pub IsWhole : List Token → Type 0
IsWhole tokens = (script : List StmtTree) × Reads tokens script

-- only a token of such a kind may stand behind them
abbrev pub Only : (Kind → Type 0) → List Token → Type 0
Only P tokens = ((kind : Kind) × P kind × Can kind tokens) × ((kind : Kind) → Can kind tokens → P kind)

-- a name
abbrev pub IsIdent : Kind → Type 0
IsIdent (Ident name) = Unit {0}
IsIdent _ = ⊥

-- a reference
abbrev pub IsReference : Kind → Type 0
IsReference (Reference name) = Unit {0}
IsReference _ = ⊥

-- an equals sign
abbrev pub IsAssign : Kind → Type 0
IsAssign Assign = Unit {0}
IsAssign _ = ⊥

-- a parenthesis that opens
abbrev pub IsOpen : Kind → Type 0
IsOpen OpenParen = Unit {0}
IsOpen _ = ⊥

-- a dot
abbrev pub IsDot : Kind → Type 0
IsDot Dot = Unit {0}
IsDot _ = ⊥

-- What the grammar needs behind these tokens: a statement behind a whole script; a value where a number may stand and
-- no reference; an operand where both may; a parenthesis that closes where one may stand and no number; the others
-- where nothing else may stand.
abbrev pub Needs : Want → List Token → Type 0
Needs Statement tokens = IsWhole tokens
Needs Name tokens = Only IsIdent tokens
Needs Equal tokens = Only IsAssign tokens
Needs WantOpen tokens = Only IsOpen tokens
Needs WantDot tokens = Only IsDot tokens
Needs Ref tokens = Only IsReference tokens
Needs Value tokens = Can (Literal (Int (pos 0))) tokens × Cannot (Reference []) tokens × Cannot Var tokens
Needs Operand tokens = Can (Literal (Int (pos 0))) tokens × Can (Reference []) tokens × Cannot Var tokens
Needs WantClose tokens = Can CloseParen tokens × Cannot (Literal (Int (pos 0))) tokens × Cannot Var tokens

-- a parenthesis or an operator
abbrev pub IsOpening : Kind → Type 0
IsOpening OpenParen = Unit {0}
IsOpening Not = Unit {0}
IsOpening (Operator op) = Unit {0}
IsOpening _ = ⊥

-- a token with which a statement begins
abbrev pub IsStart : Kind → Type 0
IsStart Var = Unit {0}
IsStart (Ident name) = Unit {0}
IsStart _ = ⊥

-- they are a whole script of so many statements
abbrev pub Fills : ℕ → List Token → Type 0
Fills many tokens = (script : List StmtTree) × Reads tokens script × (length script ≡ many)

-- Why the reading ends at this token behind these. Expected: no script goes on with it. Deep: with this parenthesis
-- or operator only a script goes on that has too many of them open, or too many binary ones in a lambda. TooMany: it
-- begins a statement behind as many as there may be.
abbrev pub Ends : ℕ → ℕ → ℕ → List Token → Token → ParseFault → Type 0
Ends deep wide many before token (Expected want at) =
    (at ≡ token.start) × (Begins (before ++ token ∷ []) → ⊥) × Needs want before
Ends deep wide many before token (Deep at) =
    (at ≡ token.start) × IsOpening token.kind × Begins (before ++ token ∷ [])
    × (Opens deep wide (before ++ token ∷ []) → ⊥)
Ends deep wide many before token (TooMany at) =
    (at ≡ token.start) × IsStart token.kind × Begins (before ++ token ∷ []) × Fills many before
Ends deep wide many before token NoMemory = ⊥

-- the reading ends at none of these tokens
abbrev pub GoesOn : ℕ → ℕ → ℕ → List Token → Type 0
GoesOn deep wide many tokens =
    Begins tokens
    × ((before after : List Token) (token : Token) (fault : ParseFault) → tokens ≡ before ++ token ∷ after
    → Ends deep wide many before token fault → ⊥)

-- the first token at which the reading ends, and why
pub record Stops (deep wide many : ℕ) (tokens : List Token) (fault : ParseFault) : Type 0 where
  pub before : List Token
  pub token : Token
  pub after : List Token
  pub joined : tokens ≡ before ++ token ∷ after
  pub goes_on : GoesOn deep wide many before
  pub ends : Ends deep wide many before token fault

-- where the last token ends, or this place where there is none
abbrev pub ended : ℕ → List Token → ℕ
ended place [] = place
ended place (t ∷ ts) = ended t.«end» ts

-- where the last token ends, and 0 where there is none
abbrev pub end_of : List Token → ℕ
end_of tokens = ended 0 tokens

-- the tokens end before a script does
abbrev pub Lacks : ℕ → ℕ → ℕ → List Token → ParseFault → Type 0
Lacks deep wide many tokens (Expected want at) =
    (at ≡ end_of tokens) × GoesOn deep wide many tokens × (IsWhole tokens → ⊥) × Needs want tokens
Lacks deep wide many tokens _ = ⊥

-- the first place where no reading goes on, and why
abbrev pub Refused : ℕ → ℕ → ℕ → List Token → ParseFault → Type 0
Refused deep wide many tokens fault = Stops deep wide many tokens fault ⊎ Lacks deep wide many tokens fault

-- the tokens are refused so by this parser
abbrev pub IsRefused : List Token → ParseFault → Type 0
IsRefused tokens fault = Refused DEPTH_LIMIT OPERATOR_LIMIT STATEMENT_LIMIT tokens fault
