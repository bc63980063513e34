-- The grammar of lambdas: which trees there are, and the tokens of each.
use Rattle.std.specs.Prelude.{◌≡◌, ◌⊎◌, ℕ, ◌+◌, ◌≤◌, max, Option, Some, None, List, [], ◌∷◌, ◌++◌, pos, neg_ℤ}
use Rattle.kap_base.specs.declared.expr.Lit.{Lit}
use Rattle.kap_base.specs.declared.expr.Lit.TheVariants.{Int, Dur}
use Rattle.kap_base.specs.declared.expr.Op.{Op}
use Rattle.kap_base.specs.declared.expr.Op.TheVariants.{Or, And, Eq, Ne, Match, NoMatch, Lt, Le, Gt, Ge, Add, Sub, Mul, Div, Rem}
use Rattle.kap_base.specs.Tree.{Tree, LitTree, RefTree, NameTree, CallTree, GroupTree, NegTree, NotTree, BinTree, Trees, NoTrees, MoreTrees}
use Rattle.tick_lexer.specs.declared.token.Kind.{Kind}
use Rattle.tick_lexer.specs.declared.token.Kind.TheVariants.{Ident, Literal, Reference, Operator, Not, OpenParen, CloseParen, Comma}
use Rattle.tick_lexer.specs.declared.token.Token.{Token}

-- how tightly an operator binds
abbrev pub level : Op → ℕ
level Or = 0
level And = 1
level Eq = 2
level Ne = 2
level Match = 2
level NoMatch = 2
level Lt = 3
level Le = 3
level Gt = 3
level Ge = 3
level Add = 4
level Sub = 4
level Mul = 5
level Div = 5
level Rem = 5

-- A tree that may stand where operators of this level and above are read without parentheses. Operators
-- of one level group to the left. Level 6 is that of an operand.
abbrev mutual
  pub Fits : ℕ → Tree → Type 0
  Fits n (LitTree lit at) = Unit {0}
  Fits n (RefTree name at) = Unit {0}
  Fits n (NameTree name at) = Unit {0}
  Fits n (CallTree name args at) = AllFit args
  Fits n (GroupTree inner at) = Fits 0 inner
  Fits n (NegTree operand at) = Fits 6 operand
  Fits n (NotTree operand at) = Fits 6 operand
  Fits n (BinTree op left right at) = (n ≤ level op) × Fits (level op) left × Fits (level op + 1) right

  pub AllFit : Trees → Type 0
  AllFit NoTrees = Unit {0}
  AllFit (MoreTrees first rest) = Fits 0 first × AllFit rest

-- what a tree says of its tokens, one after the other
pub data Mark : Type 0 where
  -- a token of this kind, at this place
  At : (kind : Kind) (place : ℕ) → Mark
  -- a token of this kind, whose place the tree doesn't keep
  Free : (kind : Kind) → Mark
  -- the literal at this place, or a minus there and the number or duration of which it makes this literal
  Signed : (lit : Lit) (place : ℕ) → Mark

-- a lambda's tokens
abbrev mutual
  pub spell : Tree → List Mark
  spell (LitTree lit at) = At (Literal lit) at ∷ []
  spell (RefTree name at) = At (Reference name) at ∷ []
  spell (NameTree name at) = At (Ident name) at ∷ []
  spell (CallTree name args at) = At (Ident name) at ∷ Free OpenParen ∷ spell_args args
  spell (GroupTree inner at) = At OpenParen at ∷ (spell inner ++ Free CloseParen ∷ [])
  spell (NegTree operand at) = At (Operator Sub) at ∷ spell operand
  spell (NotTree operand at) = At Not at ∷ spell operand
  spell (BinTree op left right at) = spell left ++ At (Operator op) at ∷ spell right

  -- arguments, and the parenthesis behind them
  pub spell_args : Trees → List Mark
  spell_args NoTrees = Free CloseParen ∷ []
  spell_args (MoreTrees first rest) = spell first ++ spell_rest rest

  -- further arguments, each behind a comma, and the parenthesis behind them
  pub spell_rest : Trees → List Mark
  spell_rest NoTrees = Free CloseParen ∷ []
  spell_rest (MoreTrees first rest) = Free Comma ∷ (spell first ++ spell_rest rest)

-- the number or duration with a minus before it; in a script none is written with its sign
abbrev pub minus : Lit → Option Lit
minus (Int (pos n)) = Some (Int (neg_ℤ (pos n)))
minus (Dur (pos n)) = Some (Dur (neg_ℤ (pos n)))
minus _ = None

-- the literal is this one with a minus before it
abbrev pub IsMinus : Kind → Lit → Type 0
IsMinus (Literal plain) lit = minus plain ≡ Some lit
IsMinus _ lit = ⊥

-- it is one token, of which this holds
abbrev pub IsOneToken : (Token → Type 0) → List Token → Type 0
IsOneToken P [] = ⊥
IsOneToken P (t ∷ []) = P t
IsOneToken P (t ∷ u ∷ tokens) = ⊥

-- they are two tokens, of which this holds
abbrev pub AreTwoTokens : (Token → Token → Type 0) → List Token → Type 0
AreTwoTokens P [] = ⊥
AreTwoTokens P (t ∷ []) = ⊥
AreTwoTokens P (t ∷ u ∷ []) = P t u
AreTwoTokens P (t ∷ u ∷ v ∷ tokens) = ⊥

-- these are the mark's tokens
abbrev pub Is : List Token → Mark → Type 0
Is tokens (At kind place) = IsOneToken (λ t. (t.kind ≡ kind) × (t.start ≡ place)) tokens
Is tokens (Free kind) = IsOneToken (λ t. t.kind ≡ kind) tokens
Is tokens (Signed lit place) =
    IsOneToken (λ t. (t.kind ≡ Literal lit) × (t.start ≡ place)) tokens
    ⊎ AreTwoTokens (λ t u. (t.kind ≡ Operator Sub) × (t.start ≡ place) × IsMinus u.kind lit) tokens

-- these are the marks' tokens, one mark after the other
abbrev pub Agree : List Token → List Mark → Type 0
Agree tokens [] = tokens ≡ []
Agree tokens (m ∷ ms) =
    (front : List Token) × (back : List Token) × (tokens ≡ front ++ back) × Is front m × Agree back ms

-- how many parentheses and unary operators are open at most at a token of the tree
abbrev mutual
  pub depth : Tree → ℕ
  depth (LitTree lit at) = 0
  depth (RefTree name at) = 0
  depth (NameTree name at) = 0
  depth (CallTree name args at) = depth_all args + 1
  depth (GroupTree inner at) = depth inner + 1
  depth (NegTree operand at) = depth operand + 1
  depth (NotTree operand at) = depth operand + 1
  depth (BinTree op left right at) = max (depth left) (depth right)

  pub depth_all : Trees → ℕ
  depth_all NoTrees = 0
  depth_all (MoreTrees first rest) = max (depth first) (depth_all rest)

-- how many binary operators the tree has
abbrev mutual
  pub binaries : Tree → ℕ
  binaries (LitTree lit at) = 0
  binaries (RefTree name at) = 0
  binaries (NameTree name at) = 0
  binaries (CallTree name args at) = binaries_all args
  binaries (GroupTree inner at) = binaries inner
  binaries (NegTree operand at) = binaries operand
  binaries (NotTree operand at) = binaries operand
  binaries (BinTree op left right at) = binaries left + 1 + binaries right

  pub binaries_all : Trees → ℕ
  binaries_all NoTrees = 0
  binaries_all (MoreTrees first rest) = binaries first + binaries_all rest
