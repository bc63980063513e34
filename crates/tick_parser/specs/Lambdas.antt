-- How a lambda is read, token by token, over a stack of what is open.
use Rattle.std.specs.Prelude.{ℕ, ◌+◌, cond, ltb, leb, List, [], ◌∷◌}
use Rattle.kap_base.specs.declared.expr.Op.{Op}
use Rattle.kap_base.specs.declared.expr.Op.TheVariants.{Sub}
use Rattle.kap_base.specs.Tree.{Tree, LitTree, RefTree, NameTree, CallTree, GroupTree, NegTree, NotTree, BinTree, Trees, NoTrees, MoreTrees, reversed_onto}
use Rattle.tick_lexer.specs.declared.token.Kind.{Kind}
use Rattle.tick_lexer.specs.declared.token.Kind.TheVariants.{Ident, Literal, Reference, Operator, Not, OpenParen, CloseParen, Comma}
use Rattle.tick_lexer.specs.declared.token.Token.{Token}
use Rattle.tick_parser.specs.declared.fault.Want.TheVariants.{Operand, Close as WantClose}
use Rattle.tick_parser.specs.declared.fault.ParseFault.{ParseFault}
use Rattle.tick_parser.specs.declared.fault.ParseFault.TheVariants.{Expected, Deep}
use Rattle.tick_parser.specs.Grammar.{level}

-- what is open: the innermost first
pub data Frame : Type 0 where
  Minus : (at : ℕ) → Frame
  Negation : (at : ℕ) → Frame
  Left : (op : Op) (left : Tree) (at : ℕ) → Frame
  Paren : (at : ℕ) → Frame
  -- the arguments that are read, the last first
  Args : (name : List ℕ) (done : Trees) (at : ℕ) → Frame

-- an operand that was read, over what is open
pub record HeldOperand : Type 0 where
  pub stack : List Frame
  pub tree : Tree

-- count is the number of binary operators so far
pub data State : Type 0 where
  -- an operand comes
  OperandNext : (stack : List Frame) (count : ℕ) → State
  -- a call was opened, and an operand or its end comes
  CallOpened : (stack : List Frame) (count : ℕ) → State
  -- an operand was read
  OperandRead : (stack : List Frame) (tree : Tree) (count : ℕ) → State
  -- the lambda ended before this token
  Ended : (tree : Tree) → State
  Stopped : (fault : ParseFault) → State

-- how many parentheses and unary operators are open
abbrev pub opens : List Frame → ℕ
opens [] = 0
opens (Minus at ∷ stack) = opens stack + 1
opens (Negation at ∷ stack) = opens stack + 1
opens (Left op left at ∷ stack) = opens stack
opens (Paren at ∷ stack) = opens stack + 1
opens (Args name done at ∷ stack) = opens stack + 1

-- closes unary operators, and binary ones that bind as tightly as this level
abbrev pub reduce : ℕ → List Frame → Tree → HeldOperand
reduce n [] tree = record { stack = []; tree = tree }
reduce n (Minus at ∷ stack) tree = reduce n stack (NegTree tree at)
reduce n (Negation at ∷ stack) tree = reduce n stack (NotTree tree at)
reduce n (Left op left at ∷ stack) tree =
    cond (leb n (level op)) (reduce n stack (BinTree op left tree at))
    (record { stack = Left op left at ∷ stack; tree = tree })
reduce n (Paren at ∷ stack) tree = record { stack = Paren at ∷ stack; tree = tree }
reduce n (Args name done at ∷ stack) tree = record { stack = Args name done at ∷ stack; tree = tree }

-- a parenthesis or a unary operator
abbrev pub opening : ℕ → Frame → List Frame → ℕ → ℕ → State
opening deep frame stack count at =
    cond (ltb (opens stack) deep) (OperandNext (frame ∷ stack) count) (Stopped (Deep at))

-- a token where an operand comes
abbrev pub operand : ℕ → List Frame → ℕ → ℕ → Kind → State
operand deep stack count at (Literal lit) = OperandRead stack (LitTree lit at) count
operand deep stack count at (Reference name) = OperandRead stack (RefTree name at) count
operand deep stack count at (Ident name) = OperandRead stack (NameTree name at) count
operand deep stack count at OpenParen = opening deep (Paren at) stack count at
operand deep stack count at (Operator Sub) = opening deep (Minus at) stack count at
operand deep stack count at Not = opening deep (Negation at) stack count at
operand deep stack count at _ = Stopped (Expected Operand at)

-- a token that ends the lambda, where no parenthesis is open
abbrev pub leave : List Frame → Tree → ℕ → State
leave [] tree at = Ended tree
leave _ tree at = Stopped (Expected WantClose at)

-- a parenthesis behind an operand: the arguments of a name
abbrev pub calling : ℕ → List Frame → ℕ → ℕ → Tree → State
calling deep stack count at (NameTree name place) =
    cond (ltb (opens stack) deep) (CallOpened (Args name NoTrees place ∷ stack) count) (Stopped (Deep at))
calling deep stack count at tree = let held = reduce 0 stack tree in leave held.stack held.tree at

-- a binary operator
abbrev pub joining : ℕ → Op → ℕ → ℕ → HeldOperand → State
joining wide op count at held =
    cond (ltb count wide) (OperandNext (Left op held.tree at ∷ held.stack) (count + 1)) (Stopped (Deep at))

-- the innermost parenthesis is closed
abbrev pub close_top : List Frame → Tree → ℕ → ℕ → State
close_top [] tree count at = Ended tree
close_top (Paren place ∷ stack) tree count at = OperandRead stack (GroupTree tree place) count
close_top (Args name done place ∷ stack) tree count at =
    OperandRead stack (CallTree name (reversed_onto (MoreTrees tree done) NoTrees) place) count
close_top _ tree count at = Stopped (Expected WantClose at)

-- a comma behind an argument
abbrev pub next_top : List Frame → Tree → ℕ → ℕ → State
next_top [] tree count at = Ended tree
next_top (Args name done place ∷ stack) tree count at =
    OperandNext (Args name (MoreTrees tree done) place ∷ stack) count
next_top _ tree count at = Stopped (Expected WantClose at)

-- a call without arguments is closed
abbrev pub close_empty : List Frame → ℕ → ℕ → State
close_empty (Args name done place ∷ stack) count at =
    OperandRead stack (CallTree name (reversed_onto done NoTrees) place) count
close_empty _ count at = Stopped (Expected Operand at)

-- a token behind an operand
abbrev pub after : ℕ → ℕ → List Frame → Tree → ℕ → ℕ → Kind → State
after deep wide stack tree count at OpenParen = calling deep stack count at tree
after deep wide stack tree count at (Operator op) = joining wide op count at (reduce (level op) stack tree)
after deep wide stack tree count at CloseParen =
    let held = reduce 0 stack tree in close_top held.stack held.tree count at
after deep wide stack tree count at Comma = let held = reduce 0 stack tree in next_top held.stack held.tree count at
after deep wide stack tree count at _ = let held = reduce 0 stack tree in leave held.stack held.tree at

-- a token where a call was opened
abbrev pub opened : ℕ → List Frame → ℕ → ℕ → Kind → State
opened deep stack count at CloseParen = close_empty stack count at
opened deep stack count at kind = operand deep stack count at kind

-- deep: how many parentheses and unary operators may be open; wide: how many binary operators there may be
abbrev pub step : ℕ → ℕ → State → Token → State
step deep wide (OperandNext stack count) token = operand deep stack count token.start token.kind
step deep wide (CallOpened stack count) token = opened deep stack count token.start token.kind
step deep wide (OperandRead stack tree count) token = after deep wide stack tree count token.start token.kind
step deep wide (Ended tree) token = Ended tree
step deep wide (Stopped fault) token = Stopped fault

-- the state behind these tokens
abbrev pub run : ℕ → ℕ → List Token → State → State
run deep wide [] state = state
run deep wide (token ∷ tokens) state = run deep wide tokens (step deep wide state token)

-- a lambda that was read, or why there is none
pub data Answer : Type 0 where
  Got : (tree : Tree) → Answer
  Refuses : (fault : ParseFault) → Answer

-- the lambda where nothing is open, or the fault that a parenthesis is
abbrev pub done_at : ℕ → List Frame → Tree → Answer
done_at at [] tree = Got tree
done_at at _ tree = Refuses (Expected WantClose at)

-- the tokens end here
abbrev pub finish : ℕ → State → Answer
finish at (OperandNext stack count) = Refuses (Expected Operand at)
finish at (CallOpened stack count) = Refuses (Expected Operand at)
finish at (OperandRead stack tree count) = let held = reduce 0 stack tree in done_at at held.stack held.tree
finish at (Ended tree) = Got tree
finish at (Stopped fault) = Refuses fault
