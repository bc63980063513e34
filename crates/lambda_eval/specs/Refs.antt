-- A value that is lent by a lambda or a point, or was made in its evaluation. Cited by private contracts alone.
use Rattle.std.specs.Prelude.{◌≡◌, ◌≢◌, ℕ, Bool, true, false, not, ◌&&◌, if◌then◌else◌, List, Option, Result, Ok, Err, IfOk, IsTrue, bytes_eq}
use Rattle.std.specs.List.{list_any}
use Rattle.kap_base.specs.declared.expr.Lit.{Lit}
use Rattle.kap_base.specs.declared.expr.Lit.TheVariants as lits
use Rattle.kap_base.specs.declared.expr.Op.{Op}
use Rattle.kap_base.specs.declared.expr.Op.TheVariants.{Sub, Mul, Div, Rem}
use Rattle.kap_base.specs.declared.value.Value.{Value}
use Rattle.kap_base.specs.declared.value.Value.TheVariants as values
use Rattle.kap_base.specs.Points.{is_value}
use Rattle.kap_base.specs.Texts.{has_line_feed}
use Rattle.kap_base.specs.Tree.{Tree, LitTree, RefTree, NameTree, CallTree, GroupTree, NegTree, NotTree, BinTree, Trees, NoTrees, MoreTrees}
use Rattle.lambda_fns.specs.declared.fault.EvalFault.{EvalFault}
use Rattle.lambda_fns.specs.declared.fault.EvalFault.TheVariants.{NoMemory}
use Rattle.lambda_types.specs.declared.functions.Function.{Function}
use Rattle.lambda_eval.specs.Values.{and_value, call_value, op_value, or_value, pattern_in, val, vals}
use Rattle.lambda_eval.specs.declared.input.Input.{Input}
use Rattle.lambda_eval.specs.declared.value_ref.ValueRef.{ValueRef}
use Rattle.lambda_eval.specs.declared.value_ref.ValueRef.TheVariants.{Int, Bool as Truth, Str}
use Rattle.lambda_eval.specs.declared.value_ref.TextRef.{TextRef}
use Rattle.lambda_eval.specs.declared.value_ref.TextRef.TheVariants.{Borrowed, Owned}

-- the text itself
abbrev pub the_text : TextRef → List ℕ
the_text (Borrowed text) = text.now
the_text (Owned text) = text

-- the value itself
abbrev pub the_value : ValueRef → Value
the_value (Int n) = values.Int n
the_value (Truth b) = values.Bool b
the_value (Str text) = values.Str (the_text text)

-- the answer is what the definition gives, its value or its fault, unless memory ran out
abbrev pub GivesValue : Result ValueRef EvalFault → Result Value EvalFault → Type 0
GivesValue (Ok seen) due = due ≡ Ok (the_value seen)
GivesValue (Err e) due = e ≢ NoMemory → due ≡ Err e

-- a value that a field may hold
abbrev pub IsField : ValueRef → Type 0
IsField seen = IsTrue (is_value (the_value seen))

-- an answer with such a value
abbrev pub GivesField : Result ValueRef EvalFault → Type 0
GivesField answer = IfOk answer IsField

-- the value of a part of a lambda at an input
abbrev pub val_at : Tree → Input → Result Value EvalFault
val_at tree input = val tree input.k input.point.now

-- the values of arguments at an input
abbrev pub vals_at : Trees → Input → List (Result Value EvalFault)
vals_at args input = vals args input.k input.point.now

-- `OR`, or `AND`, from the right side's value and the left side's
abbrev pub decided : Bool → ℕ → Result Value EvalFault → Value → Result Value EvalFault
decided stop at right left = if stop then or_value at right left else and_value at right left

-- an operator, from its left side's value and its right side
abbrev pub op_value_at : Op → ℕ → Value → Tree → Input → Result Value EvalFault
op_value_at op at left right input = op_value op at (Ok left) (val_at right input) (pattern_in right)

-- a call, from its arguments
abbrev pub call_value_at : Option Function → ℕ → Trees → Input → Result Value EvalFault
call_value_at function at args input = call_value function at args (vals_at args input) input.k input.point.now

-- an operator on integers alone
abbrev pub is_arithmetic : Op → Bool
is_arithmetic Sub = true
is_arithmetic Mul = true
is_arithmetic Div = true
is_arithmetic Rem = true
is_arithmetic _ = false

-- a string on one line, or a pattern that is among these
abbrev pub is_fit_lit : List (List ℕ) → Lit → Bool
is_fit_lit patterns (lits.Str text) = not (has_line_feed text)
is_fit_lit patterns (lits.Regex text) = list_any (bytes_eq text) patterns
is_fit_lit patterns _ = true

-- each string of a lambda's part is on one line, and each pattern among these
abbrev mutual
  pub is_fit : List (List ℕ) → Tree → Bool
  is_fit patterns (LitTree lit at) = is_fit_lit patterns lit
  is_fit patterns (RefTree name at) = true
  is_fit patterns (NameTree name at) = true
  is_fit patterns (CallTree name args at) = are_fit patterns args
  is_fit patterns (GroupTree inner at) = is_fit patterns inner
  is_fit patterns (NegTree operand at) = is_fit patterns operand
  is_fit patterns (NotTree operand at) = is_fit patterns operand
  is_fit patterns (BinTree op left right at) = is_fit patterns left && is_fit patterns right

  pub are_fit : List (List ℕ) → Trees → Bool
  are_fit patterns NoTrees = true
  are_fit patterns (MoreTrees first rest) = is_fit patterns first && are_fit patterns rest
