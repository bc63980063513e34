-- Which fault of a lambda comes first: that of the first part, from left to right and parts before the whole, that
-- breaks a rule.
use Rattle.std.specs.Prelude.{◌≡◌, ◌≢◌, ℕ, zero, suc, true, List, [], ◌∷◌, ◌++◌, Option, Some, None}
use Rattle.kap_base.specs.declared.expr.Lit.TheVariants as lits
use Rattle.kap_base.specs.Texts.{has_line_feed}
use Rattle.kap_base.specs.Tree.{Tree, LitTree, RefTree, NameTree, CallTree, GroupTree, NegTree, NotTree, BinTree, Trees, NoTrees, MoreTrees}
use Rattle.lambda_types.specs.declared.fault.TypeFault.{TypeFault}
use Rattle.lambda_types.specs.declared.fault.TypeFault.TheVariants.{Mismatch, Arity, NoFunction, TimeUse, RegexUse, Pattern, NewLine, NoMemory}
use Rattle.lambda_types.specs.declared.functions.Function.{Function}
use Rattle.lambda_types.specs.declared.types.Ty.{Ty}
use Rattle.lambda_types.specs.declared.walk.Position.{Position}
use Rattle.lambda_types.specs.declared.walk.Position.TheVariants.{Anywhere, TimeArgument, RightOfMatch}
use Rattle.lambda_types.specs.Faults.{Refusal, argument_position, right_position}
use Rattle.lambda_types.specs.Functions.{function_named, arity}
use Rattle.lambda_types.specs.Typed.{Has, Need, is_time_name}

-- a part of a lambda, and where it stands
pub record PartAt : Type 0 where
  pub position : Position
  pub tree : Tree

-- the part that is this tree and stands there
abbrev pub part_at : Position → Tree → PartAt
part_at position tree = record { position = position; tree = tree }

-- The parts of what stands there, in the order in which they end: from left to right, and each behind its own parts. A
-- group is neither an argument nor a side of an operator for what stands in it.
abbrev mutual
  pub parts_of : Position → Tree → List PartAt
  parts_of position (LitTree lit at) = part_at position (LitTree lit at) ∷ []
  parts_of position (RefTree name at) = part_at position (RefTree name at) ∷ []
  parts_of position (NameTree name at) = part_at position (NameTree name at) ∷ []
  parts_of position (CallTree name args at) =
      all_parts_of (argument_position (function_named name)) args ++ part_at position (CallTree name args at) ∷ []
  parts_of position (GroupTree inner at) = parts_of Anywhere inner ++ part_at position (GroupTree inner at) ∷ []
  parts_of position (NegTree operand at) = parts_of Anywhere operand ++ part_at position (NegTree operand at) ∷ []
  parts_of position (NotTree operand at) = parts_of Anywhere operand ++ part_at position (NotTree operand at) ∷ []
  parts_of position (BinTree op left right at) =
      parts_of Anywhere left ++ (parts_of (right_position op) right ++ part_at position (BinTree op left right at) ∷ [])

  pub all_parts_of : Position → Trees → List PartAt
  all_parts_of position NoTrees = []
  all_parts_of position (MoreTrees one rest) = parts_of position one ++ all_parts_of position rest

-- the part has no type, whatever the point has
abbrev pub HasNoType : Tree → Type 0
HasNoType tree = (ty : Ty) (needs : List Need) → ¬ (Has tree ty needs)

-- how many arguments there are
abbrev pub argument_count : Trees → ℕ
argument_count NoTrees = zero
argument_count (MoreTrees one rest) = suc (argument_count rest)

-- a string or a reference here holds a line feed
abbrev pub HoldsLineFeed : Tree → ℕ → Type 0
HoldsLineFeed (LitTree (lits.Str text) at) here = (has_line_feed text ≡ true) × (at ≡ here)
HoldsLineFeed (RefTree name at) here = (has_line_feed name ≡ true) × (at ≡ here)
HoldsLineFeed _ here = ⊥

-- "time" is here
abbrev pub IsTimeAt : Tree → ℕ → Type 0
IsTimeAt (RefTree name at) here = (is_time_name name ≡ true) × (at ≡ here)
IsTimeAt _ here = ⊥

-- a pattern is here
abbrev pub IsPatternAt : Tree → ℕ → Type 0
IsPatternAt (LitTree (lits.Regex text) at) here = at ≡ here
IsPatternAt _ here = ⊥

-- the pattern here is the refused one
abbrev pub IsRefusedAt : Option Refusal → Tree → ℕ → Type 0
IsRefusedAt refused (LitTree (lits.Regex text) at) here =
    (refused ≡ Some (record { text = text; at = at })) × (at ≡ here)
IsRefusedAt refused _ here = ⊥

-- a call of no function is here
abbrev pub CallsNothing : Tree → ℕ → Type 0
CallsNothing (CallTree name args at) here = (function_named name ≡ None) × (at ≡ here)
CallsNothing _ here = ⊥

-- a call with more or fewer arguments than its function takes is here
abbrev pub HasOtherCount : Tree → ℕ → Type 0
HasOtherCount (CallTree name args at) here =
    (function : Function) × (function_named name ≡ Some function) × (argument_count args ≢ arity function) × (at ≡ here)
HasOtherCount _ here = ⊥

-- a duration, a name that the script was to define, or an operator or a call that has no type is here
abbrev pub IsUntyped : Tree → ℕ → Type 0
IsUntyped (LitTree (lits.Dur span) at) here = at ≡ here
IsUntyped (NameTree name at) here = at ≡ here
IsUntyped (CallTree name args at) here =
    (function : Function) × (function_named name ≡ Some function) × (argument_count args ≡ arity function)
    × HasNoType (CallTree name args at) × (at ≡ here)
IsUntyped (NegTree operand at) here = HasNoType (NegTree operand at) × (at ≡ here)
IsUntyped (NotTree operand at) here = HasNoType (NotTree operand at) × (at ≡ here)
IsUntyped (BinTree op left right at) here = HasNoType (BinTree op left right at) × (at ≡ here)
IsUntyped _ here = ⊥

-- The part breaks a rule, which the fault names at the part's place, where this pattern is refused, or none is.
abbrev pub Breaks : Option Refusal → PartAt → TypeFault → Type 0
Breaks refused part (NewLine here) = HoldsLineFeed part.tree here
Breaks refused part (TimeUse here) = IsTimeAt part.tree here × (part.position ≢ TimeArgument)
Breaks refused part (RegexUse here) = IsPatternAt part.tree here × (part.position ≢ RightOfMatch)
Breaks refused part (Pattern here) = IsRefusedAt refused part.tree here × (part.position ≡ RightOfMatch)
Breaks refused part (NoFunction here) = CallsNothing part.tree here
Breaks refused part (Arity here) = HasOtherCount part.tree here
Breaks refused part (Mismatch here) = IsUntyped part.tree here
Breaks refused part NoMemory = ⊥

-- none of the parts breaks a rule
abbrev pub NoneBreaks : Option Refusal → List PartAt → Type 0
NoneBreaks refused [] = Unit {0}
NoneBreaks refused (part ∷ rest) = ((f : TypeFault) → ¬ (Breaks refused part f)) × NoneBreaks refused rest

-- a part breaks a rule by this fault, and none that ends before it breaks one
pub record IsFirstFault (refused : Option Refusal) (tree : Tree) (f : TypeFault) : Type 0 where
  pub before : List PartAt
  pub part : PartAt
  pub after : List PartAt
  pub order : parts_of Anywhere tree ≡ before ++ part ∷ after
  pub whole : NoneBreaks refused before
  pub breaks : Breaks refused part f
