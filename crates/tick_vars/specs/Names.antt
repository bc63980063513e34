-- What the names of a script stand for.
use Rattle.std.specs.Prelude.{ℕ, Bool, ◌||◌, if◌then◌else◌, List, Option, Some, None, is_some, option_map, Result, Ok, Err, codes, bytes_eq}
use Rattle.std.specs.Borrow.{Bor}
use Rattle.std.specs.HashMap.{HashMap, get_by}
use Rattle.kap_base.specs.declared.expr.Lit.TheVariants as lits
use Rattle.kap_base.specs.Tree.{Tree, LitTree, RefTree, NameTree, CallTree, GroupTree, NegTree, NotTree, BinTree, Trees, NoTrees, MoreTrees}
use Rattle.kap_base.specs.Words.{◌>>=◌}
use Rattle.tick_vars.specs.declared.fault.VarFault.{VarFault}
use Rattle.tick_vars.specs.declared.fault.VarFault.TheVariants.{Unknown, NotValue, NotNode, Batch}
use Rattle.tick_vars.specs.declared.nodes.Arg.{Arg}
use Rattle.tick_vars.specs.Nodes.{ArgTree, LitArg, StarArg, LambdaArg, NodeArg, arg_tree}

-- what each name stands for at a place of a script: the argument that it would be, or nothing
abbrev pub Scope : Type 0
Scope = List ℕ → Option ArgTree

-- behind a `var`: its name stands for this, and the others for what they did
abbrev pub with_name : List ℕ → ArgTree → Scope → Scope
with_name name arg scope other = if bytes_eq name other then Some arg else scope other

-- before the first statement: `stream` stands for node 0, and no other name for anything
abbrev pub first_scope : Scope
first_scope = with_name (codes "stream") (NodeArg 0 0) (λ _. None)

-- the name that stands for nothing, and is never unknown
abbrev pub is_batch : List ℕ → Bool
is_batch name = bytes_eq name (codes "batch")

-- no `var` may declare the name
abbrev pub is_taken : Scope → List ℕ → Bool
is_taken scope name = is_batch name || is_some (scope name)

-- what is there, or the fault of a name that stands for nothing
abbrev pub known : ℕ → Option ArgTree → Result ArgTree VarFault
known at None = Err (Unknown at)
known at (Some arg) = Ok arg

-- what the name at this place stands for
abbrev pub looked_up : Scope → List ℕ → ℕ → Result ArgTree VarFault
looked_up scope name at = if is_batch name then Err (Batch at) else known at (scope name)

-- the argument that is handed on by a name at this place: it stands there, but for a lambda, which keeps its places
abbrev pub handed_on : ℕ → ArgTree → ArgTree
handed_on at (LitArg lit place) = LitArg lit at
handed_on at (StarArg place) = StarArg at
handed_on at (LambdaArg body place) = LambdaArg body place
handed_on at (NodeArg number place) = NodeArg number at

-- the node for which a name at this place stands, where something is linked to it
abbrev pub as_node : ℕ → ArgTree → Result ℕ VarFault
as_node at (NodeArg number place) = Ok number
as_node at other = Err (NotNode at)

-- the value for which a name at this place of a lambda stands: an integer, a string, a truth value or a pattern
abbrev pub as_value : ℕ → ArgTree → Result Tree VarFault
as_value at (LitArg (lits.Int number) place) = Ok (LitTree (lits.Int number) at)
as_value at (LitArg (lits.Str text) place) = Ok (LitTree (lits.Str text) at)
as_value at (LitArg (lits.Bool truth) place) = Ok (LitTree (lits.Bool truth) at)
as_value at (LitArg (lits.Regex pattern) place) = Ok (LitTree (lits.Regex pattern) at)
as_value at other = Err (NotValue at)

-- a lambda with its values in the place of names, or the first fault from left to right
abbrev mutual
  pub bound_lambda : Scope → Tree → Result Tree VarFault
  bound_lambda scope (LitTree lit at) = Ok (LitTree lit at)
  bound_lambda scope (RefTree name at) = Ok (RefTree name at)
  bound_lambda scope (NameTree name at) = looked_up scope name at >>= as_value at
  bound_lambda scope (CallTree name args at) = bound_lambdas scope args >>= λ args. Ok (CallTree name args at)
  bound_lambda scope (GroupTree inner at) = bound_lambda scope inner >>= λ inner. Ok (GroupTree inner at)
  bound_lambda scope (NegTree operand at) = bound_lambda scope operand >>= λ operand. Ok (NegTree operand at)
  bound_lambda scope (NotTree operand at) = bound_lambda scope operand >>= λ operand. Ok (NotTree operand at)
  bound_lambda scope (BinTree op left right at) =
      bound_lambda scope left >>= λ left. bound_lambda scope right >>= λ right. Ok (BinTree op left right at)

  pub bound_lambdas : Scope → Trees → Result Trees VarFault
  bound_lambdas scope NoTrees = Ok NoTrees
  bound_lambdas scope (MoreTrees first rest) =
      bound_lambda scope first >>= λ first. bound_lambdas scope rest >>= λ rest. Ok (MoreTrees first rest)

-- what each name of a map stands for
abbrev pub scope_of : {S : Type 0} → HashMap (Bor (List ℕ)) Arg S → Scope
scope_of names name = option_map arg_tree (get_by (λ key. bytes_eq name key.now) names)
