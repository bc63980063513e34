-- A script with its names bound, or the first fault: statement by statement from left to right, with the names and
-- nodes so far.
use Rattle.std.specs.Prelude.{ℕ, zero, suc, Bool, true, false, if◌then◌else◌, List, [], ◌∷◌, ◌++◌, length, Result, Ok, Err, codes}
use Rattle.kap_base.specs.Words.{◌>>=◌}
use Rattle.tick_parser.specs.Trees.{ValTree, LitVal, StarVal, LambdaVal, ChainVal, ValTrees, NoVals, MoreVals, JointTrees, NoJoints, MoreJoints, StmtTree, VarStmt, DbrpStmt, ChainStmt}
use Rattle.tick_vars.specs.declared.fault.VarFault.{VarFault}
use Rattle.tick_vars.specs.declared.fault.VarFault.TheVariants.{Twice}
use Rattle.kap_base.specs.declared.dbrp.Dbrp.{Dbrp}
use Rattle.tick_vars.specs.Nodes.{ArgTree, LitArg, StarArg, LambdaArg, NodeArg, PropTree, NodeTree, BoundTree}
use Rattle.tick_vars.specs.Names.{Scope, first_scope, with_name, is_taken, looked_up, handed_on, as_node, bound_lambda}

-- what a part of a script gave, and the nodes behind it
pub record WithNodes (A : Type 0) : Type 0 where
  pub value : A
  pub nodes : List NodeTree

-- the node with this number gets a property, behind those that it has
abbrev pub with_prop : ℕ → PropTree → List NodeTree → List NodeTree
with_prop number prop [] = []
with_prop zero prop (node ∷ nodes) = record node { props = node.props ++ prop ∷ [] } ∷ nodes
with_prop (suc number) prop (node ∷ nodes) = node ∷ with_prop number prop nodes

-- The node that is last behind a `|` or a `.` with these arguments, where this one was: `|` makes one under it, and `.`
-- sets a property on it.
abbrev pub linked : Bool → List ℕ → ℕ → ℕ → WithNodes (List ArgTree) → WithNodes ℕ
linked true name at on made = record {
  value = length made.nodes;
  nodes = made.nodes ++ record { kind = name; parent = on; args = made.value; props = []; at = at } ∷ [];
}
linked false name at on made = record {
  value = on;
  nodes = with_prop on (record { name = name; args = made.value; at = at }) made.nodes;
}

-- one argument more
abbrev pub and_arg : List ArgTree → WithNodes ArgTree → WithNodes (List ArgTree)
and_arg args made = record { value = args ++ made.value ∷ []; nodes = made.nodes }

-- values as arguments, and what is linked to a node; each goes on from what was made so far
abbrev mutual
  pub bound_val : Scope → List NodeTree → ValTree → Result (WithNodes ArgTree) VarFault
  bound_val scope nodes (LitVal lit at) = Ok (record { value = LitArg lit at; nodes = nodes })
  bound_val scope nodes (StarVal at) = Ok (record { value = StarArg at; nodes = nodes })
  bound_val scope nodes (LambdaVal body at) =
      bound_lambda scope body >>= λ body. Ok (record { value = LambdaArg body at; nodes = nodes })
  bound_val scope nodes (ChainVal head NoJoints at) =
      looked_up scope head at >>= λ arg. Ok (record { value = handed_on at arg; nodes = nodes })
  bound_val scope nodes (ChainVal head (MoreJoints node name args place rest) at) =
      looked_up scope head at >>= as_node at
      >>= (λ number. bound_links scope (record { value = number; nodes = nodes })
      (MoreJoints node name args place rest)) >>= λ made.
      Ok (record { value = NodeArg made.value at; nodes = made.nodes })

  pub bound_vals : Scope → WithNodes (List ArgTree) → ValTrees → Result (WithNodes (List ArgTree)) VarFault
  bound_vals scope made NoVals = Ok made
  bound_vals scope made (MoreVals first rest) =
      bound_val scope made.nodes first >>= λ next. bound_vals scope (and_arg made.value next) rest

  -- the last node so far, and then the one that is last behind these links
  pub bound_links : Scope → WithNodes ℕ → JointTrees → Result (WithNodes ℕ) VarFault
  bound_links scope made NoJoints = Ok made
  bound_links scope made (MoreJoints node name args at rest) =
      bound_vals scope (record { value = []; nodes = made.nodes }) args
      >>= λ args. bound_links scope (linked node name at made.value args) rest

-- what statements have made: what names stand for, the nodes, and the pairs of a database and a retention policy
pub record Progress : Type 0 where
  pub scope : Scope
  pub nodes : List NodeTree
  pub dbrps : List Dbrp

-- node 0, as it stands before the first statement
abbrev pub stream_node : NodeTree
stream_node = record { kind = codes "stream"; parent = 0; args = []; props = []; at = 0 }

-- what there is before the first statement: the stream alone
abbrev pub at_first : Progress
at_first = record { scope = first_scope; nodes = stream_node ∷ []; dbrps = [] }

-- behind one statement more
abbrev pub bound_stmt : Progress → StmtTree → Result Progress VarFault
bound_stmt progress (VarStmt name value at) =
    if is_taken progress.scope name then Err (Twice at) else (bound_val progress.scope progress.nodes value >>= λ made.
    Ok (record { scope = with_name name made.value progress.scope; nodes = made.nodes; dbrps = progress.dbrps }))
bound_stmt progress (DbrpStmt db rp at) =
    Ok (record progress { dbrps = progress.dbrps ++ record { db = db; rp = rp } ∷ [] })
bound_stmt progress (ChainStmt head links at) =
    bound_val progress.scope progress.nodes (ChainVal head links at)
    >>= λ made. Ok (record progress { nodes = made.nodes })

-- behind all of these statements
abbrev pub bound_stmts : Progress → List StmtTree → Result Progress VarFault
bound_stmts progress [] = Ok progress
bound_stmts progress (stmt ∷ script) = bound_stmt progress stmt >>= λ progress. bound_stmts progress script

-- a script with its names bound, or its first fault
abbrev pub bound_of : List StmtTree → Result BoundTree VarFault
bound_of script =
    bound_stmts at_first script >>= λ progress. Ok (record { dbrps = progress.dbrps; nodes = progress.nodes })
