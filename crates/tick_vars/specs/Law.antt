-- A bound script in its own words: what it does one after the other, which takes no look at names, and what its names
-- stand for in the end.
use Rattle.std.specs.Prelude.{◌≡◌, ℕ, ◌+◌, ◌<◌, true, false, ◌==◌, if◌then◌else◌, List, [], ◌∷◌, ◌++◌, map, length, Option, Some, unwrap_or}
use Rattle.kap_base.specs.declared.expr.Lit.{Lit}
use Rattle.kap_base.specs.declared.expr.Lit.TheVariants as lits
use Rattle.kap_base.specs.Tree.{Tree, LitTree, RefTree, NameTree, CallTree, GroupTree, NegTree, NotTree, BinTree, Trees, NoTrees, MoreTrees}
use Rattle.tick_parser.specs.Trees.{ValTree, LitVal, StarVal, LambdaVal, ChainVal, ValTrees, NoVals, MoreVals, JointTrees, NoJoints, MoreJoints, StmtTree, VarStmt, DbrpStmt, ChainStmt}
use Rattle.kap_base.specs.declared.dbrp.Dbrp.{Dbrp}
use Rattle.tick_vars.specs.Nodes.{ArgTree, LitArg, StarArg, LambdaArg, NodeArg, PropTree, NodeTree, BoundTree}
use Rattle.tick_vars.specs.Names.{Scope, first_scope, is_taken, with_name, handed_on}
use Rattle.tick_vars.specs.Binding.{stream_node}

-- what a chain goes on from: the node with a number, or what a name stands for
pub data Upstream : Type 0 where
  OnNode : (number : ℕ) → Upstream
  OnName : (name : List ℕ) → Upstream

-- a value as the script has it: a literal, the star, a lambda, or a chain, of which the end counts
pub data Written : Type 0 where
  FromLit : (lit : Lit) (at : ℕ) → Written
  FromStar : (at : ℕ) → Written
  FromLambda : (body : Tree) (at : ℕ) → Written
  FromChain : (last : Upstream) (at : ℕ) → Written

-- what a script does: `|` makes a node, `.` sets a property, `var` declares a name, a chain as a statement uses what it
-- ends with, and `dbrp` names a pair
pub data Event : Type 0 where
  MakesNode : (kind : List ℕ) (under : Upstream) (args : List Written) (at : ℕ) → Event
  SetsProp : (name : List ℕ) (on : Upstream) (args : List Written) (at : ℕ) → Event
  DeclaresName : (name : List ℕ) (value : Written) → Event
  UsesValue : (value : Written) → Event
  NamesDbrp : (dbrp : Dbrp) → Event

-- how many `|` stand in a value, in values, in links
abbrev mutual
  pub pipes_in : ValTree → ℕ
  pipes_in (LitVal lit at) = 0
  pipes_in (StarVal at) = 0
  pipes_in (LambdaVal body at) = 0
  pipes_in (ChainVal head links at) = pipes_along links

  pub pipes_among : ValTrees → ℕ
  pipes_among NoVals = 0
  pipes_among (MoreVals first rest) = pipes_in first + pipes_among rest

  pub pipes_along : JointTrees → ℕ
  pipes_along NoJoints = 0
  pipes_along (MoreJoints node name args at rest) = pipes_among args + (if node then 1 else 0) + pipes_along rest

-- The end of a chain: its last `|`, or what it goes on from. Nodes are numbered in the order in which they are made,
-- from the number that is next; those among the arguments of a `|` come before its own.
abbrev pub chain_end : ℕ → Upstream → JointTrees → Upstream
chain_end next on NoJoints = on
chain_end next on (MoreJoints true name args at rest) =
    chain_end (next + pipes_among args + 1) (OnNode (next + pipes_among args)) rest
chain_end next on (MoreJoints false name args at rest) = chain_end (next + pipes_among args) on rest

-- a value as the script has it, where this number is next
abbrev pub written_val : ℕ → ValTree → Written
written_val next (LitVal lit at) = FromLit lit at
written_val next (StarVal at) = FromStar at
written_val next (LambdaVal body at) = FromLambda body at
written_val next (ChainVal head links at) = FromChain (chain_end next (OnName head) links) at

-- values, from left to right
abbrev pub written_vals : ℕ → ValTrees → List Written
written_vals next NoVals = []
written_vals next (MoreVals first rest) = written_val next first ∷ written_vals (next + pipes_in first) rest

-- what is done in a value, in values, along links
abbrev mutual
  pub done_in : ℕ → ValTree → List Event
  done_in next (LitVal lit at) = []
  done_in next (StarVal at) = []
  done_in next (LambdaVal body at) = []
  done_in next (ChainVal head links at) = done_along next (OnName head) links

  pub done_among : ℕ → ValTrees → List Event
  done_among next NoVals = []
  done_among next (MoreVals first rest) = done_in next first ++ done_among (next + pipes_in first) rest

  pub done_along : ℕ → Upstream → JointTrees → List Event
  done_along next on NoJoints = []
  done_along next on (MoreJoints true name args at rest) =
      done_among next args
      ++ MakesNode name on (written_vals next args) at ∷ done_along (next + pipes_among args + 1)
      (OnNode (next + pipes_among args)) rest
  done_along next on (MoreJoints false name args at rest) =
      done_among next args
      ++ SetsProp name on (written_vals next args) at ∷ done_along (next + pipes_among args) on rest

-- what a statement does
abbrev pub done_by : ℕ → StmtTree → List Event
done_by next (VarStmt name value at) = done_in next value ++ DeclaresName name (written_val next value) ∷ []
done_by next (DbrpStmt db rp at) = NamesDbrp (record { db = db; rp = rp }) ∷ []
done_by next (ChainStmt head links at) =
    done_along next (OnName head) links ++ UsesValue (written_val next (ChainVal head links at)) ∷ []

-- how many `|` stand in a statement
abbrev pub pipes_of : StmtTree → ℕ
pipes_of (VarStmt name value at) = pipes_in value
pipes_of (DbrpStmt db rp at) = 0
pipes_of (ChainStmt head links at) = pipes_along links

-- what statements do
abbrev pub all_done : ℕ → List StmtTree → List Event
all_done next [] = []
all_done next (stmt ∷ script) = done_by next stmt ++ all_done (next + pipes_of stmt) script

-- what a script does; the stream has the number 0
abbrev pub events_of : List StmtTree → List Event
events_of script = all_done 1 script

-- a name in a lambda as the literal that it stands for
abbrev pub literal_for : List ℕ → ℕ → Option ArgTree → Tree
literal_for name at (Some (LitArg lit place)) = LitTree lit at
literal_for name at other = NameTree name at

-- a lambda with literals in the place of names, and nothing else changed
abbrev mutual
  pub replaced : Scope → Tree → Tree
  replaced scope (LitTree lit at) = LitTree lit at
  replaced scope (RefTree name at) = RefTree name at
  replaced scope (NameTree name at) = literal_for name at (scope name)
  replaced scope (CallTree name args at) = CallTree name (all_replaced scope args) at
  replaced scope (GroupTree inner at) = GroupTree (replaced scope inner) at
  replaced scope (NegTree operand at) = NegTree (replaced scope operand) at
  replaced scope (NotTree operand at) = NotTree (replaced scope operand) at
  replaced scope (BinTree op left right at) = BinTree op (replaced scope left) (replaced scope right) at

  pub all_replaced : Scope → Trees → Trees
  all_replaced scope NoTrees = NoTrees
  all_replaced scope (MoreTrees first rest) = MoreTrees (replaced scope first) (all_replaced scope rest)

-- the number of the node that is there; 0 stands for what a script without faults never gives
abbrev pub number_of : Option ArgTree → ℕ
number_of (Some (NodeArg number at)) = number
number_of other = 0

-- the node that a chain goes on from
abbrev pub node_at : Scope → Upstream → ℕ
node_at scope (OnNode number) = number
node_at scope (OnName name) = number_of (scope name)

-- a value as an argument; a script without faults uses no name that stands for nothing
abbrev pub arg_of : Scope → Written → ArgTree
arg_of scope (FromLit lit at) = LitArg lit at
arg_of scope (FromStar at) = StarArg at
arg_of scope (FromLambda body at) = LambdaArg (replaced scope body) at
arg_of scope (FromChain (OnNode number) at) = NodeArg number at
arg_of scope (FromChain (OnName name) at) = handed_on at (unwrap_or (scope name) (StarArg at))

-- what names stand for in the end: each for its value, in which the names before it stand for what they do
abbrev pub in_the_end : Scope → List Event → Scope
in_the_end scope [] = scope
in_the_end scope (DeclaresName name value ∷ events) = in_the_end (with_name name (arg_of scope value) scope) events
in_the_end scope (event ∷ events) = in_the_end scope events

-- the properties that are set on the node with this number, in order
abbrev pub props_on : Scope → ℕ → List Event → List PropTree
props_on scope number [] = []
props_on scope number (SetsProp name on args at ∷ events) =
    if node_at scope on == number
    then record { name = name; args = map (arg_of scope) args; at = at } ∷ props_on scope number events
    else props_on scope number events
props_on scope number (event ∷ events) = props_on scope number events

-- the nodes that are made, in order, from the number that is next, where each number has these properties
abbrev pub nodes_made : Scope → (ℕ → List PropTree) → ℕ → List Event → List NodeTree
nodes_made scope props next [] = []
nodes_made scope props next (MakesNode kind under args at ∷ events) =
    record {
      kind = kind;
      parent = node_at scope under;
      args = map (arg_of scope) args;
      props = props next;
      at = at;
    } ∷ nodes_made scope props (next + 1) events
nodes_made scope props next (event ∷ events) = nodes_made scope props next events

-- the pairs of a database and a retention policy, in order
abbrev pub dbrps_seen : List Event → List Dbrp
dbrps_seen [] = []
dbrps_seen (NamesDbrp dbrp ∷ events) = dbrp ∷ dbrps_seen events
dbrps_seen (event ∷ events) = dbrps_seen events

-- The script as it is written: behind the stream its `|` in the order in which they are made, each with its arguments
-- and with the properties that are set on it, and its pairs. Names are what they stand for in the end.
abbrev pub as_written : List StmtTree → BoundTree
as_written script =
    let events = events_of script in
    let scope = in_the_end first_scope events in
    record {
      dbrps = dbrps_seen events;
      nodes = record stream_node { props = props_on scope 0 events } ∷ nodes_made scope
          (λ number. props_on scope number events) 1 events;
    }

-- no name stands in the lambda
abbrev mutual
  pub Nameless : Tree → Type 0
  Nameless (LitTree lit at) = Unit {0}
  Nameless (RefTree name at) = Unit {0}
  Nameless (NameTree name at) = ⊥
  Nameless (CallTree name args at) = AllNameless args
  Nameless (GroupTree inner at) = Nameless inner
  Nameless (NegTree operand at) = Nameless operand
  Nameless (NotTree operand at) = Nameless operand
  Nameless (BinTree op left right at) = Nameless left × Nameless right

  pub AllNameless : Trees → Type 0
  AllNameless NoTrees = Unit {0}
  AllNameless (MoreTrees first rest) = Nameless first × AllNameless rest

-- a node below this number, or a lambda without names, a literal, or the star
abbrev pub Settled : ℕ → ArgTree → Type 0
Settled below (LitArg lit at) = Unit {0}
Settled below (StarArg at) = Unit {0}
Settled below (LambdaArg body at) = Nameless body
Settled below (NodeArg number at) = number < below

-- the same of each of a list
abbrev pub AllSettled : ℕ → List ArgTree → Type 0
AllSettled below [] = Unit {0}
AllSettled below (arg ∷ args) = Settled below arg × AllSettled below args

-- the arguments of properties
abbrev pub PropsSettled : ℕ → List PropTree → Type 0
PropsSettled below [] = Unit {0}
PropsSettled below (prop ∷ props) = AllSettled below prop.args × PropsSettled below props

-- Nodes from the one with this number on: each one's parent and the nodes among its arguments have lower numbers than
-- its own, and those among the arguments of its properties lower ones than the count of all nodes.
abbrev pub NodesSettled : ℕ → ℕ → List NodeTree → Type 0
NodesSettled count number [] = Unit {0}
NodesSettled count number (node ∷ nodes) = (node.parent < number) × AllSettled number node.args
    × PropsSettled count node.props × NodesSettled count (number + 1) nodes

-- a script whose nodes stand before those that refer to them, and in whose lambdas no name is left; the first node is
-- the stream
pub record IsSettled (bound : BoundTree) : Type 0 where
  pub props : List PropTree
  pub others : List NodeTree
  pub nodes : bound.nodes ≡ record stream_node { props = props } ∷ others
  pub stream : PropsSettled (length bound.nodes) props
  pub settled : NodesSettled (length bound.nodes) 1 others

-- what stands for a name in a lambda: an integer, a truth value, a string or a pattern
abbrev pub IsValue : Option ArgTree → Type 0
IsValue (Some (LitArg (lits.Int number) place)) = Unit {0}
IsValue (Some (LitArg (lits.Bool truth) place)) = Unit {0}
IsValue (Some (LitArg (lits.Str text) place)) = Unit {0}
IsValue (Some (LitArg (lits.Regex pattern) place)) = Unit {0}
IsValue other = ⊥

-- each name in the lambda stands for a value
abbrev mutual
  pub HasValues : Scope → Tree → Type 0
  HasValues scope (LitTree lit at) = Unit {0}
  HasValues scope (RefTree name at) = Unit {0}
  HasValues scope (NameTree name at) = IsValue (scope name)
  HasValues scope (CallTree name args at) = AllHaveValues scope args
  HasValues scope (GroupTree inner at) = HasValues scope inner
  HasValues scope (NegTree operand at) = HasValues scope operand
  HasValues scope (NotTree operand at) = HasValues scope operand
  HasValues scope (BinTree op left right at) = HasValues scope left × HasValues scope right

  pub AllHaveValues : Scope → Trees → Type 0
  AllHaveValues scope NoTrees = Unit {0}
  AllHaveValues scope (MoreTrees first rest) = HasValues scope first × AllHaveValues scope rest

-- what a chain goes on from is a node
abbrev pub IsNode : Scope → Upstream → Type 0
IsNode scope (OnNode number) = Unit {0}
IsNode scope (OnName name) = (number : ℕ) × (place : ℕ) × (scope name ≡ Some (NodeArg number place))

-- what is written stands for something
abbrev pub IsArg : Scope → Written → Type 0
IsArg scope (FromLit lit at) = Unit {0}
IsArg scope (FromStar at) = Unit {0}
IsArg scope (FromLambda body at) = HasValues scope body
IsArg scope (FromChain (OnNode number) at) = Unit {0}
IsArg scope (FromChain (OnName name) at) = (arg : ArgTree) × (scope name ≡ Some arg)

-- the same of each of a list
abbrev pub AreArgs : Scope → List Written → Type 0
AreArgs scope [] = Unit {0}
AreArgs scope (first ∷ rest) = IsArg scope first × AreArgs scope rest

-- Each name is used behind its `var`, and stands for what may stand there; each `var` declares a new name.
abbrev pub AreNamed : Scope → List Event → Type 0
AreNamed scope [] = Unit {0}
AreNamed scope (MakesNode kind under args at ∷ events) = IsNode scope under × AreArgs scope args × AreNamed scope events
AreNamed scope (SetsProp name on args at ∷ events) = IsNode scope on × AreArgs scope args × AreNamed scope events
AreNamed scope (DeclaresName name value ∷ events) =
    (is_taken scope name ≡ false) × IsArg scope value × AreNamed (with_name name (arg_of scope value) scope) events
AreNamed scope (UsesValue value ∷ events) = IsArg scope value × AreNamed scope events
AreNamed scope (NamesDbrp dbrp ∷ events) = AreNamed scope events

-- a script whose names are all in order
abbrev pub IsWellNamed : List StmtTree → Type 0
IsWellNamed script = AreNamed first_scope (events_of script)
