-- The nodes of a script, apart from how they lie in memory.
use Rattle.std.specs.Prelude.{ℕ, List, map}
use Rattle.kap_base.specs.declared.expr.Lit.{Lit}
use Rattle.kap_base.specs.Tree.{Tree}
use Rattle.tick_vars.specs.declared.nodes.Arg.{Arg}
use Rattle.tick_vars.specs.declared.nodes.Arg.TheVariants.{Lit as Literal, Star, Lambda, Node}
use Rattle.tick_vars.specs.declared.nodes.Prop.{Prop}
use Rattle.tick_vars.specs.declared.nodes.RawNode.{RawNode}
use Rattle.kap_base.specs.declared.dbrp.Dbrp.{Dbrp}
use Rattle.tick_vars.specs.declared.nodes.Bound.{Bound}

-- an argument: a literal, the star, a lambda or a node by its number, each with its place
pub data ArgTree : Type 0 where
  LitArg : (lit : Lit) (at : ℕ) → ArgTree
  StarArg : (at : ℕ) → ArgTree
  LambdaArg : (body : Tree) (at : ℕ) → ArgTree
  NodeArg : (number at : ℕ) → ArgTree

-- a property that is set on a node, and the place of its name
pub record PropTree : Type 0 where
  pub name : List ℕ
  pub args : List ArgTree
  pub at : ℕ

-- a node: its kind, the number of the node under which it stands, its arguments and properties, and the place of its
-- kind
pub record NodeTree : Type 0 where
  pub kind : List ℕ
  pub parent : ℕ
  pub args : List ArgTree
  pub props : List PropTree
  pub at : ℕ

-- a script with its names bound
pub record BoundTree : Type 0 where
  pub dbrps : List Dbrp
  pub nodes : List NodeTree

-- the tree of an argument
abbrev pub arg_tree : Arg → ArgTree
arg_tree (Literal lit at) = LitArg lit at
arg_tree (Star at) = StarArg at
arg_tree (Lambda body at) = LambdaArg body at
arg_tree (Node number at) = NodeArg number at

-- the trees of arguments
abbrev pub arg_trees : List Arg → List ArgTree
arg_trees = map arg_tree

-- the tree of a property
abbrev pub prop_tree : Prop → PropTree
prop_tree prop = record { name = prop.name; args = arg_trees prop.args; at = prop.at }

-- the tree of a node
abbrev pub node_tree : RawNode → NodeTree
node_tree node =
    record {
      kind = node.kind;
      parent = node.parent;
      args = arg_trees node.args;
      props = map prop_tree node.props;
      at = node.at;
    }

-- the trees of nodes
abbrev pub node_trees : List RawNode → List NodeTree
node_trees = map node_tree

-- the tree of a bound script
abbrev pub bound_tree : Bound → BoundTree
bound_tree bound = record { dbrps = bound.dbrps; nodes = node_trees bound.nodes }
