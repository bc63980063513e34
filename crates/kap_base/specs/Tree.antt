-- Expressions as trees, apart from how they lie in memory.
use Rattle.std.specs.Prelude.{ℕ, List}
use Rattle.kap_base.specs.declared.expr.Op.{Op}
use Rattle.kap_base.specs.declared.expr.Lit.{Lit}
use Rattle.kap_base.specs.declared.expr.Expr.{Expr, Lit as LitExpr, Ref, Name, Call, Group', Neg', Not', Bin'}
use Rattle.kap_base.specs.declared.expr.Exprs.{Exprs, End, More'}

-- the tree of an expression, one constructor a variant, each with its place
mutual
  pub data Tree : Type 0 where
    LitTree : (lit : Lit) (at : ℕ) → Tree
    RefTree : (name : List ℕ) (at : ℕ) → Tree
    NameTree : (name : List ℕ) (at : ℕ) → Tree
    CallTree : (name : List ℕ) (args : Trees) (at : ℕ) → Tree
    GroupTree : (inner : Tree) (at : ℕ) → Tree
    NegTree : (operand : Tree) (at : ℕ) → Tree
    NotTree : (operand : Tree) (at : ℕ) → Tree
    BinTree : (op : Op) (left right : Tree) (at : ℕ) → Tree

  pub data Trees : Type 0 where
    NoTrees : Trees
    MoreTrees : (first : Tree) (rest : Trees) → Trees

-- the tree of an expression, and the trees of a list of them
abbrev mutual
  pub tree_of : Expr → Tree
  tree_of (LitExpr lit at) = LitTree lit at
  tree_of (Ref name at) = RefTree name at
  tree_of (Name name at) = NameTree name at
  tree_of (Call name args at) = CallTree name (trees_of args) at
  tree_of (Group' p inner at) = GroupTree (tree_of inner) at
  tree_of (Neg' p operand at) = NegTree (tree_of operand) at
  tree_of (Not' p operand at) = NotTree (tree_of operand) at
  tree_of (Bin' op p left q right at) = BinTree op (tree_of left) (tree_of right) at

  pub trees_of : Exprs → Trees
  trees_of End = NoTrees
  trees_of (More' p first q rest) = MoreTrees (tree_of first) (trees_of rest)

-- the first list from its last element to its first, and then the second
abbrev pub reversed_onto : Trees → Trees → Trees
reversed_onto NoTrees onto = onto
reversed_onto (MoreTrees first rest) onto = reversed_onto rest (MoreTrees first onto)
