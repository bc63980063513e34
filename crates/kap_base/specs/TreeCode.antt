-- How trees are told apart: each as the expression that it is the tree of.
use Rattle.std.specs.Prelude.{◌≡◌, refl, Box}
use Rattle.std.specs.declared.alloc.Global.{Global}
use denote.RawPtr.{null_ptr}
use Rattle.kap_base.specs.contracts.expr.Expr as expr
use Rattle.std.proofs.Common.{ap, ◌∙◌}
use Rattle.std.specs.Coded.{Coded, code_by}
use Rattle.kap_base.specs.declared.expr.Expr.{Expr, Lit as LitExpr, Ref, Name, Call, Group', Neg', Not', Bin'}
use Rattle.kap_base.specs.declared.expr.Exprs.{Exprs, End, More'}
use Rattle.kap_base.specs.Tree.{Tree, LitTree, RefTree, NameTree, CallTree, GroupTree, NegTree, NotTree, BinTree, Trees, NoTrees, MoreTrees, tree_of, trees_of}

-- a place that no expression lies at
abbrev pub nowhere : Box (Unit {0}) Global
nowhere = record { ptr = null_ptr; alloc = record { memory = record { seal = tt } }; value = tt }

abbrev mutual
  pub of_tree : Tree → Expr
  of_tree (LitTree lit at) = LitExpr lit at
  of_tree (RefTree name at) = Ref name at
  of_tree (NameTree name at) = Name name at
  of_tree (CallTree name args at) = Call name (of_trees args) at
  of_tree (GroupTree inner at) = Group' nowhere (of_tree inner) at
  of_tree (NegTree operand at) = Neg' nowhere (of_tree operand) at
  of_tree (NotTree operand at) = Not' nowhere (of_tree operand) at
  of_tree (BinTree op left right at) = Bin' op nowhere (of_tree left) nowhere (of_tree right) at

  pub of_trees : Trees → Exprs
  of_trees NoTrees = End
  of_trees (MoreTrees first rest) = More' nowhere (of_tree first) nowhere (of_trees rest)

mutual
  pub back : (t : Tree) → tree_of (of_tree t) ≡ t
  back (LitTree lit at) = refl
  back (RefTree name at) = refl
  back (NameTree name at) = refl
  back (CallTree name args at) = ap (λ a. CallTree name a at) (all_back args)
  back (GroupTree inner at) = ap (λ t. GroupTree t at) (back inner)
  back (NegTree operand at) = ap (λ t. NegTree t at) (back operand)
  back (NotTree operand at) = ap (λ t. NotTree t at) (back operand)
  back (BinTree op left right at) =
      ap (λ t. BinTree op t (tree_of (of_tree right)) at) (back left) ∙ ap (λ t. BinTree op left t at) (back right)

  pub all_back : (ts : Trees) → trees_of (of_trees ts) ≡ ts
  all_back NoTrees = refl
  all_back (MoreTrees first rest) =
      ap (λ t. MoreTrees t (trees_of (of_trees rest))) (back first) ∙ ap (MoreTrees first) (all_back rest)

-- trees as codes: each is that of one expression
abbrev pub tree_code : Coded Tree
tree_code = code_by Expr expr.the_row.coded of_tree tree_of back
