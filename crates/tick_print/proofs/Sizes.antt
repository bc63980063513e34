-- The parser's limits speak of no place.
use Rattle.std.proofs.Common.{◌≡◌, ℕ, ◌+◌, ◌≤◌, max, suc, List, [], ◌∷◌, length, refl, sym, ap, ◌∙◌, subst}
use Rattle.kap_base.specs.Tree.{Tree, LitTree, RefTree, NameTree, CallTree, GroupTree, NegTree, NotTree, BinTree, Trees, NoTrees, MoreTrees}
use Rattle.tick_parser.specs.Trees.{ValTree, LitVal, StarVal, LambdaVal, ChainVal, ValTrees, NoVals, MoreVals, JointTrees, NoJoints, MoreJoints, StmtTree, VarStmt, DbrpStmt, ChainStmt}
use Rattle.tick_parser.specs.Grammar.{depth, depth_all, binaries, binaries_all}
use Rattle.tick_parser.specs.Script.{depth_val, depth_vals, depth_joints, depth_stmt, depth_script, width_val, width_vals, width_joints, width_stmt, width_script, Within}
use Rattle.tick_print.specs.Places.{bare, bare_all, bare_val, bare_vals, bare_joints, bare_stmt, bare_script}

-- both numbers are equal, and so is what is made of them
pair : (f : ℕ → ℕ → ℕ) (a b c d : ℕ) → a ≡ b → c ≡ d → f a c ≡ f b d
pair f a b c d e g = ap (λ (n : ℕ). f n c) e ∙ ap (λ (n : ℕ). f b n) g

mutual
  same_depth : (tree : Tree) → depth (bare tree) ≡ depth tree
  same_depth (LitTree lit at) = refl
  same_depth (RefTree name at) = refl
  same_depth (NameTree name at) = refl
  same_depth (CallTree name args at) = ap (λ (n : ℕ). n + 1) (same_depths args)
  same_depth (GroupTree inner at) = ap (λ (n : ℕ). n + 1) (same_depth inner)
  same_depth (NegTree operand at) = ap (λ (n : ℕ). n + 1) (same_depth operand)
  same_depth (NotTree operand at) = ap (λ (n : ℕ). n + 1) (same_depth operand)
  same_depth (BinTree op left right at) = pair max _ _ _ _ (same_depth left) (same_depth right)

  same_depths : (args : Trees) → depth_all (bare_all args) ≡ depth_all args
  same_depths NoTrees = refl
  same_depths (MoreTrees first rest) = pair max _ _ _ _ (same_depth first) (same_depths rest)

mutual
  same_binaries : (tree : Tree) → binaries (bare tree) ≡ binaries tree
  same_binaries (LitTree lit at) = refl
  same_binaries (RefTree name at) = refl
  same_binaries (NameTree name at) = refl
  same_binaries (CallTree name args at) = all_binaries args
  same_binaries (GroupTree inner at) = same_binaries inner
  same_binaries (NegTree operand at) = same_binaries operand
  same_binaries (NotTree operand at) = same_binaries operand
  same_binaries (BinTree op left right at) = pair (λ m n. m + 1 + n) _ _ _ _ (same_binaries left) (same_binaries right)

  all_binaries : (args : Trees) → binaries_all (bare_all args) ≡ binaries_all args
  all_binaries NoTrees = refl
  all_binaries (MoreTrees first rest) = pair (λ m n. m + n) _ _ _ _ (same_binaries first) (all_binaries rest)

mutual
  val_depth : (val : ValTree) → depth_val (bare_val val) ≡ depth_val val
  val_depth (LitVal lit at) = refl
  val_depth (StarVal at) = refl
  val_depth (LambdaVal body at) = same_depth body
  val_depth (ChainVal head links at) = joints_depth links

  vals_depth : (vals : ValTrees) → depth_vals (bare_vals vals) ≡ depth_vals vals
  vals_depth NoVals = refl
  vals_depth (MoreVals first rest) = pair max _ _ _ _ (val_depth first) (vals_depth rest)

  joints_depth : (links : JointTrees) → depth_joints (bare_joints links) ≡ depth_joints links
  joints_depth NoJoints = refl
  joints_depth (MoreJoints node name args at rest) = pair (λ m n. max (m + 1) n) _ _ _ _ (vals_depth args) (joints_depth rest)

mutual
  val_width : (val : ValTree) → width_val (bare_val val) ≡ width_val val
  val_width (LitVal lit at) = refl
  val_width (StarVal at) = refl
  val_width (LambdaVal body at) = same_binaries body
  val_width (ChainVal head links at) = joints_width links

  vals_width : (vals : ValTrees) → width_vals (bare_vals vals) ≡ width_vals vals
  vals_width NoVals = refl
  vals_width (MoreVals first rest) = pair max _ _ _ _ (val_width first) (vals_width rest)

  joints_width : (links : JointTrees) → width_joints (bare_joints links) ≡ width_joints links
  joints_width NoJoints = refl
  joints_width (MoreJoints node name args at rest) = pair max _ _ _ _ (vals_width args) (joints_width rest)

stmt_depth : (stmt : StmtTree) → depth_stmt (bare_stmt stmt) ≡ depth_stmt stmt
stmt_depth (VarStmt name value at) = val_depth value
stmt_depth (DbrpStmt db rp at) = refl
stmt_depth (ChainStmt head links at) = joints_depth links

stmt_width : (stmt : StmtTree) → width_stmt (bare_stmt stmt) ≡ width_stmt stmt
stmt_width (VarStmt name value at) = val_width value
stmt_width (DbrpStmt db rp at) = refl
stmt_width (ChainStmt head links at) = joints_width links

script_depth : (script : List StmtTree) → depth_script (bare_script script) ≡ depth_script script
script_depth [] = refl
script_depth (stmt ∷ script) = pair max _ _ _ _ (stmt_depth stmt) (script_depth script)

script_width : (script : List StmtTree) → width_script (bare_script script) ≡ width_script script
script_width [] = refl
script_width (stmt ∷ script) = pair max _ _ _ _ (stmt_width stmt) (script_width script)

script_length : (script : List StmtTree) → length (bare_script script) ≡ length script
script_length [] = refl
script_length (stmt ∷ script) = ap (λ (n : ℕ). suc n) (script_length script)

-- a script that is the same, places aside, keeps the same limits
pub same_within : (deep wide many : ℕ) (again script : List StmtTree) → bare_script again ≡ bare_script script → Within deep wide many script → Within deep wide many again
same_within deep wide many again script e h = record {
  depth_fits = subst (λ (n : ℕ). n ≤ deep) (sym (sym (script_depth again) ∙ ap (λ (s : List StmtTree). depth_script s) e ∙ script_depth script)) h.depth_fits;
  width_fits = subst (λ (n : ℕ). n ≤ wide) (sym (sym (script_width again) ∙ ap (λ (s : List StmtTree). width_script s) e ∙ script_width script)) h.width_fits;
  count_fits = subst (λ (n : ℕ). n ≤ many) (sym (sym (script_length again) ∙ ap (λ (s : List StmtTree). length s) e ∙ script_length script)) h.count_fits;
}
