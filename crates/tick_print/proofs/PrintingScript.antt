-- The text of a script is read as that script, places aside.
use Rattle.std.proofs.Common.{◌≡◌, inl, inr, ⊎_elim, ℕ, ◌+◌, Bool, true, false, cond, List, [], ◌∷◌, ◌++◌, refl, sym, ap, ◌∙◌, subst, codes, Some}
use Rattle.kap_base.specs.declared.expr.Lit.{Lit}
use Rattle.kap_base.specs.declared.expr.Lit.TheVariants.{Int, Dur, Str, Bool as Truth, Regex}
use Rattle.kap_base.specs.declared.expr.Op.TheVariants.{Sub, Mul}
use Rattle.kap_base.specs.Tree.{Tree}
use Rattle.tick_lexer.specs.declared.token.Kind.{Kind}
use Rattle.tick_lexer.specs.declared.token.Kind.TheVariants.{Ident, Var, Lambda, Literal, Reference, Operator, Assign, OpenParen, CloseParen, Comma, Dot, Pipe}
use Rattle.tick_lexer.specs.declared.token.Token.{Token}
use Rattle.tick_lexer.specs.Spelling.{Spelled, IsAllowed}
use Rattle.tick_parser.specs.Trees.{ValTree, LitVal, StarVal, LambdaVal, ChainVal, ValTrees, NoVals, MoreVals, JointTrees, NoJoints, MoreJoints, StmtTree, VarStmt, DbrpStmt, ChainStmt}
use Rattle.tick_parser.specs.Grammar.{minus, IsMinus, Agree, Mark, At, Free, Signed, spell}
use Rattle.tick_parser.specs.Script.{spell_val, spell_vals, spell_more, spell_joints, word_dbrp, spell_stmt, spell_script, FitsVal, FitVals, FitJoints, IsOne, FitsStmt, FitsScript}
use Rattle.tick_parser.proofs.Agreeing.{first}
use Rattle.tick_print.specs.Print.{in_quotes, lit_text, tree_text, val_text, vals_text, more_text, joints_text, stmt_text, script_text}
use Rattle.tick_print.specs.Places.{bare_val, bare_vals, bare_joints, bare_stmt, bare_script}
use Rattle.tick_print.proofs.Leaves.{IsNegative, IsValue}
use Rattle.tick_print.proofs.Printable.{CanVal, CanVals, CanJoints, CanStmt, CanScript}
use Rattle.tick_print.proofs.Written.{Written, one, at_one, free_one, NameEnds, at_name, free_name, both, white}
use Rattle.tick_print.proofs.Printing.{Follows, lit_ends, name_ends, printed}

lit_allowed : (lit : Lit) → IsAllowed true (Literal lit)
lit_allowed (Regex text) = refl
lit_allowed _ = tt

number_allowed : (plain lit : Lit) → minus plain ≡ Some lit → IsAllowed false (Literal plain)
number_allowed (Int n) lit e = tt
number_allowed (Dur n) lit e = tt
number_allowed (Str text) lit e = tt
number_allowed (Truth b) lit e = tt
number_allowed (Regex text) lit e = absurd (cc)

-- a minus and a number are the tokens of the number with its minus
as_minus : (lit plain : Lit) (at place : ℕ) (tokens : List Token) → minus plain ≡ Some lit → Agree tokens (At (Operator Sub) at ∷ At (Literal plain) place ∷ []) → Agree tokens (Signed lit at ∷ [])
as_minus lit plain at place tokens e h =
    let f = first (At (Operator Sub) at) (At (Literal plain) place ∷ []) tokens tt h in
    let g = first (At (Literal plain) place) [] f.rest tt f.rest_agrees in
    let sign = f.is in
    let number = g.is in
    let behind : f.rest ≡ g.token ∷ [] = g.joined ∙ ap (λ (l : List Token). g.token ∷ l) g.rest_agrees in
    let joined : tokens ≡ f.token ∷ g.token ∷ [] = f.joined ∙ ap (λ (l : List Token). f.token ∷ l) behind in
    (f.token ∷ g.token ∷ [], [], joined, inr (sign.0, sign.1, subst (λ (k : Kind). IsMinus k lit) (sym number.0) e), refl)

-- a number or a duration with its minus, as two tokens
negative_written : (lit : Lit) (at : ℕ) (rest : List ℕ) → IsNegative lit → Follows rest → Written (lit_text lit) (Signed lit at ∷ []) true false at rest
negative_written lit at rest h f =
    let plain = h.plain in
    let sign = at_one (Operator Sub) (codes "-") (lit_text plain ++ rest) true at refl tt tt in
    let number = at_one (Literal plain) (lit_text plain) rest false sign.stop h.spelled (lit_ends plain (lit_text plain) rest f) (number_allowed plain lit h.is_minus) in
    let two = both (codes "-") (lit_text plain) (At (Operator Sub) at ∷ []) (At (Literal plain) sign.stop ∷ []) true false false at rest sign number in
    subst (λ (s : List ℕ). Written s (Signed lit at ∷ []) true false at rest) (sym h.text)
    (record { tokens = two.tokens; stop = two.stop; agrees = as_minus lit plain at sign.stop two.tokens h.is_minus two.agrees; reads = two.reads })

given_written : (lit : Lit) (at : ℕ) (rest : List ℕ) → IsValue lit → Follows rest → Written (lit_text lit) (Signed lit at ∷ []) true false at rest
given_written lit at rest h f =
    ⊎_elim
    (λ (q : Spelled (Literal lit) (lit_text lit)). one (Literal lit) (Signed lit at) (lit_text lit) rest true at (inl (refl, refl)) q (lit_ends lit (lit_text lit) rest f) (lit_allowed lit))
    (λ (q : IsNegative lit). negative_written lit at rest q f)
    h

-- the text of a value where one may stand, before this rest
pub record ValPrinted (val : ValTree) (at : ℕ) (rest : List ℕ) : Type 0 where
  pub again : ValTree
  pub same : bare_val again ≡ bare_val val
  pub fits : FitsVal val → FitsVal again
  pub single : IsOne val → IsOne again
  pub written : Written (val_text val) (spell_val again) true false at rest

pub record ValsPrinted (vals : ValTrees) (marks : ValTrees → List Mark) (text : List ℕ) (pattern : Bool) (at : ℕ) (rest : List ℕ) : Type 0 where
  pub again : ValTrees
  pub same : bare_vals again ≡ bare_vals vals
  pub fits : FitVals vals → FitVals again
  pub written : Written text (marks again) pattern false at rest

pub record JointsPrinted (links : JointTrees) (at : ℕ) (rest : List ℕ) : Type 0 where
  pub again : JointTrees
  pub same : bare_joints again ≡ bare_joints links
  pub fits : FitJoints links → FitJoints again
  pub written : Written (joints_text links) (spell_joints again) false false at rest

more_follows : (vals : ValTrees) (rest : List ℕ) → Follows (more_text vals ++ rest)
more_follows NoVals rest = inr (inl refl)
more_follows (MoreVals one others) rest = inr (inr (inl refl))

joints_end : (links : JointTrees) (rest : List ℕ) → Follows rest → NameEnds (joints_text links ++ rest)
joints_end NoJoints rest f = name_ends rest f
joints_end (MoreJoints true name args at others) rest f = (refl, refl)
joints_end (MoreJoints false name args at others) rest f = (refl, refl)

joint_written : (node : Bool) (at : ℕ) (rest : List ℕ) → Written (cond node (codes "|") (codes ".")) (Free (cond node Pipe Dot) ∷ []) false false at rest
joint_written true at rest = free_one Pipe (codes "|") rest false at refl tt tt
joint_written false at rest = free_one Dot (codes ".") rest false at refl tt tt

mutual
  printed_val : (val : ValTree) (at : ℕ) (rest : List ℕ) → CanVal val → Follows rest → ValPrinted val at rest
  printed_val (LitVal lit place) at rest h f = record {
    again = LitVal lit at;
    same = refl;
    fits = λ x. tt;
    single = λ x. tt;
    written = given_written lit at rest h f;
  }
  printed_val (StarVal place) at rest h f = record {
    again = StarVal at;
    same = refl;
    fits = λ x. tt;
    single = λ x. x;
    written = at_one (Operator Mul) (codes "*") rest true at refl tt tt;
  }
  printed_val (LambdaVal body place) at rest h f =
      let l = at_one Lambda (codes "lambda:") ((codes " " ++ tree_text body) ++ rest) true at refl tt tt in
      let b = printed body false (l.stop + 1) rest h f in
      record {
        again = LambdaVal b.again at;
        same = ap (λ (x : Tree). LambdaVal x 0) b.same;
        fits = λ x. b.fits 0 x;
        single = λ x. tt;
        written =
            both (codes "lambda:") (codes " " ++ tree_text body) (At Lambda at ∷ []) (spell b.again) true false false at rest l
            (white 32 (tree_text body) (spell b.again) false false l.stop rest refl b.written);
      }
  printed_val (ChainVal head links place) at rest h f =
      let n = at_name head (joints_text links ++ rest) true at h.0 (joints_end links rest f) in
      let j = printed_joints links n.stop rest h.1 f in
      record {
        again = ChainVal head j.again at;
        same = ap (λ (x : JointTrees). ChainVal head x 0) j.same;
        fits = λ x. j.fits x;
        single = λ x. tt;
        written = both head (joints_text links) (At (Ident head) at ∷ []) (spell_joints j.again) true false false at rest n j.written;
      }

  printed_vals : (vals : ValTrees) (at : ℕ) (rest : List ℕ) → CanVals vals → ValsPrinted vals spell_vals (vals_text vals) true at rest
  printed_vals NoVals at rest h = record {
    again = NoVals;
    same = refl;
    fits = λ x. tt;
    written = free_one CloseParen (codes ")") rest true at refl tt tt;
  }
  printed_vals (MoreVals first others) at rest h =
      let a = printed_val first at (more_text others ++ rest) h.0 (more_follows others rest) in
      let w = a.written in
      let b = printed_more others w.stop rest h.1 in
      record {
        again = MoreVals a.again b.again;
        same = ap (λ (x : ValTree). MoreVals x (bare_vals b.again)) a.same ∙ ap (λ (x : ValTrees). MoreVals (bare_val first) x) b.same;
        fits = λ x. (a.fits x.0, b.fits x.1);
        written = both (val_text first) (more_text others) (spell_val a.again) (spell_more b.again) true false false at rest w b.written;
      }

  printed_more : (vals : ValTrees) (at : ℕ) (rest : List ℕ) → CanVals vals → ValsPrinted vals spell_more (more_text vals) false at rest
  printed_more NoVals at rest h = record {
    again = NoVals;
    same = refl;
    fits = λ x. tt;
    written = free_one CloseParen (codes ")") rest false at refl tt tt;
  }
  printed_more (MoreVals first others) at rest h =
      let both_text = val_text first ++ more_text others in
      let c = free_one Comma (codes ",") ((codes " " ++ both_text) ++ rest) false at refl tt tt in
      let a = printed_val first (c.stop + 1) (more_text others ++ rest) h.0 (more_follows others rest) in
      let w = a.written in
      let b = printed_more others w.stop rest h.1 in
      let inner = both (val_text first) (more_text others) (spell_val a.again) (spell_more b.again) true false false (c.stop + 1) rest w b.written in
      record {
        again = MoreVals a.again b.again;
        same = ap (λ (x : ValTree). MoreVals x (bare_vals b.again)) a.same ∙ ap (λ (x : ValTrees). MoreVals (bare_val first) x) b.same;
        fits = λ x. (a.fits x.0, b.fits x.1);
        written =
            both (codes ",") (codes " " ++ both_text) (Free Comma ∷ []) (spell_val a.again ++ spell_more b.again) false true false at rest c
            (white 32 both_text (spell_val a.again ++ spell_more b.again) true false c.stop rest refl inner);
      }

  printed_joints : (links : JointTrees) (at : ℕ) (rest : List ℕ) → CanJoints links → Follows rest → JointsPrinted links at rest
  printed_joints NoJoints at rest h f = record {
    again = NoJoints;
    same = refl;
    fits = λ x. tt;
    written = record { tokens = []; stop = at; agrees = refl; reads = λ more r. r };
  }
  printed_joints (MoreJoints node name args place others) at rest h f =
      let inside = vals_text args ++ joints_text others in
      let opened = codes "(" ++ inside in
      let j = joint_written node at ((name ++ opened) ++ rest) in
      let n = at_name name (opened ++ rest) false j.stop h.0 (refl, refl) in
      let o = free_one OpenParen (codes "(") (inside ++ rest) false n.stop refl tt tt in
      let v = printed_vals args o.stop (joints_text others ++ rest) h.1 in
      let w = v.written in
      let l = printed_joints others w.stop rest h.2 f in
      let in_marks = spell_vals v.again ++ spell_joints l.again in
      let inner = both (vals_text args) (joints_text others) (spell_vals v.again) (spell_joints l.again) true false false o.stop rest w l.written in
      let called = both (codes "(") inside (Free OpenParen ∷ []) in_marks false true false n.stop rest o inner in
      let node_named = both name opened (At (Ident name) j.stop ∷ []) (Free OpenParen ∷ in_marks) false false false j.stop rest n called in
      record {
        again = MoreJoints node name v.again j.stop l.again;
        same = ap (λ (x : ValTrees). MoreJoints node name x 0 (bare_joints l.again)) v.same ∙ ap (λ (x : JointTrees). MoreJoints node name (bare_vals args) 0 x) l.same;
        fits = λ x. (v.fits x.0, l.fits x.1);
        written = both (cond node (codes "|") (codes ".")) (name ++ opened) (Free (cond node Pipe Dot) ∷ []) (At (Ident name) j.stop ∷ Free OpenParen ∷ in_marks) false false false at rest j node_named;
      }

pub record StmtPrinted (stmt : StmtTree) (at : ℕ) (rest : List ℕ) : Type 0 where
  pub again : StmtTree
  pub same : bare_stmt again ≡ bare_stmt stmt
  pub fits : FitsStmt stmt → FitsStmt again
  pub written : Written (stmt_text stmt) (spell_stmt again) false false at rest

printed_stmt : (stmt : StmtTree) (at : ℕ) (rest : List ℕ) → CanStmt stmt → Follows rest → StmtPrinted stmt at rest
printed_stmt (VarStmt name value place) at rest h f =
    let set = codes " = " ++ val_text value in
    let after_equal = codes " " ++ val_text value in
    let equal_text = codes "=" ++ after_equal in
    let v = at_one Var (codes "var") ((codes " " ++ (name ++ set)) ++ rest) false at refl refl tt in
    let n = free_name name (set ++ rest) false (v.stop + 1) h.0 (refl, refl) in
    let e = free_one Assign (codes "=") (after_equal ++ rest) false (n.stop + 1) refl (refl, refl) tt in
    let p = printed_val value (e.stop + 1) rest h.1 f in
    let one_value = white 32 (val_text value) (spell_val p.again) true false e.stop rest refl p.written in
    let equals = both (codes "=") after_equal (Free Assign ∷ []) (spell_val p.again) false true false (n.stop + 1) rest e one_value in
    let spaced = white 32 equal_text (Free Assign ∷ spell_val p.again) false false n.stop rest refl equals in
    let begun = both name set (Free (Ident name) ∷ []) (Free Assign ∷ spell_val p.again) false false false (v.stop + 1) rest n spaced in
    let behind = white 32 (name ++ set) (Free (Ident name) ∷ Free Assign ∷ spell_val p.again) false false v.stop rest refl begun in
    record {
      again = VarStmt name p.again at;
      same = ap (λ (x : ValTree). VarStmt name x 0) p.same;
      fits = λ x. (p.single x.0, p.fits x.1);
      written = both (codes "var") (codes " " ++ (name ++ set)) (At Var at ∷ []) (Free (Ident name) ∷ Free Assign ∷ spell_val p.again) false false false at rest v behind;
    }
printed_stmt (DbrpStmt db rp place) at rest h f =
    let policy = in_quotes 34 rp in
    let dotted = codes "." ++ policy in
    let named = in_quotes 34 db ++ dotted in
    let w = at_one (Ident word_dbrp) (codes "dbrp") ((codes " " ++ named) ++ rest) false at (refl, (refl, (refl, (refl, (refl, tt)))), refl) (refl, λ q. refl) tt in
    let a = free_one (Reference db) (in_quotes 34 db) (dotted ++ rest) false (w.stop + 1) (refl, h.0) tt tt in
    let d = free_one Dot (codes ".") (policy ++ rest) false a.stop refl tt tt in
    let b = free_one (Reference rp) policy rest false d.stop (refl, h.1) tt tt in
    let second = both (codes ".") policy (Free Dot ∷ []) (Free (Reference rp) ∷ []) false false false a.stop rest d b in
    let first = both (in_quotes 34 db) dotted (Free (Reference db) ∷ []) (Free Dot ∷ Free (Reference rp) ∷ []) false false false (w.stop + 1) rest a second in
    record {
      again = DbrpStmt db rp at;
      same = refl;
      fits = λ x. tt;
      written =
          both (codes "dbrp") (codes " " ++ named) (At (Ident word_dbrp) at ∷ []) (Free (Reference db) ∷ Free Dot ∷ Free (Reference rp) ∷ []) false false false at rest w
          (white 32 named (Free (Reference db) ∷ Free Dot ∷ Free (Reference rp) ∷ []) false false w.stop rest refl first);
    }
printed_stmt (ChainStmt head links place) at rest h f =
    let n = at_name head (joints_text links ++ rest) false at h.0 (joints_end links rest f) in
    let j = printed_joints links n.stop rest h.1 f in
    record {
      again = ChainStmt head j.again at;
      same = ap (λ (x : JointTrees). ChainStmt head x 0) j.same;
      fits = λ x. j.fits x;
      written = both head (joints_text links) (At (Ident head) at ∷ []) (spell_joints j.again) false false false at rest n j.written;
    }

pub record ScriptPrinted (script : List StmtTree) (at : ℕ) (rest : List ℕ) : Type 0 where
  pub again : List StmtTree
  pub same : bare_script again ≡ bare_script script
  pub fits : FitsScript script → FitsScript again
  pub written : Written (script_text script) (spell_script again) false false at rest

pub printed_script : (script : List StmtTree) (at : ℕ) (rest : List ℕ) → CanScript script → ScriptPrinted script at rest
printed_script [] at rest h = record {
  again = [];
  same = refl;
  fits = λ x. tt;
  written = record { tokens = []; stop = at; agrees = refl; reads = λ more r. r };
}
printed_script (stmt ∷ script) at rest h =
    let s = printed_stmt stmt at ((codes "\n" ++ script_text script) ++ rest) h.0 (inr (inr (inr refl))) in
    let w = s.written in
    let more = printed_script script (w.stop + 1) rest h.1 in
    record {
      again = s.again ∷ more.again;
      same = ap (λ (x : StmtTree). x ∷ bare_script more.again) s.same ∙ ap (λ (x : List StmtTree). bare_stmt stmt ∷ x) more.same;
      fits = λ x. (s.fits x.0, more.fits x.1);
      written =
          both (stmt_text stmt) (codes "\n" ++ script_text script) (spell_stmt s.again) (spell_script more.again) false false false at rest w
          (white 10 (script_text script) (spell_script more.again) false false w.stop rest refl more.written);
    }
