-- The leaves of a script that was read can be printed: each one's canonical text spells it, where it stands.
use Rattle.std.proofs.Common.{◌≡◌, ⊎_elim, inl, ℕ, Bool, true, false, cond, List, [], ◌∷◌, ◌++◌, subst}
use Rattle.kap_base.specs.declared.expr.Lit.{Lit}
use Rattle.kap_base.specs.declared.expr.Op.TheVariants.{Sub}
use Rattle.kap_base.specs.Tree.{Tree, LitTree, RefTree, NameTree, CallTree, GroupTree, NegTree, NotTree, BinTree, Trees, NoTrees, MoreTrees}
use Rattle.tick_lexer.specs.declared.token.Kind.{Kind}
use Rattle.tick_lexer.specs.declared.token.Kind.TheVariants.{Ident, Var, Lambda, Literal, Reference, Operator, Not, Assign, OpenParen, CloseParen, Comma, Dot, Pipe}
use Rattle.tick_lexer.specs.declared.token.Token.{Token}
use Rattle.tick_lexer.specs.Spelling.{IsName, is_reserved, EndsPlain, Spelled, IsAllowed, takes_pattern}
use Rattle.tick_parser.specs.Trees.{ValTree, LitVal, StarVal, LambdaVal, ChainVal, ValTrees, NoVals, MoreVals, JointTrees, NoJoints, MoreJoints, StmtTree, VarStmt, DbrpStmt, ChainStmt}
use Rattle.tick_parser.specs.Grammar.{At, Free, Signed, spell, spell_args, spell_rest, IsOneToken, AreTwoTokens, IsMinus, Agree}
use Rattle.tick_parser.specs.Script.{spell_val, spell_vals, spell_more, spell_joints, spell_stmt, spell_script, word_dbrp}
use Rattle.tick_print.specs.Print.{lit_text}
use Rattle.tick_print.proofs.Leaves.{lit_spelled, IsValue, behind_minus}
use Rattle.tick_print.proofs.Spelt.{Spelt, cut, parts, lead_at, lead_free}

-- it is a name
abbrev pub CanName : List ℕ → Type 0
CanName name = IsName name × (is_reserved name ≡ false)

-- each leaf is spelled by its text; a pattern stands where the flag or the token before it lets one stand
abbrev mutual
  pub CanPrint : Bool → Tree → Type 0
  CanPrint pattern (LitTree lit at) = Spelled (Literal lit) (lit_text lit) × IsAllowed pattern (Literal lit)
  CanPrint pattern (RefTree name at) = EndsPlain name
  CanPrint pattern (NameTree name at) = CanName name
  CanPrint pattern (CallTree name args at) = CanName name × CanPrintAll args
  CanPrint pattern (GroupTree inner at) = CanPrint true inner
  CanPrint pattern (NegTree operand at) = CanPrint false operand
  CanPrint pattern (NotTree operand at) = CanPrint false operand
  CanPrint pattern (BinTree op left right at) = CanPrint pattern left × CanPrint (takes_pattern (Operator op)) right

  pub CanPrintAll : Trees → Type 0
  CanPrintAll NoTrees = Unit {0}
  CanPrintAll (MoreTrees first rest) = CanPrint true first × CanPrintAll rest

abbrev mutual
  pub CanVal : ValTree → Type 0
  CanVal (LitVal lit at) = IsValue lit
  CanVal (StarVal at) = Unit {0}
  CanVal (LambdaVal body at) = CanPrint false body
  CanVal (ChainVal head links at) = CanName head × CanJoints links

  pub CanVals : ValTrees → Type 0
  CanVals NoVals = Unit {0}
  CanVals (MoreVals first rest) = CanVal first × CanVals rest

  pub CanJoints : JointTrees → Type 0
  CanJoints NoJoints = Unit {0}
  CanJoints (MoreJoints node name args at rest) = CanName name × CanVals args × CanJoints rest

abbrev pub CanStmt : StmtTree → Type 0
CanStmt (VarStmt name value at) = CanName name × CanVal value
CanStmt (DbrpStmt db rp at) = EndsPlain db × EndsPlain rp
CanStmt (ChainStmt head links at) = CanName head × CanJoints links

abbrev pub CanScript : List StmtTree → Type 0
CanScript [] = Unit {0}
CanScript (stmt ∷ script) = CanStmt stmt × CanScript script

name_of : (name s : List ℕ) → Spelled (Ident name) s → CanName name
name_of name s h = (h.1, h.2)

mutual
  can_print : (tree : Tree) (ts : List Token) (pattern : Bool) → Agree ts (spell tree) → Spelt pattern ts → CanPrint pattern tree
  can_print (LitTree lit at) ts pattern h s =
      let l = lead_at (Literal lit) at [] ts pattern h s in
      (lit_spelled lit l.bytes l.spelled, l.allowed)
  can_print (RefTree name at) ts pattern h s =
      let l = lead_at (Reference name) at [] ts pattern h s in
      let quoted = l.spelled in
      quoted.1
  can_print (NameTree name at) ts pattern h s =
      let l = lead_at (Ident name) at [] ts pattern h s in
      name_of name l.bytes l.spelled
  can_print (CallTree name args at) ts pattern h s =
      let l = lead_at (Ident name) at (Free OpenParen ∷ spell_args args) ts pattern h s in
      let o = lead_free OpenParen (spell_args args) l.rest false l.agrees l.spelt in
      (name_of name l.bytes l.spelled, can_args args o.rest o.agrees o.spelt)
  can_print (GroupTree inner at) ts pattern h s =
      let o = lead_at OpenParen at (spell inner ++ Free CloseParen ∷ []) ts pattern h s in
      let p = parts (spell inner) (Free CloseParen ∷ []) o.rest true o.agrees o.spelt in
      can_print inner p.front true p.front_agrees p.front_spelt
  can_print (NegTree inner at) ts pattern h s =
      let o = lead_at (Operator Sub) at (spell inner) ts pattern h s in
      can_print inner o.rest false o.agrees o.spelt
  can_print (NotTree inner at) ts pattern h s =
      let o = lead_at Not at (spell inner) ts pattern h s in
      can_print inner o.rest false o.agrees o.spelt
  can_print (BinTree op left right at) ts pattern h s =
      let p = parts (spell left) (At (Operator op) at ∷ spell right) ts pattern h s in
      let o = lead_at (Operator op) at (spell right) p.back p.flag p.back_agrees p.back_spelt in
      (can_print left p.front pattern p.front_agrees p.front_spelt, can_print right o.rest (takes_pattern (Operator op)) o.agrees o.spelt)

  can_args : (args : Trees) (ts : List Token) → Agree ts (spell_args args) → Spelt true ts → CanPrintAll args
  can_args NoTrees ts h s = tt
  can_args (MoreTrees one others) ts h s =
      let p = parts (spell one) (spell_rest others) ts true h s in
      (can_print one p.front true p.front_agrees p.front_spelt, can_rest others p.back p.flag p.back_agrees p.back_spelt)

  can_rest : (args : Trees) (ts : List Token) (pattern : Bool) → Agree ts (spell_rest args) → Spelt pattern ts → CanPrintAll args
  can_rest NoTrees ts pattern h s = tt
  can_rest (MoreTrees one others) ts pattern h s =
      let o = lead_free Comma (spell one ++ spell_rest others) ts pattern h s in
      let p = parts (spell one) (spell_rest others) o.rest true o.agrees o.spelt in
      (can_print one p.front true p.front_agrees p.front_spelt, can_rest others p.back p.flag p.back_agrees p.back_spelt)

one_value : (front : List Token) (pattern : Bool) (lit : Lit) (at : ℕ) → IsOneToken (λ (t : Token). (t.kind ≡ Literal lit) × (t.start ≡ at)) front → Spelt pattern front → IsValue lit
one_value [] pattern lit at i s = elim i [ ]
one_value (t ∷ []) pattern lit at i s = let one = s.0 in inl (lit_spelled lit one.0 (subst (λ (k : Kind). Spelled k one.0) i.0 one.1))
one_value (t ∷ u ∷ ts) pattern lit at i s = elim i [ ]

two_values : (front : List Token) (pattern : Bool) (lit : Lit) (at : ℕ) → AreTwoTokens (λ (t u : Token). (t.kind ≡ Operator Sub) × (t.start ≡ at) × IsMinus u.kind lit) front → Spelt pattern front → IsValue lit
two_values [] pattern lit at i s = elim i [ ]
two_values (t ∷ []) pattern lit at i s = elim i [ ]
two_values (t ∷ u ∷ []) pattern lit at i s = let more = s.2 in let one = more.0 in behind_minus u.kind lit one.0 i.2 one.1
two_values (t ∷ u ∷ v ∷ ts) pattern lit at i s = elim i [ ]

can_value : (lit : Lit) (at : ℕ) (ts : List Token) (pattern : Bool) → Agree ts (Signed lit at ∷ []) → Spelt pattern ts → IsValue lit
can_value lit at ts pattern h s =
    let c = cut h.0 h.1 pattern (subst (λ (l : List Token). Spelt pattern l) h.2 s) in
    ⊎_elim
    (λ (i : IsOneToken (λ (t : Token). (t.kind ≡ Literal lit) × (t.start ≡ at)) h.0). one_value h.0 pattern lit at i c.front)
    (λ (i : AreTwoTokens (λ (t u : Token). (t.kind ≡ Operator Sub) × (t.start ≡ at) × IsMinus u.kind lit) h.0). two_values h.0 pattern lit at i c.front)
    h.3

mutual
  can_val : (val : ValTree) (ts : List Token) (pattern : Bool) → Agree ts (spell_val val) → Spelt pattern ts → CanVal val
  can_val (LitVal lit at) ts pattern h s = can_value lit at ts pattern h s
  can_val (StarVal at) ts pattern h s = tt
  can_val (LambdaVal body at) ts pattern h s =
      let l = lead_at Lambda at (spell body) ts pattern h s in
      can_print body l.rest false l.agrees l.spelt
  can_val (ChainVal head links at) ts pattern h s =
      let l = lead_at (Ident head) at (spell_joints links) ts pattern h s in
      (name_of head l.bytes l.spelled, can_joints links l.rest false l.agrees l.spelt)

  can_vals : (vals : ValTrees) (ts : List Token) (pattern : Bool) → Agree ts (spell_vals vals) → Spelt pattern ts → CanVals vals
  can_vals NoVals ts pattern h s = tt
  can_vals (MoreVals one others) ts pattern h s =
      let p = parts (spell_val one) (spell_more others) ts pattern h s in
      (can_val one p.front pattern p.front_agrees p.front_spelt, can_more others p.back p.flag p.back_agrees p.back_spelt)

  can_more : (vals : ValTrees) (ts : List Token) (pattern : Bool) → Agree ts (spell_more vals) → Spelt pattern ts → CanVals vals
  can_more NoVals ts pattern h s = tt
  can_more (MoreVals one others) ts pattern h s =
      let o = lead_free Comma (spell_val one ++ spell_more others) ts pattern h s in
      let p = parts (spell_val one) (spell_more others) o.rest true o.agrees o.spelt in
      (can_val one p.front true p.front_agrees p.front_spelt, can_more others p.back p.flag p.back_agrees p.back_spelt)

  can_joints : (links : JointTrees) (ts : List Token) (pattern : Bool) → Agree ts (spell_joints links) → Spelt pattern ts → CanJoints links
  can_joints NoJoints ts pattern h s = tt
  can_joints (MoreJoints node name args at others) ts pattern h s =
      let j = lead_free (cond node Pipe Dot) (At (Ident name) at ∷ Free OpenParen ∷ (spell_vals args ++ spell_joints others)) ts pattern h s in
      let l = lead_at (Ident name) at (Free OpenParen ∷ (spell_vals args ++ spell_joints others)) j.rest (takes_pattern (cond node Pipe Dot)) j.agrees j.spelt in
      let o = lead_free OpenParen (spell_vals args ++ spell_joints others) l.rest false l.agrees l.spelt in
      let p = parts (spell_vals args) (spell_joints others) o.rest true o.agrees o.spelt in
      (name_of name l.bytes l.spelled, can_vals args p.front true p.front_agrees p.front_spelt, can_joints others p.back p.flag p.back_agrees p.back_spelt)

can_stmt : (stmt : StmtTree) (ts : List Token) (pattern : Bool) → Agree ts (spell_stmt stmt) → Spelt pattern ts → CanStmt stmt
can_stmt (VarStmt name value at) ts pattern h s =
    let v = lead_at Var at (Free (Ident name) ∷ Free Assign ∷ spell_val value) ts pattern h s in
    let n = lead_free (Ident name) (Free Assign ∷ spell_val value) v.rest false v.agrees v.spelt in
    let e = lead_free Assign (spell_val value) n.rest false n.agrees n.spelt in
    (name_of name n.bytes n.spelled, can_val value e.rest true e.agrees e.spelt)
can_stmt (DbrpStmt db rp at) ts pattern h s =
    let w = lead_at (Ident word_dbrp) at (Free (Reference db) ∷ Free Dot ∷ Free (Reference rp) ∷ []) ts pattern h s in
    let a = lead_free (Reference db) (Free Dot ∷ Free (Reference rp) ∷ []) w.rest false w.agrees w.spelt in
    let d = lead_free Dot (Free (Reference rp) ∷ []) a.rest false a.agrees a.spelt in
    let b = lead_free (Reference rp) [] d.rest false d.agrees d.spelt in
    let first = a.spelled in
    let second = b.spelled in
    (first.1, second.1)
can_stmt (ChainStmt head links at) ts pattern h s =
    let l = lead_at (Ident head) at (spell_joints links) ts pattern h s in
    (name_of head l.bytes l.spelled, can_joints links l.rest false l.agrees l.spelt)

pub can_script : (script : List StmtTree) (ts : List Token) (pattern : Bool) → Agree ts (spell_script script) → Spelt pattern ts → CanScript script
can_script [] ts pattern h s = tt
can_script (stmt ∷ script) ts pattern h s =
    let p = parts (spell_stmt stmt) (spell_script script) ts pattern h s in
    (can_stmt stmt p.front pattern p.front_agrees p.front_spelt, can_script script p.back p.flag p.back_agrees p.back_spelt)
