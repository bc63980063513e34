-- What the reader of scripts has read are the tokens of what it holds.
use Rattle.std.proofs.Common.{◌≡◌, ℕ, ◌+◌, ◌-◌, ◌<◌, ◌≤◌, max, Bool, true, false, cond, ltb, ◌&&◌, Option, Some, None, List, [], ◌∷◌, ◌++◌, length, refl, sym, ap, ◌∙◌, subst, inl, inr, arith, append_assoc, ltb-true, length-append}
use Rattle.std.proofs.lemmas.List.{append-nil}
use Rattle.std.proofs.lemmas.Slice.Eq.{bytes_eq-Decides}
use Rattle.std.specs.Prelude.{bytes_eq}
use Rattle.kap_base.specs.declared.expr.Lit.{Lit}
use Rattle.kap_base.specs.declared.expr.Op.TheVariants.{Sub, Mul}
use Rattle.kap_base.specs.Tree.{Tree}
use Rattle.tick_lexer.specs.declared.token.Kind.{Kind}
use Rattle.tick_lexer.specs.declared.token.Kind.TheVariants.{Ident, Literal, Reference, Operator, OpenParen, CloseParen, Comma, Dot, Pipe, Assign, Var, Lambda}
use Rattle.tick_lexer.specs.declared.token.Token.{Token}
use Rattle.tick_parser.specs.declared.fault.ParseFault.{ParseFault}
use Rattle.tick_parser.specs.declared.fault.ParseFault.TheVariants.{Deep, TooMany}
use Rattle.tick_parser.specs.Trees.{ValTree, LitVal, StarVal, LambdaVal, ChainVal, ValTrees, NoVals, MoreVals, JointTrees, NoJoints, MoreJoints, StmtTree, VarStmt, DbrpStmt, vals_onto, joints_onto}
use Rattle.tick_parser.specs.Grammar.{Mark, At, Free, Signed, spell, Agree, Is, IsMinus, minus}
use Rattle.tick_parser.specs.Script.{spell_val, spell_vals, spell_more, spell_joints, spell_stmt, spell_script, word_dbrp, FitsVal, FitVals, FitJoints, IsOne, FitsStmt, FitsScript, depth_val, depth_vals, depth_joints, depth_stmt, depth_script, width_val, width_vals, width_joints, width_stmt, width_script}
use Rattle.tick_parser.specs.Lambdas as lambdas
use Rattle.tick_parser.specs.Machine.{Chain, Call, Context, Variable, Argument, State, Between, VarRead, NameRead, DbRead, DotRead, ValueNext, MinusRead, ValueRead, InLambda, ChainRead, LinkRead, CallRead, ParenRead, Stopped, linked, chain_value, chain_stmt, opens_context, opens, begin, argue, settle, leave, is_bare, is_dbrp, follow, star, value, signed, number, opening, opened, within, declare, assign, dotted, target, link, step, run}
use Rattle.tick_parser.proofs.Agreeing.{split, first, join, snoc, snoc_two}
use Rattle.tick_parser.proofs.Complete.{StarFits, both}
use Rattle.tick_parser.proofs.LambdaSound as sound
use Rattle.tick_parser.proofs.LambdaFaults as faults

-- the tokens of arguments that are read, the last first, each with its comma
abbrev pub spell_read : ValTrees → List Mark
spell_read NoVals = []
spell_read (MoreVals last args) = spell_read args ++ (spell_val last ++ Free Comma ∷ [])

-- the tokens of links that are read, the last first
abbrev pub spell_links : JointTrees → List Mark
spell_links NoJoints = []
spell_links (MoreJoints node name args at rest) =
    spell_links rest ++ (Free (cond node Pipe Dot) ∷ At (Ident name) at ∷ Free OpenParen ∷ spell_vals args)

abbrev pub spell_chain : Chain → List Mark
spell_chain chain = At (Ident chain.head) chain.at ∷ spell_links chain.links

abbrev pub spell_call : Call → List Mark
spell_call call = Free (cond call.node Pipe Dot) ∷ At (Ident call.name) call.at ∷ []

abbrev pub spell_context : Context → List Mark
spell_context (Variable name at) = At Var at ∷ Free (Ident name) ∷ Free Assign ∷ []
spell_context (Argument chain call args) = spell_chain chain ++ (spell_call call ++ (Free OpenParen ∷ spell_read args))

-- the tokens of what is read and open
abbrev pub spell_open : List StmtTree → List Context → List Mark
spell_open done [] = spell_script done
spell_open done (context ∷ stack) = spell_open done stack ++ spell_context context

-- the statements that are read
pub record Done (d w m : ℕ) (done : List StmtTree) : Type 0 where
  pub fits : FitsScript done
  pub deep : depth_script done ≤ d
  pub wide : width_script done ≤ w
  pub few : length done ≤ m

-- the links of a chain
pub record GoodLine (d w : ℕ) (stack : List Context) (chain : Chain) : Type 0 where
  pub fits : FitJoints chain.links
  pub deep : opens stack + depth_joints chain.links ≤ d
  pub wide : width_joints chain.links ≤ w

-- the arguments that are read
pub record GoodArgs (d w : ℕ) (stack : List Context) (args : ValTrees) : Type 0 where
  pub fits : FitVals args
  pub deep : opens stack + 1 + depth_vals args ≤ d
  pub wide : width_vals args ≤ w

abbrev pub GoodContext : ℕ → ℕ → List Context → Context → Type 0
GoodContext d w stack (Variable name at) = stack ≡ []
GoodContext d w stack (Argument chain call args) = GoodLine d w stack chain × GoodArgs d w stack args

abbrev pub GoodContexts : ℕ → ℕ → List Context → Type 0
GoodContexts d w [] = Unit {0}
GoodContexts d w (context ∷ stack) = GoodContext d w stack context × GoodContexts d w stack

-- a value that is read
pub record GoodVal (d w : ℕ) (stack : List Context) (context : Context) (v : ValTree) : Type 0 where
  pub fits : FitsVal v
  pub star : StarFits v context
  pub deep : opens stack + opens_context context + depth_val v ≤ d
  pub wide : width_val v ≤ w

-- these tokens were read: a part of a statement behind whole ones
pub record Pending (d w m : ℕ) (tokens : List Token) (done : List StmtTree) (stack : List Context) (marks : List Mark) : Type 0 where
  pub before : Done d w m done
  pub room : length done < m
  pub contexts : GoodContexts d w stack
  pub spelled : Agree tokens (spell_open done stack ++ marks)

-- a value comes
pub record Ready (d w m : ℕ) (tokens : List Token) (done : List StmtTree) (stack : List Context) (context : Context) : Type 0 where
  pub before : Done d w m done
  pub room : length done < m
  pub contexts : GoodContexts d w (context ∷ stack)
  pub spelled : Agree tokens (spell_open done (context ∷ stack))

-- a part of a lambda was read
pub record Inside (d w m : ℕ) (tokens : List Token) (done : List StmtTree) (stack : List Context) (context : Context) (at : ℕ) (inner : lambdas.State) : Type 0 where
  pub front : List Token
  pub back : List Token
  pub joined : tokens ≡ front ++ back
  pub outer : Pending d w m front done (context ∷ stack) (At Lambda at ∷ [])
  pub stands : sound.Stands (d - (opens stack + opens_context context)) w back inner
  pub going : faults.IsGoing inner

abbrev pub Stands : ℕ → ℕ → ℕ → List Token → State → Type 0
Stands d w m tokens (Between done) = Done d w m done × Agree tokens (spell_script done)
Stands d w m tokens (VarRead done at) = Pending d w m tokens done [] (At Var at ∷ [])
Stands d w m tokens (NameRead done name at) = Pending d w m tokens done [] (At Var at ∷ Free (Ident name) ∷ [])
Stands d w m tokens (DbRead done db at) = Pending d w m tokens done [] (At (Ident word_dbrp) at ∷ Free (Reference db) ∷ [])
Stands d w m tokens (DotRead done db at) = Pending d w m tokens done [] (At (Ident word_dbrp) at ∷ Free (Reference db) ∷ Free Dot ∷ [])
Stands d w m tokens (ValueNext done stack context) = Ready d w m tokens done stack context
Stands d w m tokens (MinusRead done stack context at) = Pending d w m tokens done (context ∷ stack) (At (Operator Sub) at ∷ [])
Stands d w m tokens (ValueRead done stack context v) = Pending d w m tokens done (context ∷ stack) (spell_val v) × GoodVal d w stack context v
Stands d w m tokens (InLambda done stack context at inner) = Inside d w m tokens done stack context at inner
Stands d w m tokens (ChainRead done stack chain) = Pending d w m tokens done stack (spell_chain chain) × GoodLine d w stack chain
Stands d w m tokens (LinkRead done stack chain node) = Pending d w m tokens done stack (spell_chain chain ++ Free (cond node Pipe Dot) ∷ []) × GoodLine d w stack chain
Stands d w m tokens (CallRead done stack chain call) = Pending d w m tokens done stack (spell_chain chain ++ spell_call call) × GoodLine d w stack chain
Stands d w m tokens (ParenRead done stack chain call) =
    Pending d w m tokens done stack (spell_chain chain ++ (spell_call call ++ Free OpenParen ∷ [])) × GoodLine d w stack chain × (opens stack < d)
Stands d w m tokens (Stopped fault) = Unit {0}

-- lists that were turned round
vals_fit : (args rest : ValTrees) → FitVals args → FitVals rest → FitVals (vals_onto args rest)
vals_fit NoVals rest h k = k
vals_fit (MoreVals last args) rest h k = vals_fit args (MoreVals last rest) h.1 (h.0, k)

vals_depth : (args rest : ValTrees) → depth_vals (vals_onto args rest) ≡ max (depth_vals args) (depth_vals rest)
vals_depth NoVals rest = omega arith
vals_depth (MoreVals last args) rest = let e = vals_depth args (MoreVals last rest) in omega arith

vals_width : (args rest : ValTrees) → width_vals (vals_onto args rest) ≡ max (width_vals args) (width_vals rest)
vals_width NoVals rest = omega arith
vals_width (MoreVals last args) rest = let e = vals_width args (MoreVals last rest) in omega arith

vals_spelled : (args : ValTrees) (last : ValTree) (rest : ValTrees) → spell_vals (vals_onto (MoreVals last args) rest) ≡ spell_read args ++ (spell_val last ++ spell_more rest)
vals_spelled NoVals last rest = refl
vals_spelled (MoreVals one args) last rest =
    vals_spelled args one (MoreVals last rest)
    ∙ sym (append_assoc (spell_read args) (spell_val one ++ Free Comma ∷ []) (spell_val last ++ spell_more rest)
    ∙ ap (λ (l : List Mark). spell_read args ++ l) (append_assoc (spell_val one) (Free Comma ∷ []) (spell_val last ++ spell_more rest)))

joints_fit : (links rest : JointTrees) → FitJoints links → FitJoints rest → FitJoints (joints_onto links rest)
joints_fit NoJoints rest h k = k
joints_fit (MoreJoints node name args at links) rest h k = joints_fit links (MoreJoints node name args at rest) h.1 (h.0, k)

joints_depth : (links rest : JointTrees) → depth_joints (joints_onto links rest) ≡ max (depth_joints links) (depth_joints rest)
joints_depth NoJoints rest = omega arith
joints_depth (MoreJoints node name args at links) rest = let e = joints_depth links (MoreJoints node name args at rest) in omega arith

joints_width : (links rest : JointTrees) → width_joints (joints_onto links rest) ≡ max (width_joints links) (width_joints rest)
joints_width NoJoints rest = omega arith
joints_width (MoreJoints node name args at links) rest = let e = joints_width links (MoreJoints node name args at rest) in omega arith

joints_spelled : (links rest : JointTrees) → spell_joints (joints_onto links rest) ≡ spell_links links ++ spell_joints rest
joints_spelled NoJoints rest = refl
joints_spelled (MoreJoints node name args at links) rest =
    joints_spelled links (MoreJoints node name args at rest)
    ∙ sym (append_assoc (spell_links links) (Free (cond node Pipe Dot) ∷ At (Ident name) at ∷ Free OpenParen ∷ spell_vals args) (spell_joints rest))

-- a whole chain's tokens
chain_spelled : (chain : Chain) → At (Ident chain.head) chain.at ∷ spell_joints (joints_onto chain.links NoJoints) ≡ spell_chain chain
chain_spelled chain = ap (λ (l : List Mark). At (Ident chain.head) chain.at ∷ l) (joints_spelled chain.links NoJoints ∙ append-nil (spell_links chain.links))

-- one more statement
script_spelled : (done : List StmtTree) (stmt : StmtTree) → spell_script (done ++ stmt ∷ []) ≡ spell_script done ++ spell_stmt stmt
script_spelled [] stmt = append-nil (spell_stmt stmt)
script_spelled (x ∷ done) stmt =
    ap (λ (l : List Mark). spell_stmt x ++ l) (script_spelled done stmt) ∙ sym (append_assoc (spell_stmt x) (spell_script done) (spell_stmt stmt))

script_fits : (done : List StmtTree) (stmt : StmtTree) → FitsScript done → FitsStmt stmt → FitsScript (done ++ stmt ∷ [])
script_fits [] stmt h k = (k, tt)
script_fits (x ∷ done) stmt h k = (h.0, script_fits done stmt h.1 k)

script_depth : (done : List StmtTree) (stmt : StmtTree) → depth_script (done ++ stmt ∷ []) ≡ max (depth_script done) (depth_stmt stmt)
script_depth [] stmt = omega arith
script_depth (x ∷ done) stmt = let e = script_depth done stmt in omega arith

script_width : (done : List StmtTree) (stmt : StmtTree) → width_script (done ++ stmt ∷ []) ≡ max (width_script done) (width_stmt stmt)
script_width [] stmt = omega arith
script_width (x ∷ done) stmt = let e = script_width done stmt in omega arith

done_more : (d w m : ℕ) (done : List StmtTree) (stmt : StmtTree) → Done d w m done → length done < m → FitsStmt stmt → depth_stmt stmt ≤ d → width_stmt stmt ≤ w → Done d w m (done ++ stmt ∷ [])
done_more d w m done stmt h lt fit deep wide =
    let e = script_depth done stmt in
    let f = script_width done stmt in
    let a = h.deep in
    let b = h.wide in
    record {
      fits = script_fits done stmt h.fits fit;
      deep = omega arith;
      wide = omega arith;
      few = omega (arith, length-append done (stmt ∷ []));
    }

pub move : (tokens : List Token) (a b : List Mark) → a ≡ b → Agree tokens a → Agree tokens b
move tokens a b e h = subst (λ (l : List Mark). Agree tokens l) e h

-- a test that is met, or stops the reader
tested : (P : State → Type 0) (b : Bool) (s : State) (f : ParseFault) → (b ≡ true → P s) → P (Stopped f) → P (cond b s (Stopped f))
tested P true s f h k = h refl
tested P false s f h k = k

chosen : (P : State → Type 0) (b : Bool) (s t : State) → (b ≡ true → P s) → P t → P (cond b s t)
chosen P true s t h k = h refl
chosen P false s t h k = k

pub begin_stands : (d w m : ℕ) (tokens : List Token) (done : List StmtTree) (token : Token) (kind : Kind) → Done d w m done → Agree tokens (spell_script done) → token.kind ≡ kind → Stands d w m (tokens ++ token ∷ []) (begin m done token.start kind)
begin_stands d w m tokens done token Var h a e =
    tested (Stands d w m (tokens ++ token ∷ [])) (ltb (length done) m) (VarRead done token.start) (TooMany token.start)
    (λ (lt : ltb (length done) m ≡ true). record {
      before = h;
      room = ltb-true (length done) m lt;
      contexts = tt;
      spelled = snoc (spell_script done) (spell_script done ++ At Var token.start ∷ []) (At Var token.start) tokens token a (e, refl) refl;
    })
    tt
begin_stands d w m tokens done token (Ident name) h a e =
    tested (Stands d w m (tokens ++ token ∷ [])) (ltb (length done) m) (ChainRead done [] (record { head = name; links = NoJoints; at = token.start })) (TooMany token.start)
    (λ (lt : ltb (length done) m ≡ true). (
      record {
        before = h;
        room = ltb-true (length done) m lt;
        contexts = tt;
        spelled = snoc (spell_script done) (spell_script done ++ At (Ident name) token.start ∷ []) (At (Ident name) token.start) tokens token a (e, refl) refl;
      },
      record { fits = tt; deep = omega arith; wide = omega arith },
    ))
    tt
begin_stands d w m tokens done token _ h a e = tt

one_of : (v : ValTree) (name : List ℕ) (at : ℕ) → StarFits v (Variable name at) → IsOne v
one_of (LitVal lit place) name at h = tt
one_of (StarVal place) name at h = elim h [ ]
one_of (LambdaVal body place) name at h = tt
one_of (ChainVal head links place) name at h = tt

-- marks that are grouped anew
regroup : (o l c r v m : List Mark) → ((o ++ (l ++ (c ++ r))) ++ v) ++ m ≡ o ++ (l ++ (c ++ (r ++ (v ++ m))))
regroup o l c r v m = simp append_assoc

argue_stands : (d w m : ℕ) (tokens : List Token) (done : List StmtTree) (stack : List Context) (chain : Chain) (call : Call) (args : ValTrees) (v : ValTree) (token : Token) (kind : Kind) → Pending d w m tokens done (Argument chain call args ∷ stack) (spell_val v) → GoodVal d w stack (Argument chain call args) v → token.kind ≡ kind → Stands d w m (tokens ++ token ∷ []) (argue done stack chain call (MoreVals v args) token.start kind)
argue_stands d w m tokens done stack chain call args v token CloseParen p g e =
    let h = p.contexts in
    let l = h.0.0 in
    let a = h.0.1 in
    let all = vals_onto (MoreVals v args) NoVals in
    let deep = vals_depth (MoreVals v args) NoVals in
    let wide = vals_width (MoreVals v args) NoVals in
    let ld = l.deep in
    let lw = l.wide in
    let ad = a.deep in
    let aw = a.wide in
    let gd = g.deep in
    let gw = g.wide in
    let whole : spell_vals all ≡ spell_read args ++ (spell_val v ++ Free CloseParen ∷ []) = vals_spelled args v NoVals in
    let flat : ((spell_open done stack ++ (spell_chain chain ++ (spell_call call ++ (Free OpenParen ∷ spell_read args)))) ++ spell_val v) ++ Free CloseParen ∷ [] ≡ spell_open done stack ++ (At (Ident chain.head) chain.at ∷ (spell_links chain.links ++ (Free (cond call.node Pipe Dot) ∷ At (Ident call.name) call.at ∷ Free OpenParen ∷ (spell_read args ++ (spell_val v ++ Free CloseParen ∷ []))))) =
    regroup (spell_open done stack) (spell_chain chain) (spell_call call) (Free OpenParen ∷ spell_read args) (spell_val v) (Free CloseParen ∷ []) in
    let turned : spell_open done stack ++ (At (Ident chain.head) chain.at ∷ (spell_links chain.links ++ (Free (cond call.node Pipe Dot) ∷ At (Ident call.name) call.at ∷ Free OpenParen ∷ (spell_read args ++ (spell_val v ++ Free CloseParen ∷ []))))) ≡ spell_open done stack ++ spell_chain (linked chain call all) =
    ap (λ (x : List Mark). spell_open done stack ++ (At (Ident chain.head) chain.at ∷ (spell_links chain.links ++ (Free (cond call.node Pipe Dot) ∷ At (Ident call.name) call.at ∷ Free OpenParen ∷ x)))) (sym whole) in (
      record {
        before = p.before;
        room = p.room;
        contexts = h.1;
        spelled =
            snoc (spell_open done (Argument chain call args ∷ stack) ++ spell_val v) (spell_open done stack ++ spell_chain (linked chain call all)) (Free CloseParen) tokens token p.spelled e (flat ∙ turned);
      },
      record { fits = (vals_fit (MoreVals v args) NoVals (g.fits, a.fits) tt, l.fits); deep = omega arith; wide = omega arith },
    )
argue_stands d w m tokens done stack chain call args v token Comma p g e =
    let h = p.contexts in
    let a = h.0.1 in
    let ad = a.deep in
    let aw = a.wide in
    let gd = g.deep in
    let gw = g.wide in
    let flat : ((spell_open done stack ++ (spell_chain chain ++ (spell_call call ++ (Free OpenParen ∷ spell_read args)))) ++ spell_val v) ++ Free Comma ∷ [] ≡ spell_open done stack ++ (spell_chain chain ++ (spell_call call ++ (Free OpenParen ∷ (spell_read args ++ (spell_val v ++ Free Comma ∷ []))))) =
    regroup (spell_open done stack) (spell_chain chain) (spell_call call) (Free OpenParen ∷ spell_read args) (spell_val v) (Free Comma ∷ []) in
    record {
      before = p.before;
      room = p.room;
      contexts = ((h.0.0, record { fits = (g.fits, a.fits); deep = omega arith; wide = omega arith }), h.1);
      spelled =
          snoc (spell_open done (Argument chain call args ∷ stack) ++ spell_val v) (spell_open done (Argument chain call (MoreVals v args) ∷ stack)) (Free Comma) tokens token p.spelled e flat;
    }
argue_stands d w m tokens done stack chain call args v token _ p g e = tt

pub declared_done : (d w m : ℕ) (tokens : List Token) (done : List StmtTree) (name : List ℕ) (at : ℕ) (v : ValTree) → Pending d w m tokens done (Variable name at ∷ []) (spell_val v) → GoodVal d w [] (Variable name at) v → Done d w m (done ++ VarStmt name v at ∷ []) × Agree tokens (spell_script (done ++ VarStmt name v at ∷ []))
declared_done d w m tokens done name at v p g =
    let gd = g.deep in (
      done_more d w m done (VarStmt name v at) p.before p.room (one_of v name at g.star, g.fits) (omega arith) g.wide,
      move tokens ((spell_script done ++ (At Var at ∷ Free (Ident name) ∷ Free Assign ∷ [])) ++ spell_val v) (spell_script (done ++ VarStmt name v at ∷ []))
          (append_assoc (spell_script done) (At Var at ∷ Free (Ident name) ∷ Free Assign ∷ []) (spell_val v) ∙ sym (script_spelled done (VarStmt name v at))) p.spelled,
    )

pub settle_stands : (d w m : ℕ) (tokens : List Token) (done : List StmtTree) (stack : List Context) (context : Context) (v : ValTree) (token : Token) (kind : Kind) → Pending d w m tokens done (context ∷ stack) (spell_val v) → GoodVal d w stack context v → token.kind ≡ kind → Stands d w m (tokens ++ token ∷ []) (settle m done stack context v token.start kind)
settle_stands d w m tokens done [] (Variable name at) v token kind p g e =
    let x = declared_done d w m tokens done name at v p g in
    begin_stands d w m tokens (done ++ VarStmt name v at ∷ []) token kind x.0 x.1 e
settle_stands d w m tokens done (top ∷ stack) (Variable name at) v token kind p g e = let h = p.contexts in let none : top ∷ stack ≡ [] = h.0 in absurd (cc)
settle_stands d w m tokens done stack (Argument chain call args) v token kind p g e = argue_stands d w m tokens done stack chain call args v token kind p g e

-- a chain as a value
pub chain_valued : (d w m : ℕ) (tokens : List Token) (done : List StmtTree) (stack : List Context) (context : Context) (chain : Chain) → Pending d w m tokens done (context ∷ stack) (spell_chain chain) → GoodLine d w (context ∷ stack) chain → Pending d w m tokens done (context ∷ stack) (spell_val (chain_value chain)) × GoodVal d w stack context (chain_value chain)
chain_valued d w m tokens done stack context chain p g =
    let deep = joints_depth chain.links NoJoints in
    let wide = joints_width chain.links NoJoints in
    let gd = g.deep in
    let gw = g.wide in (
      record {
        before = p.before;
        room = p.room;
        contexts = p.contexts;
        spelled = move tokens (spell_open done (context ∷ stack) ++ spell_chain chain) (spell_open done (context ∷ stack) ++ spell_val (chain_value chain)) (ap (λ (l : List Mark). spell_open done (context ∷ stack) ++ l) (sym (chain_spelled chain))) p.spelled;
      },
      record { fits = joints_fit chain.links NoJoints g.fits tt; star = tt; deep = omega arith; wide = omega arith },
    )

-- a chain as a statement
pub chain_done : (d w m : ℕ) (tokens : List Token) (done : List StmtTree) (chain : Chain) → Pending d w m tokens done [] (spell_chain chain) → GoodLine d w [] chain → Done d w m (done ++ chain_stmt chain ∷ []) × Agree tokens (spell_script (done ++ chain_stmt chain ∷ []))
chain_done d w m tokens done chain p g =
    let deep = joints_depth chain.links NoJoints in
    let wide = joints_width chain.links NoJoints in
    let gd = g.deep in
    let gw = g.wide in (
      done_more d w m done (chain_stmt chain) p.before p.room (joints_fit chain.links NoJoints g.fits tt) (omega arith) (omega arith),
      move tokens (spell_script done ++ spell_chain chain) (spell_script (done ++ chain_stmt chain ∷ []))
          (ap (λ (l : List Mark). spell_script done ++ l) (sym (chain_spelled chain)) ∙ sym (script_spelled done (chain_stmt chain))) p.spelled,
    )

leave_stands : (d w m : ℕ) (tokens : List Token) (done : List StmtTree) (stack : List Context) (chain : Chain) (token : Token) (kind : Kind) → Pending d w m tokens done stack (spell_chain chain) → GoodLine d w stack chain → token.kind ≡ kind → Stands d w m (tokens ++ token ∷ []) (leave m done stack chain token.start kind)
leave_stands d w m tokens done [] chain token kind p g e =
    let x = chain_done d w m tokens done chain p g in
    begin_stands d w m tokens (done ++ chain_stmt chain ∷ []) token kind x.0 x.1 e
leave_stands d w m tokens done (context ∷ stack) chain token kind p g e =
    let x = chain_valued d w m tokens done stack context chain p g in
    settle_stands d w m tokens done stack context (chain_value chain) token kind x.0 x.1 e

-- a statement that is no more than the name of a dbrp statement
bare_word : (b : Bool) (chain : Chain) → is_bare chain.links && b ≡ true → (chain.links ≡ NoJoints) × (b ≡ true)
bare_word b chain e =
    let go : (links : JointTrees) → is_bare links && b ≡ true → (links ≡ NoJoints) × (b ≡ true) =
    elim [
      | NoJoints ↦ λ h. (refl, h)
      | MoreJoints node name args at rest ↦ λ h. absurd (cc)
    ] in
    go chain.links e

word_is : (a b : List ℕ) → bytes_eq a b ≡ true → a ≡ b
word_is a b e = grind (arith, bytes_eq-Decides)

dbrp_stands : (d w m : ℕ) (tokens : List Token) (done : List StmtTree) (stack : List Context) (chain : Chain) (db : List ℕ) (token : Token) → Pending d w m tokens done stack (spell_chain chain) → token.kind ≡ Reference db → is_dbrp stack chain ≡ true → Stands d w m (tokens ++ token ∷ []) (DbRead done db chain.at)
dbrp_stands d w m tokens done [] chain db token p e t =
    let x = bare_word (bytes_eq chain.head word_dbrp) chain t in
    let name : chain.head ≡ word_dbrp = word_is chain.head word_dbrp x.1 in
    let marks : spell_chain chain ≡ At (Ident word_dbrp) chain.at ∷ [] =
    both (λ (h : List ℕ) (l : JointTrees). At (Ident h) chain.at ∷ spell_links l) chain.head word_dbrp chain.links NoJoints name x.0 in
    record {
      before = p.before;
      room = p.room;
      contexts = tt;
      spelled =
          snoc (spell_script done ++ At (Ident word_dbrp) chain.at ∷ []) (spell_script done ++ (At (Ident word_dbrp) chain.at ∷ Free (Reference db) ∷ [])) (Free (Reference db)) tokens token
          (move tokens (spell_script done ++ spell_chain chain) (spell_script done ++ At (Ident word_dbrp) chain.at ∷ []) (ap (λ (l : List Mark). spell_script done ++ l) marks) p.spelled) e
          (append_assoc (spell_script done) (At (Ident word_dbrp) chain.at ∷ []) (Free (Reference db) ∷ []));
    }
dbrp_stands d w m tokens done (context ∷ stack) chain db token p e t = absurd (cc)

-- one more mark of a part of a statement
pending_more : (d w m : ℕ) (tokens : List Token) (done : List StmtTree) (stack : List Context) (a b : List Mark) (mark : Mark) (token : Token) → Pending d w m tokens done stack a → Is (token ∷ []) mark → a ++ mark ∷ [] ≡ b → Pending d w m (tokens ++ token ∷ []) done stack b
pending_more d w m tokens done stack a b mark token p i e = record {
  before = p.before;
  room = p.room;
  contexts = p.contexts;
  spelled =
      snoc (spell_open done stack ++ a) (spell_open done stack ++ b) mark tokens token p.spelled i
      (append_assoc (spell_open done stack) a (mark ∷ []) ∙ ap (λ (l : List Mark). spell_open done stack ++ l) e);
}

follow_stands : (d w m : ℕ) (tokens : List Token) (done : List StmtTree) (stack : List Context) (chain : Chain) (token : Token) (kind : Kind) → Pending d w m tokens done stack (spell_chain chain) → GoodLine d w stack chain → token.kind ≡ kind → Stands d w m (tokens ++ token ∷ []) (follow m done stack chain token.start kind)
follow_stands d w m tokens done stack chain token Pipe p g e = (pending_more d w m tokens done stack (spell_chain chain) (spell_chain chain ++ Free Pipe ∷ []) (Free Pipe) token p e refl, g)
follow_stands d w m tokens done stack chain token Dot p g e = (pending_more d w m tokens done stack (spell_chain chain) (spell_chain chain ++ Free Dot ∷ []) (Free Dot) token p e refl, g)
follow_stands d w m tokens done stack chain token (Reference db) p g e =
    chosen (Stands d w m (tokens ++ token ∷ [])) (is_dbrp stack chain) (DbRead done db chain.at) (leave m done stack chain token.start (Reference db))
    (λ (t : is_dbrp stack chain ≡ true). dbrp_stands d w m tokens done stack chain db token p e t)
    (leave_stands d w m tokens done stack chain token (Reference db) p g e)
follow_stands d w m tokens done stack chain token kind p g e = leave_stands d w m tokens done stack chain token kind p g e

pub context_room : (d w : ℕ) (stack : List Context) (context : Context) → GoodContext d w stack context → opens stack + opens_context context ≤ d
context_room d w [] (Variable name at) h = omega arith
context_room d w (top ∷ stack) (Variable name at) h = let none : top ∷ stack ≡ [] = h in absurd (cc)
context_room d w stack (Argument chain call args) h = let a = h.1 in let k = a.deep in omega arith

-- where a value comes, one more mark
ready_more : (d w m : ℕ) (tokens : List Token) (done : List StmtTree) (stack : List Context) (context : Context) (mark : Mark) (token : Token) → Ready d w m tokens done stack context → Is (token ∷ []) mark → Pending d w m (tokens ++ token ∷ []) done (context ∷ stack) (mark ∷ [])
ready_more d w m tokens done stack context mark token p i = record {
  before = p.before;
  room = p.room;
  contexts = p.contexts;
  spelled = snoc (spell_open done (context ∷ stack)) (spell_open done (context ∷ stack) ++ mark ∷ []) mark tokens token p.spelled i refl;
}

star_stands : (d w m : ℕ) (tokens : List Token) (done : List StmtTree) (stack : List Context) (context : Context) (token : Token) → Ready d w m tokens done stack context → token.kind ≡ Operator Mul → Stands d w m (tokens ++ token ∷ []) (star done stack context token.start)
star_stands d w m tokens done stack (Variable name at) token p e = tt
star_stands d w m tokens done stack (Argument chain call args) token p e =
    let h = p.contexts in
    let k = context_room d w stack (Argument chain call args) h.0 in
    (ready_more d w m tokens done stack (Argument chain call args) (At (Operator Mul) token.start) token p (e, refl), record { fits = tt; star = tt; deep = omega arith; wide = omega arith })

pub value_stands : (d w m : ℕ) (tokens : List Token) (done : List StmtTree) (stack : List Context) (context : Context) (token : Token) (kind : Kind) → Ready d w m tokens done stack context → token.kind ≡ kind → Stands d w m (tokens ++ token ∷ []) (value done stack context token.start kind)
value_stands d w m tokens done stack context token (Literal lit) p e =
    let h = p.contexts in
    let k = context_room d w stack context h.0 in
    (ready_more d w m tokens done stack context (Signed lit token.start) token p (inl (e, refl)), record { fits = tt; star = tt; deep = omega arith; wide = omega arith })
value_stands d w m tokens done stack context token (Operator Sub) p e = ready_more d w m tokens done stack context (At (Operator Sub) token.start) token p (e, refl)
value_stands d w m tokens done stack context token (Operator Mul) p e = star_stands d w m tokens done stack context token p e
value_stands d w m tokens done stack context token Lambda p e =
    let h = p.contexts in
    let k = context_room d w stack context h.0 in
    record {
      front = tokens ++ token ∷ [];
      back = [];
      joined = sym (append-nil (tokens ++ token ∷ []));
      outer = ready_more d w m tokens done stack context (At Lambda token.start) token p (e, refl);
      stands = record { good = tt; spelled = refl; counted = refl; room = omega arith; few = omega arith };
      going = tt;
    }
value_stands d w m tokens done stack context token (Ident name) p e =
    let h = p.contexts in
    let k = context_room d w stack context h.0 in
    (ready_more d w m tokens done stack context (At (Ident name) token.start) token p (e, refl), record { fits = tt; deep = omega arith; wide = omega arith })
value_stands d w m tokens done stack context token _ p e = tt

signed_stands : (d w m : ℕ) (tokens : List Token) (done : List StmtTree) (stack : List Context) (context : Context) (place : ℕ) (token : Token) (lit : Lit) (found : Option Lit) → Pending d w m tokens done (context ∷ stack) (At (Operator Sub) place ∷ []) → token.kind ≡ Literal lit → minus lit ≡ found → Stands d w m (tokens ++ token ∷ []) (signed done stack context place token.start found)
signed_stands d w m tokens done stack context place token lit None p e f = tt
signed_stands d w m tokens done stack context place token lit (Some number) p e f =
    let h = p.contexts in
    let k = context_room d w stack context h.0 in
    let before = spell_open done (context ∷ stack) in
    let c = split before (At (Operator Sub) place ∷ []) tokens p.spelled in
    let o = first (At (Operator Sub) place) [] c.back tt c.back_agrees in
    let one : c.back ≡ o.token ∷ [] = o.joined ∙ ap (λ (l : List Token). o.token ∷ l) o.rest_agrees in
    let joined : tokens ++ token ∷ [] ≡ c.front ++ (o.token ∷ token ∷ []) =
    ap (λ (l : List Token). l ++ token ∷ []) (c.joined ∙ ap (λ (l : List Token). c.front ++ l) one) ∙ append_assoc c.front (o.token ∷ []) (token ∷ []) in
    let is_minus : IsMinus token.kind number = subst (λ (x : Kind). IsMinus x number) (sym e) f in
    let agrees : Agree (c.front ++ (o.token ∷ token ∷ [])) (before ++ Signed number place ∷ []) =
    snoc_two before (before ++ Signed number place ∷ []) (Signed number place) c.front o.token token c.front_agrees (inr (o.is.0, o.is.1, is_minus)) refl in (
      record { before = p.before; room = p.room; contexts = p.contexts; spelled = subst (λ (l : List Token). Agree l (before ++ Signed number place ∷ [])) (sym joined) agrees },
      record { fits = tt; star = tt; deep = omega arith; wide = omega arith },
    )

number_stands : (d w m : ℕ) (tokens : List Token) (done : List StmtTree) (stack : List Context) (context : Context) (place : ℕ) (token : Token) (kind : Kind) → Pending d w m tokens done (context ∷ stack) (At (Operator Sub) place ∷ []) → token.kind ≡ kind → Stands d w m (tokens ++ token ∷ []) (number done stack context place token.start kind)
number_stands d w m tokens done stack context place token (Literal lit) p e = signed_stands d w m tokens done stack context place token lit (minus lit) p e refl
number_stands d w m tokens done stack context place token _ p e = tt

opening_stands : (d w m : ℕ) (tokens : List Token) (done : List StmtTree) (stack : List Context) (chain : Chain) (call : Call) (token : Token) (kind : Kind) → Pending d w m tokens done stack (spell_chain chain ++ spell_call call) → GoodLine d w stack chain → token.kind ≡ kind → Stands d w m (tokens ++ token ∷ []) (opening d done stack chain call token.start kind)
opening_stands d w m tokens done stack chain call token OpenParen p g e =
    tested (Stands d w m (tokens ++ token ∷ [])) (ltb (opens stack) d) (ParenRead done stack chain call) (Deep token.start)
    (λ (lt : ltb (opens stack) d ≡ true). (
      pending_more d w m tokens done stack (spell_chain chain ++ spell_call call) (spell_chain chain ++ (spell_call call ++ Free OpenParen ∷ [])) (Free OpenParen) token p e (append_assoc (spell_chain chain) (spell_call call) (Free OpenParen ∷ [])),
      g,
      ltb-true (opens stack) d lt,
    ))
    tt
opening_stands d w m tokens done stack chain call token _ p g e = tt

opened_stands : (d w m : ℕ) (tokens : List Token) (done : List StmtTree) (stack : List Context) (chain : Chain) (call : Call) (token : Token) (kind : Kind) → Pending d w m tokens done stack (spell_chain chain ++ (spell_call call ++ Free OpenParen ∷ [])) → GoodLine d w stack chain → opens stack < d → token.kind ≡ kind → Stands d w m (tokens ++ token ∷ []) (opened done stack chain call token.start kind)
opened_stands d w m tokens done stack chain call token CloseParen p g lt e =
    let gd = g.deep in
    let gw = g.wide in (
      pending_more d w m tokens done stack (spell_chain chain ++ (spell_call call ++ Free OpenParen ∷ [])) (spell_chain (linked chain call NoVals)) (Free CloseParen) token p e (append_assoc (spell_chain chain) (spell_call call ++ Free OpenParen ∷ []) (Free CloseParen ∷ [])),
      record { fits = (tt, g.fits); deep = omega arith; wide = omega arith },
    )
opened_stands d w m tokens done stack chain call token kind p g lt e =
    value_stands d w m tokens done stack (Argument chain call NoVals) token kind
    (record { before = p.before; room = p.room; contexts = ((g, record { fits = tt; deep = omega arith; wide = omega arith }), p.contexts); spelled = p.spelled }) e

declare_stands : (d w m : ℕ) (tokens : List Token) (done : List StmtTree) (at : ℕ) (token : Token) (kind : Kind) → Pending d w m tokens done [] (At Var at ∷ []) → token.kind ≡ kind → Stands d w m (tokens ++ token ∷ []) (declare done at token.start kind)
declare_stands d w m tokens done at token (Ident name) p e = pending_more d w m tokens done [] (At Var at ∷ []) (At Var at ∷ Free (Ident name) ∷ []) (Free (Ident name)) token p e refl
declare_stands d w m tokens done at token _ p e = tt

assign_stands : (d w m : ℕ) (tokens : List Token) (done : List StmtTree) (name : List ℕ) (at : ℕ) (token : Token) (kind : Kind) → Pending d w m tokens done [] (At Var at ∷ Free (Ident name) ∷ []) → token.kind ≡ kind → Stands d w m (tokens ++ token ∷ []) (assign done name at token.start kind)
assign_stands d w m tokens done name at token Assign p e =
    let q = pending_more d w m tokens done [] (At Var at ∷ Free (Ident name) ∷ []) (At Var at ∷ Free (Ident name) ∷ Free Assign ∷ []) (Free Assign) token p e refl in
    record { before = q.before; room = q.room; contexts = (refl, tt); spelled = q.spelled }
assign_stands d w m tokens done name at token _ p e = tt

dotted_stands : (d w m : ℕ) (tokens : List Token) (done : List StmtTree) (db : List ℕ) (at : ℕ) (token : Token) (kind : Kind) → Pending d w m tokens done [] (At (Ident word_dbrp) at ∷ Free (Reference db) ∷ []) → token.kind ≡ kind → Stands d w m (tokens ++ token ∷ []) (dotted done db at token.start kind)
dotted_stands d w m tokens done db at token Dot p e =
    pending_more d w m tokens done [] (At (Ident word_dbrp) at ∷ Free (Reference db) ∷ []) (At (Ident word_dbrp) at ∷ Free (Reference db) ∷ Free Dot ∷ []) (Free Dot) token p e refl
dotted_stands d w m tokens done db at token _ p e = tt

target_stands : (d w m : ℕ) (tokens : List Token) (done : List StmtTree) (db : List ℕ) (at : ℕ) (token : Token) (kind : Kind) → Pending d w m tokens done [] (At (Ident word_dbrp) at ∷ Free (Reference db) ∷ Free Dot ∷ []) → token.kind ≡ kind → Stands d w m (tokens ++ token ∷ []) (target done db at token.start kind)
target_stands d w m tokens done db at token (Reference rp) p e =
    let q = pending_more d w m tokens done [] (At (Ident word_dbrp) at ∷ Free (Reference db) ∷ Free Dot ∷ []) (spell_stmt (DbrpStmt db rp at)) (Free (Reference rp)) token p e refl in (
      done_more d w m done (DbrpStmt db rp at) p.before p.room tt (omega arith) (omega arith),
      move (tokens ++ token ∷ []) (spell_script done ++ spell_stmt (DbrpStmt db rp at)) (spell_script (done ++ DbrpStmt db rp at ∷ [])) (sym (script_spelled done (DbrpStmt db rp at))) q.spelled,
    )
target_stands d w m tokens done db at token _ p e = tt

link_stands : (d w m : ℕ) (tokens : List Token) (done : List StmtTree) (stack : List Context) (chain : Chain) (node : Bool) (token : Token) (kind : Kind) → Pending d w m tokens done stack (spell_chain chain ++ Free (cond node Pipe Dot) ∷ []) → GoodLine d w stack chain → token.kind ≡ kind → Stands d w m (tokens ++ token ∷ []) (link done stack chain node token.start kind)
link_stands d w m tokens done stack chain node token (Ident name) p g e = (
  pending_more d w m tokens done stack (spell_chain chain ++ Free (cond node Pipe Dot) ∷ []) (spell_chain chain ++ (Free (cond node Pipe Dot) ∷ At (Ident name) token.start ∷ [])) (At (Ident name) token.start) token p (e, refl) (append_assoc (spell_chain chain) (Free (cond node Pipe Dot) ∷ []) (At (Ident name) token.start ∷ [])),
  g,
)
link_stands d w m tokens done stack chain node token _ p g e = tt

-- a whole lambda as a value
pub lambda_valued : (d w m : ℕ) (tokens front back : List Token) (done : List StmtTree) (stack : List Context) (context : Context) (at : ℕ) (body : Tree) → tokens ≡ front ++ back → Pending d w m front done (context ∷ stack) (At Lambda at ∷ []) → faults.Whole (d - (opens stack + opens_context context)) w back body → Pending d w m tokens done (context ∷ stack) (spell_val (LambdaVal body at)) × GoodVal d w stack context (LambdaVal body at)
lambda_valued d w m tokens front back done stack context at body j p x =
    let h = p.contexts in
    let k = context_room d w stack context h.0 in
    let room = x.room in
    let before = spell_open done (context ∷ stack) in
    let agrees : Agree (front ++ back) ((before ++ At Lambda at ∷ []) ++ spell body) = join (before ++ At Lambda at ∷ []) (spell body) front back p.spelled x.spelled in
    let whole : Agree (front ++ back) (before ++ spell_val (LambdaVal body at)) = move (front ++ back) ((before ++ At Lambda at ∷ []) ++ spell body) (before ++ spell_val (LambdaVal body at)) (append_assoc before (At Lambda at ∷ []) (spell body)) agrees in (
      record { before = p.before; room = p.room; contexts = p.contexts; spelled = subst (λ (l : List Token). Agree l (before ++ spell_val (LambdaVal body at))) (sym j) whole },
      record { fits = x.fits; star = tt; deep = omega arith; wide = x.few },
    )

-- one more token of a lambda
inside_more : (d w m : ℕ) (tokens : List Token) (done : List StmtTree) (stack : List Context) (context : Context) (at : ℕ) (inner next : lambdas.State) (token : Token) → (i : Inside d w m tokens done stack context at inner) → lambdas.step (d - (opens stack + opens_context context)) w inner token ≡ next → faults.IsGoing next → Inside d w m (tokens ++ token ∷ []) done stack context at next
inside_more d w m tokens done stack context at inner next token i e g =
    let room = d - (opens stack + opens_context context) in
    record {
      front = i.front;
      back = i.back ++ token ∷ [];
      joined = ap (λ (l : List Token). l ++ token ∷ []) i.joined ∙ append_assoc i.front i.back (token ∷ []);
      outer = i.outer;
      stands = subst (λ (s : lambdas.State). sound.Stands room w (i.back ++ token ∷ []) s) e (sound.step_stands room w i.back inner token i.stands);
      going = g;
    }

within_stands : (d w m : ℕ) (tokens : List Token) (done : List StmtTree) (stack : List Context) (context : Context) (at : ℕ) (inner next : lambdas.State) (token : Token) → Inside d w m tokens done stack context at inner → lambdas.step (d - (opens stack + opens_context context)) w inner token ≡ next → Stands d w m (tokens ++ token ∷ []) (within m done stack context at token.start token.kind next)
within_stands d w m tokens done stack context at inner (lambdas.OperandNext st n) token i e = inside_more d w m tokens done stack context at inner (lambdas.OperandNext st n) token i e tt
within_stands d w m tokens done stack context at inner (lambdas.CallOpened st n) token i e = inside_more d w m tokens done stack context at inner (lambdas.CallOpened st n) token i e tt
within_stands d w m tokens done stack context at inner (lambdas.OperandRead st t n) token i e = inside_more d w m tokens done stack context at inner (lambdas.OperandRead st t n) token i e tt
within_stands d w m tokens done stack context at inner (lambdas.Ended body) token i e =
    let x = faults.ended (d - (opens stack + opens_context context)) w i.back inner token body i.stands i.going e in
    let v = lambda_valued d w m tokens i.front i.back done stack context at body i.joined i.outer x in
    settle_stands d w m tokens done stack context (LambdaVal body at) token token.kind v.0 v.1 refl
within_stands d w m tokens done stack context at inner (lambdas.Stopped f) token i e = tt

pub step_stands : (d w m : ℕ) (tokens : List Token) (s : State) (token : Token) → Stands d w m tokens s → Stands d w m (tokens ++ token ∷ []) (step d w m s token)
step_stands d w m tokens (Between done) token h = begin_stands d w m tokens done token token.kind h.0 h.1 refl
step_stands d w m tokens (VarRead done at) token h = declare_stands d w m tokens done at token token.kind h refl
step_stands d w m tokens (NameRead done name at) token h = assign_stands d w m tokens done name at token token.kind h refl
step_stands d w m tokens (DbRead done db at) token h = dotted_stands d w m tokens done db at token token.kind h refl
step_stands d w m tokens (DotRead done db at) token h = target_stands d w m tokens done db at token token.kind h refl
step_stands d w m tokens (ValueNext done stack context) token h = value_stands d w m tokens done stack context token token.kind h refl
step_stands d w m tokens (MinusRead done stack context at) token h = number_stands d w m tokens done stack context at token token.kind h refl
step_stands d w m tokens (ValueRead done stack context v) token h = settle_stands d w m tokens done stack context v token token.kind h.0 h.1 refl
step_stands d w m tokens (InLambda done stack context at inner) token h =
    within_stands d w m tokens done stack context at inner (lambdas.step (d - (opens stack + opens_context context)) w inner token) token h refl
step_stands d w m tokens (ChainRead done stack chain) token h = follow_stands d w m tokens done stack chain token token.kind h.0 h.1 refl
step_stands d w m tokens (LinkRead done stack chain node) token h = link_stands d w m tokens done stack chain node token token.kind h.0 h.1 refl
step_stands d w m tokens (CallRead done stack chain call) token h = opening_stands d w m tokens done stack chain call token token.kind h.0 h.1 refl
step_stands d w m tokens (ParenRead done stack chain call) token h = opened_stands d w m tokens done stack chain call token token.kind h.0 h.1 h.2 refl
step_stands d w m tokens (Stopped f) token h = tt

pub run_stands : (d w m : ℕ) (more tokens : List Token) (s : State) → Stands d w m tokens s → Stands d w m (tokens ++ more) (run d w m more s)
run_stands d w m [] tokens s h = subst (λ (l : List Token). Stands d w m l s) (sym (append-nil tokens)) h
run_stands d w m (t ∷ more) tokens s h =
    subst (λ (l : List Token). Stands d w m l (run d w m more (step d w m s t))) (append_assoc tokens (t ∷ []) more)
    (run_stands d w m more (tokens ++ t ∷ []) (step d w m s t) (step_stands d w m tokens s t h))
