-- Whatever script the grammar has, the reader reads it.
use Rattle.std.proofs.Common.{◌≡◌, ◌≢◌, ℕ, ◌+◌, ◌-◌, ◌<◌, ◌≤◌, Bool, true, false, cond, Option, List, [], ◌∷◌, ◌++◌, refl, sym, ap, ◌∙◌, subst, ⊎_elim, arith, lt-ltb}
use Rattle.kap_base.specs.declared.expr.Lit.{Lit}
use Rattle.kap_base.specs.declared.expr.Op.TheVariants.{Sub, Mul}
use Rattle.kap_base.specs.Tree.{Tree}
use Rattle.tick_lexer.specs.declared.token.Kind.{Kind}
use Rattle.tick_lexer.specs.declared.token.Kind.TheVariants.{Ident, Literal, Operator, OpenParen, CloseParen, Comma, Dot, Pipe, Var, Lambda}
use Rattle.tick_lexer.specs.declared.token.Token.{Token}
use Rattle.tick_parser.specs.declared.fault.ParseFault.{ParseFault}
use Rattle.tick_parser.specs.declared.fault.ParseFault.TheVariants.{Expected, Deep}
use Rattle.tick_parser.specs.declared.fault.Want.TheVariants.{Value}
use Rattle.tick_parser.specs.Trees.{ValTree, LitVal, StarVal, LambdaVal, ChainVal, ValTrees, NoVals, MoreVals, JointTrees, NoJoints, MoreJoints, StmtTree, vals_onto, joints_onto}
use Rattle.tick_parser.specs.Grammar.{At, Free, Signed, Fits, spell, Agree, Is, IsMinus, depth, binaries}
use Rattle.tick_parser.specs.Script.{spell_val, spell_vals, spell_more, spell_joints, FitsVal, FitVals, FitJoints, depth_val, depth_vals, depth_joints, width_val, width_vals, width_joints}
use Rattle.tick_parser.specs.Lambdas as lambdas
use Rattle.tick_parser.specs.Machine.{Chain, Call, Context, Variable, Argument, State, ValueNext, ValueRead, InLambda, ChainRead, LinkRead, CallRead, ParenRead, Stopped, linked, chain_value, opens_context, opens, argue, settle, leave, follow, star, value, signed, number, opening, opened, within, link, step, run, settled, closed, finish}
use Rattle.tick_parser.proofs.Agreeing.{split, first, none_left}
use Rattle.tick_parser.proofs.LambdaComplete as complete
use Rattle.tick_parser.proofs.LambdaFaults as faults
use Rattle.tick_parser.proofs.Runs.{run_on, run_first, run_one}

pub both : {A B C : Type 0} (f : A → B → C) (a a' : A) (b b' : B) → a ≡ a' → b ≡ b' → f a b ≡ f a' b'
both f a a' b b' e g = ap (λ x. f x b) e ∙ ap (λ y. f a' y) g

-- a token that belongs to no value
abbrev pub Leaves : Kind → Type 0
Leaves Var = Unit {0}
Leaves (Ident name) = Unit {0}
Leaves CloseParen = Unit {0}
Leaves Comma = Unit {0}
Leaves _ = ⊥

-- the reader stands behind a value, or in one that may be whole
abbrev pub IsRead : State → Type 0
IsRead (ValueRead done stack context v) = Unit {0}
IsRead (InLambda done stack context at inner) = Unit {0}
IsRead (ChainRead done stack chain) = Unit {0}
IsRead _ = ⊥

-- in this state the value is read, and may be whole
pub record Settled (d w m : ℕ) (done : List StmtTree) (stack : List Context) (context : Context) (v : ValTree) (s : State) : Type 0 where
  pub leaves : (token : Token) → Leaves token.kind → step d w m s token ≡ settle m done stack context v token.start token.kind
  pub ends : (at : ℕ) → finish at s ≡ settled at done context v
  pub read : IsRead s

-- a value's tokens lead to a state in which it is read
pub record ReadsVal (d w m : ℕ) (tokens : List Token) (done : List StmtTree) (stack : List Context) (context : Context) (v : ValTree) : Type 0 where
  pub state : State
  pub reached : run d w m tokens (ValueNext done stack context) ≡ state
  pub settles : Settled d w m done stack context v state

-- a star is an argument
abbrev pub StarFits : ValTree → Context → Type 0
StarFits (StarVal at) (Variable name place) = ⊥
StarFits _ _ = Unit {0}

-- turned round twice
pub joints_turned : (a b : JointTrees) → joints_onto (joints_onto a b) NoJoints ≡ joints_onto b a
joints_turned NoJoints b = refl
joints_turned (MoreJoints node name args at rest) b = joints_turned rest (MoreJoints node name args at b)

value_settled : (d w m : ℕ) (done : List StmtTree) (stack : List Context) (context : Context) (v : ValTree) → Settled d w m done stack context v (ValueRead done stack context v)
value_settled d w m done stack context v = record { leaves = λ token k. refl; ends = λ at. refl; read = tt }

pub follow_leaves : (m : ℕ) (done : List StmtTree) (stack : List Context) (chain : Chain) (at : ℕ) (kind : Kind) → Leaves kind → follow m done stack chain at kind ≡ leave m done stack chain at kind
follow_leaves m done stack chain at Var k = refl
follow_leaves m done stack chain at (Ident name) k = refl
follow_leaves m done stack chain at CloseParen k = refl
follow_leaves m done stack chain at Comma k = refl
follow_leaves m done stack chain at _ k = elim k [ ]

chain_settled : (d w m : ℕ) (done : List StmtTree) (stack : List Context) (context : Context) (chain : Chain) (v : ValTree) → chain_value chain ≡ v → Settled d w m done stack context v (ChainRead done (context ∷ stack) chain)
chain_settled d w m done stack context chain v e = record {
  leaves = λ token k.
      follow_leaves m done (context ∷ stack) chain token.start token.kind k
      ∙ ap (λ (x : ValTree). settle m done stack context x token.start token.kind) e;
  ends = λ at. ap (λ (x : ValTree). settled at done context x) e;
  read = tt;
}

-- a literal behind a minus
number_read : (done : List StmtTree) (stack : List Context) (context : Context) (place at : ℕ) (kind : Kind) (lit : Lit) → IsMinus kind lit → number done stack context place at kind ≡ ValueRead done stack context (LitVal lit place)
number_read done stack context place at (Literal plain) lit e = ap (λ (x : Option Lit). signed done stack context place at x) e
number_read done stack context place at _ lit e = elim e [ ]

given_front : (d w m : ℕ) (done : List StmtTree) (stack : List Context) (context : Context) (lit : Lit) (at : ℕ) (front : List Token) → Is front (Signed lit at) → run d w m front (ValueNext done stack context) ≡ ValueRead done stack context (LitVal lit at)
given_front d w m done stack context lit at [] i = ⊎_elim (λ x. elim x [ ]) (λ x. elim x [ ]) i
given_front d w m done stack context lit at (t ∷ []) i =
    ⊎_elim
    (λ x. both (λ (a : ℕ) (k : Kind). value done stack context a k) t.start at t.kind (Literal lit) x.1 x.0)
    (λ x. elim x [ ])
    i
given_front d w m done stack context lit at (t ∷ u ∷ []) i =
    ⊎_elim
    (λ x. elim x [ ])
    (λ x.
    ap (λ (s : State). step d w m s u) (both (λ (a : ℕ) (k : Kind). value done stack context a k) t.start at t.kind (Operator Sub) x.1 x.0)
    ∙ number_read done stack context at u.start u.kind lit x.2)
    i
given_front d w m done stack context lit at (t ∷ u ∷ v ∷ front) i = ⊎_elim (λ x. elim x [ ]) (λ x. elim x [ ]) i

-- a run of the reader of lambdas, inside
going_before : (d w : ℕ) (tokens : List Token) (s : lambdas.State) → faults.IsGoing (lambdas.run d w tokens s) → faults.IsGoing s
going_before d w tokens (lambdas.OperandNext stack n) g = tt
going_before d w tokens (lambdas.CallOpened stack n) g = tt
going_before d w tokens (lambdas.OperandRead stack t n) g = tt
going_before d w tokens (lambdas.Ended t) g = subst faults.IsGoing (faults.run_ended d w tokens t) g
going_before d w tokens (lambdas.Stopped f) g = subst faults.IsGoing (complete.run_stopped d w tokens f) g

pub within_going : (m : ℕ) (done : List StmtTree) (stack : List Context) (context : Context) (place at : ℕ) (kind : Kind) (s : lambdas.State) → faults.IsGoing s → within m done stack context place at kind s ≡ InLambda done stack context place s
within_going m done stack context place at kind (lambdas.OperandNext st n) g = refl
within_going m done stack context place at kind (lambdas.CallOpened st n) g = refl
within_going m done stack context place at kind (lambdas.OperandRead st t n) g = refl
within_going m done stack context place at kind (lambdas.Ended t) g = elim g [ ]
within_going m done stack context place at kind (lambdas.Stopped f) g = elim g [ ]

lambda_run : (d w m : ℕ) (done : List StmtTree) (stack : List Context) (context : Context) (place : ℕ) (tokens : List Token) (s : lambdas.State) → faults.IsGoing (lambdas.run (d - (opens stack + opens_context context)) w tokens s) → run d w m tokens (InLambda done stack context place s) ≡ InLambda done stack context place (lambdas.run (d - (opens stack + opens_context context)) w tokens s)
lambda_run d w m done stack context place [] s g = refl
lambda_run d w m done stack context place (t ∷ ts) s g =
    let room = d - (opens stack + opens_context context) in
    let next = lambdas.step room w s t in
    ap (λ (x : State). run d w m ts x) (within_going m done stack context place t.start t.kind next (going_before room w ts next g))
    ∙ lambda_run d w m done stack context place ts next g

-- behind a whole lambda each token that leaves it ends it
after_leaves : (d w : ℕ) (stack : List lambdas.Frame) (tree body : Tree) (n at : ℕ) (kind : Kind) → Leaves kind → lambdas.reduce 0 stack tree ≡ record { stack = []; tree = body } → lambdas.after d w stack tree n at kind ≡ lambdas.Ended body
after_leaves d w stack tree body n at Var k e = ap (λ (h : lambdas.HeldOperand). lambdas.leave h.stack h.tree at) e
after_leaves d w stack tree body n at (Ident name) k e = ap (λ (h : lambdas.HeldOperand). lambdas.leave h.stack h.tree at) e
after_leaves d w stack tree body n at CloseParen k e = ap (λ (h : lambdas.HeldOperand). lambdas.close_top h.stack h.tree n at) e
after_leaves d w stack tree body n at Comma k e = ap (λ (h : lambdas.HeldOperand). lambdas.next_top h.stack h.tree n at) e
after_leaves d w stack tree body n at _ k e = elim k [ ]

lambda_settled : (d w m : ℕ) (done : List StmtTree) (stack : List Context) (context : Context) (place : ℕ) (st : List lambdas.Frame) (tree body : Tree) (n : ℕ) → lambdas.reduce 0 st tree ≡ record { stack = []; tree = body } → Settled d w m done stack context (LambdaVal body place) (InLambda done stack context place (lambdas.OperandRead st tree n))
lambda_settled d w m done stack context place st tree body n e = record {
  leaves = λ token k.
      ap (λ (x : lambdas.State). within m done stack context place token.start token.kind x)
      (after_leaves (d - (opens stack + opens_context context)) w st tree body n token.start token.kind k e);
  ends = λ at. ap (λ (h : lambdas.HeldOperand). closed at done context place (lambdas.done_at at h.stack h.tree)) e;
  read = tt;
}

lambda_read : (d w m : ℕ) (done : List StmtTree) (stack : List Context) (context : Context) (place : ℕ) (body : Tree) (tokens : List Token) → Agree tokens (spell body) → Fits 0 body → opens stack + opens_context context + depth body ≤ d → binaries body ≤ w → (s : State) × (run d w m tokens (InLambda done stack context place (lambdas.OperandNext [] 0)) ≡ s) × Settled d w m done stack context (LambdaVal body place) s
lambda_read d w m done stack context place body tokens h fit deep wide =
    let room = d - (opens stack + opens_context context) in
    let r = complete.reads body room w 0 0 [] tokens h fit tt (omega arith) (omega arith) (omega arith) in
    let going : faults.IsGoing (lambdas.run room w tokens (lambdas.OperandNext [] 0)) = subst faults.IsGoing (sym r.reached) tt in
    let reached = lambda_run d w m done stack context place tokens (lambdas.OperandNext [] 0) going
    ∙ ap (λ (x : lambdas.State). InLambda done stack context place x) r.reached in (
      InLambda done stack context place (lambdas.OperandRead r.stack r.tree (0 + binaries body)),
      reached,
      lambda_settled d w m done stack context place r.stack r.tree body (0 + binaries body) (r.same 0 (omega arith)),
    )

-- where arguments were opened, a value is read as where one comes
paren_step : (done : List StmtTree) (stack : List Context) (chain : Chain) (call : Call) (at : ℕ) (kind : Kind) → kind ≢ CloseParen → opened done stack chain call at kind ≡ value done stack (Argument chain call NoVals) at kind
paren_step done stack chain call at CloseParen ne = absurd (ne refl)
paren_step done stack chain call at _ ne = refl

stopped_unread : (d w m : ℕ) (tokens : List Token) (f : ParseFault) → IsRead (run d w m tokens (Stopped f)) → ⊥
stopped_unread d w m [] f h = h
stopped_unread d w m (t ∷ ts) f h = stopped_unread d w m ts f h

paren_run : (d w m : ℕ) (done : List StmtTree) (stack : List Context) (chain : Chain) (call : Call) (tokens : List Token) → IsRead (run d w m tokens (ValueNext done stack (Argument chain call NoVals))) → run d w m tokens (ParenRead done stack chain call) ≡ run d w m tokens (ValueNext done stack (Argument chain call NoVals))
paren_run d w m done stack chain call [] h = elim h [ ]
paren_run d w m done stack chain call (t ∷ ts) h =
    let context = Argument chain call NoVals in
    let ne : t.kind ≢ CloseParen = λ (e : t.kind ≡ CloseParen).
    stopped_unread d w m ts (Expected Value t.start) (subst (λ (k : Kind). IsRead (run d w m ts (value done stack context t.start k))) e h) in
    ap (λ (s : State). run d w m ts s) (paren_step done stack chain call t.start t.kind ne)

pipe_or_dot : (m : ℕ) (done : List StmtTree) (stack : List Context) (chain : Chain) (at : ℕ) (node : Bool) → follow m done stack chain at (cond node Pipe Dot) ≡ LinkRead done stack chain node
pipe_or_dot m done stack chain at true = refl
pipe_or_dot m done stack chain at false = refl

star_read : (d w m : ℕ) (done : List StmtTree) (stack : List Context) (context : Context) (at : ℕ) (tokens : List Token) → Agree tokens (At (Operator Mul) at ∷ []) → StarFits (StarVal at) context → run d w m tokens (ValueNext done stack context) ≡ ValueRead done stack context (StarVal at)
star_read d w m done stack (Variable name place) at tokens h s = elim s [ ]
star_read d w m done stack (Argument chain call args) at tokens h s =
    let o = first (At (Operator Mul) at) [] tokens tt h in
    let context = Argument chain call args in
    run_one d w m tokens o.token o.rest (ValueNext done stack context) (ValueRead done stack context (StarVal at)) o.joined (none_left o.rest o.rest_agrees)
    (both (λ (a : ℕ) (k : Kind). value done stack context a k) o.token.start at o.token.kind (Operator Mul) o.is.1 o.is.0)

argument_star : (v : ValTree) (chain : Chain) (call : Call) (args : ValTrees) → StarFits v (Argument chain call args)
argument_star (LitVal lit at) chain call args = tt
argument_star (StarVal at) chain call args = tt
argument_star (LambdaVal body at) chain call args = tt
argument_star (ChainVal head links at) chain call args = tt

mutual
  pub reads_val : (v : ValTree) (d w m : ℕ) (done : List StmtTree) (stack : List Context) (context : Context) (tokens : List Token) → Agree tokens (spell_val v) → FitsVal v → StarFits v context → opens stack + opens_context context + depth_val v ≤ d → width_val v ≤ w → ReadsVal d w m tokens done stack context v
  reads_val (LitVal lit at) d w m done stack context tokens h fit star deep wide =
      let back : h.1 ≡ [] = h.4 in
      let front = h.0 in record {
        state = ValueRead done stack context (LitVal lit at);
        reached =
            run_on d w m tokens front h.1 (ValueNext done stack context) (ValueRead done stack context (LitVal lit at)) h.2 (given_front d w m done stack context lit at front h.3)
            ∙ ap (λ (l : List Token). run d w m l (ValueRead done stack context (LitVal lit at))) back;
        settles = value_settled d w m done stack context (LitVal lit at);
      }
  reads_val (StarVal at) d w m done stack context tokens h fit star deep wide = record {
    state = ValueRead done stack context (StarVal at);
    reached = star_read d w m done stack context at tokens h star;
    settles = value_settled d w m done stack context (StarVal at);
  }
  reads_val (LambdaVal body at) d w m done stack context tokens h fit star deep wide =
      let o = first (At Lambda at) (spell body) tokens tt h in
      let s : step d w m (ValueNext done stack context) o.token ≡ InLambda done stack context at (lambdas.OperandNext [] 0) =
      both (λ (a : ℕ) (k : Kind). value done stack context a k) o.token.start at o.token.kind Lambda o.is.1 o.is.0 in
      let r = lambda_read d w m done stack context at body o.rest o.rest_agrees fit deep wide in record {
        state = r.0;
        reached = run_first d w m tokens o.token o.rest (ValueNext done stack context) (InLambda done stack context at (lambdas.OperandNext [] 0)) o.joined s ∙ r.1;
        settles = r.2;
      }
  reads_val (ChainVal head links at) d w m done stack context tokens h fit star deep wide =
      let o = first (At (Ident head) at) (spell_joints links) tokens tt h in
      let chain : Chain = record { head = head; links = NoJoints; at = at } in
      let s : step d w m (ValueNext done stack context) o.token ≡ ChainRead done (context ∷ stack) chain =
      both (λ (a : ℕ) (k : Kind). value done stack context a k) o.token.start at o.token.kind (Ident head) o.is.1 o.is.0 in
      let r = reads_joints links d w m done (context ∷ stack) head NoJoints at o.rest o.rest_agrees fit deep wide in record {
        state = ChainRead done (context ∷ stack) (record { head = head; links = joints_onto links NoJoints; at = at });
        reached = run_first d w m tokens o.token o.rest (ValueNext done stack context) (ChainRead done (context ∷ stack) chain) o.joined s ∙ r;
        settles = chain_settled d w m done stack context (record { head = head; links = joints_onto links NoJoints; at = at }) (ChainVal head links at)
            (ap (λ (x : JointTrees). ChainVal head x at) (joints_turned links NoJoints));
      }

  reads_vals : (args : ValTrees) (d w m : ℕ) (done : List StmtTree) (stack : List Context) (chain : Chain) (call : Call) (tokens : List Token) → Agree tokens (spell_vals args) → FitVals args → opens stack + 1 + depth_vals args ≤ d → width_vals args ≤ w → run d w m tokens (ParenRead done stack chain call) ≡ ChainRead done stack (linked chain call args)
  reads_vals NoVals d w m done stack chain call tokens h fit deep wide =
      let o = first (Free CloseParen) [] tokens tt h in
      run_one d w m tokens o.token o.rest (ParenRead done stack chain call) (ChainRead done stack (linked chain call NoVals)) o.joined (none_left o.rest o.rest_agrees)
      (ap (λ (k : Kind). opened done stack chain call o.token.start k) o.is)
  reads_vals (MoreVals one rest) d w m done stack chain call tokens h fit deep wide =
      let c = split (spell_val one) (spell_more rest) tokens h in
      let context = Argument chain call NoVals in
      let r = reads_val one d w m done stack context c.front c.front_agrees fit.0 (argument_star one chain call NoVals) (omega arith) (omega arith) in
      let settles = r.settles in
      let read : IsRead (run d w m c.front (ValueNext done stack context)) = subst IsRead (sym r.reached) settles.read in
      run_on d w m tokens c.front c.back (ParenRead done stack chain call) r.state c.joined (paren_run d w m done stack chain call c.front read ∙ r.reached)
      ∙ reads_more rest d w m done stack chain call NoVals one r.state c.back settles c.back_agrees fit.1 (omega arith) (omega arith)

  reads_more : (rest : ValTrees) (d w m : ℕ) (done : List StmtTree) (stack : List Context) (chain : Chain) (call : Call) (args : ValTrees) (last : ValTree) (s : State) (tokens : List Token) → Settled d w m done stack (Argument chain call args) last s → Agree tokens (spell_more rest) → FitVals rest → opens stack + 1 + depth_vals rest ≤ d → width_vals rest ≤ w → run d w m tokens s ≡ ChainRead done stack (linked chain call (vals_onto (MoreVals last args) rest))
  reads_more NoVals d w m done stack chain call args last s tokens settles h fit deep wide =
      let o = first (Free CloseParen) [] tokens tt h in
      let leaves : Leaves o.token.kind = subst Leaves (sym o.is) tt in
      run_one d w m tokens o.token o.rest s (ChainRead done stack (linked chain call (vals_onto (MoreVals last args) NoVals))) o.joined (none_left o.rest o.rest_agrees)
      (settles.leaves o.token leaves ∙ ap (λ (k : Kind). argue done stack chain call (MoreVals last args) o.token.start k) o.is)
  reads_more (MoreVals one rest) d w m done stack chain call args last s tokens settles h fit deep wide =
      let o = first (Free Comma) (spell_val one ++ spell_more rest) tokens tt h in
      let c = split (spell_val one) (spell_more rest) o.rest o.rest_agrees in
      let leaves : Leaves o.token.kind = subst Leaves (sym o.is) tt in
      let context = Argument chain call (MoreVals last args) in
      let e : step d w m s o.token ≡ ValueNext done stack context =
      settles.leaves o.token leaves ∙ ap (λ (k : Kind). argue done stack chain call (MoreVals last args) o.token.start k) o.is in
      let r = reads_val one d w m done stack context c.front c.front_agrees fit.0 (argument_star one chain call (MoreVals last args)) (omega arith) (omega arith) in
      run_first d w m tokens o.token o.rest s (ValueNext done stack context) o.joined e
      ∙ run_on d w m o.rest c.front c.back (ValueNext done stack context) r.state c.joined r.reached
      ∙ reads_more rest d w m done stack chain call (MoreVals last args) one r.state c.back r.settles c.back_agrees fit.1 (omega arith) (omega arith)

  pub reads_joints : (links : JointTrees) (d w m : ℕ) (done : List StmtTree) (stack : List Context) (head : List ℕ) (before : JointTrees) (at : ℕ) (tokens : List Token) → Agree tokens (spell_joints links) → FitJoints links → opens stack + depth_joints links ≤ d → width_joints links ≤ w → run d w m tokens (ChainRead done stack (record { head = head; links = before; at = at })) ≡ ChainRead done stack (record { head = head; links = joints_onto links before; at = at })
  reads_joints NoJoints d w m done stack head before at tokens h fit deep wide =
      ap (λ (l : List Token). run d w m l (ChainRead done stack (record { head = head; links = before; at = at }))) (none_left tokens h)
  reads_joints (MoreJoints node name args place rest) d w m done stack head before at tokens h fit deep wide =
      let chain : Chain = record { head = head; links = before; at = at } in
      let call : Call = record { node = node; name = name; at = place } in
      let o = first (Free (cond node Pipe Dot)) (At (Ident name) place ∷ Free OpenParen ∷ (spell_vals args ++ spell_joints rest)) tokens tt h in
      let p = first (At (Ident name) place) (Free OpenParen ∷ (spell_vals args ++ spell_joints rest)) o.rest tt o.rest_agrees in
      let q = first (Free OpenParen) (spell_vals args ++ spell_joints rest) p.rest tt p.rest_agrees in
      let c = split (spell_vals args) (spell_joints rest) q.rest q.rest_agrees in
      let room : opens stack < d = omega arith in
      let s1 : step d w m (ChainRead done stack chain) o.token ≡ LinkRead done stack chain node =
      ap (λ (k : Kind). follow m done stack chain o.token.start k) o.is ∙ pipe_or_dot m done stack chain o.token.start node in
      let s2 : step d w m (LinkRead done stack chain node) p.token ≡ CallRead done stack chain call =
      both (λ (a : ℕ) (k : Kind). link done stack chain node a k) p.token.start place p.token.kind (Ident name) p.is.1 p.is.0 in
      let s3 : step d w m (CallRead done stack chain call) q.token ≡ ParenRead done stack chain call =
      ap (λ (k : Kind). opening d done stack chain call q.token.start k) q.is
      ∙ ap (λ (b : Bool). cond b (ParenRead done stack chain call) (Stopped (Deep q.token.start))) (lt-ltb (opens stack) d room) in
      let a = reads_vals args d w m done stack chain call c.front c.front_agrees fit.0 (omega arith) (omega arith) in
      run_first d w m tokens o.token o.rest (ChainRead done stack chain) (LinkRead done stack chain node) o.joined s1
      ∙ run_first d w m o.rest p.token p.rest (LinkRead done stack chain node) (CallRead done stack chain call) p.joined s2
      ∙ run_first d w m p.rest q.token q.rest (CallRead done stack chain call) (ParenRead done stack chain call) q.joined s3
      ∙ run_on d w m q.rest c.front c.back (ParenRead done stack chain call) (ChainRead done stack (linked chain call args)) c.joined a
      ∙ reads_joints rest d w m done stack head (MoreJoints node name args place before) at c.back c.back_agrees fit.1 (omega arith) (omega arith)
