-- Whatever script the grammar has, the reader reads it: statements.
use Rattle.std.proofs.Common.{◌≡◌, ℕ, ◌+◌, ◌<◌, ◌≤◌, Bool, cond, List, [], ◌∷◌, ◌++◌, length, refl, sym, ap, ◌∙◌, subst, arith, append_assoc, lt-ltb, length-append}
use Rattle.std.proofs.lemmas.List.{append-nil}
use Rattle.tick_lexer.specs.declared.token.Kind.{Kind}
use Rattle.tick_lexer.specs.declared.token.Kind.TheVariants.{Ident, Reference, Dot, Assign, Var}
use Rattle.tick_lexer.specs.declared.token.Token.{Token}
use Rattle.tick_parser.specs.declared.fault.ParseFault.TheVariants.{TooMany}
use Rattle.tick_parser.specs.Trees.{ValTree, LitVal, StarVal, LambdaVal, ChainVal, JointTrees, NoJoints, StmtTree, VarStmt, DbrpStmt, ChainStmt, joints_onto}
use Rattle.tick_parser.specs.Grammar.{At, Free, Agree}
use Rattle.tick_parser.specs.Script.{spell_val, spell_joints, spell_stmt, spell_script, word_dbrp, IsOne, FitsStmt, FitsScript, depth_stmt, depth_script, width_stmt, width_script, Reads, Within}
use Rattle.tick_parser.specs.Refusal.{IsStart}
use Rattle.tick_parser.specs.Machine.{Chain, Context, Variable, State, Between, VarRead, NameRead, DbRead, DotRead, ValueNext, ChainRead, Stopped, chain_stmt, begin, follow, declare, assign, dotted, target, step, run, Got, finish}
use Rattle.tick_parser.proofs.Agreeing.{split, first, none_left}
use Rattle.tick_parser.proofs.Complete.{Leaves, StarFits, follow_leaves, joints_turned, Settled, reads_val, reads_joints, both}
use Rattle.tick_parser.proofs.Runs.{run_on, run_first, run_one}

leaves_of : (kind : Kind) → IsStart kind → Leaves kind
leaves_of Var h = tt
leaves_of (Ident name) h = tt
leaves_of _ h = elim h [ ]

-- in this state these statements are read, and may be all
pub record Rests (d w m : ℕ) (done : List StmtTree) (s : State) : Type 0 where
  pub starts : (token : Token) → IsStart token.kind → step d w m s token ≡ begin m done token.start token.kind
  pub ends : (at : ℕ) → finish at s ≡ Got done

-- a script's tokens lead to a state in which it is read
pub record ReadsOn (d w m : ℕ) (tokens : List Token) (from : State) (done : List StmtTree) : Type 0 where
  pub state : State
  pub reached : run d w m tokens from ≡ state
  pub rests : Rests d w m done state

between_rests : (d w m : ℕ) (done : List StmtTree) → Rests d w m done (Between done)
between_rests d w m done = record { starts = λ token h. refl; ends = λ at. refl }

variable_rests : (d w m : ℕ) (done : List StmtTree) (stack : List Context) (name : List ℕ) (at : ℕ) (v : ValTree) (s : State) → Settled d w m done stack (Variable name at) v s → Rests d w m (done ++ VarStmt name v at ∷ []) s
variable_rests d w m done stack name at v s h = record { starts = λ token k. h.leaves token (leaves_of token.kind k); ends = λ place. h.ends place }

chain_rests : (d w m : ℕ) (done : List StmtTree) (chain : Chain) (stmt : StmtTree) → chain_stmt chain ≡ stmt → Rests d w m (done ++ stmt ∷ []) (ChainRead done [] chain)
chain_rests d w m done chain stmt e = record {
  starts = λ token k.
      follow_leaves m done [] chain token.start token.kind (leaves_of token.kind k)
      ∙ ap (λ (x : StmtTree). begin m (done ++ x ∷ []) token.start token.kind) e;
  ends = λ at. ap (λ (x : StmtTree). Got (done ++ x ∷ [])) e;
}

one_star : (v : ValTree) (name : List ℕ) (at : ℕ) → IsOne v → StarFits v (Variable name at)
one_star (LitVal lit place) name at h = tt
one_star (StarVal place) name at h = elim h [ ]
one_star (LambdaVal body place) name at h = tt
one_star (ChainVal head links place) name at h = tt

-- the first token of a statement
begin_var : (d w m : ℕ) (done : List StmtTree) (s : State) (at : ℕ) (token : Token) → Rests d w m done s → length done < m → token.kind ≡ Var → token.start ≡ at → step d w m s token ≡ VarRead done at
begin_var d w m done s at token r lt k p =
    r.starts token (subst IsStart (sym k) tt)
    ∙ both (λ (a : ℕ) (kind : Kind). begin m done a kind) token.start at token.kind Var p k
    ∙ ap (λ (b : Bool). cond b (VarRead done at) (Stopped (TooMany at))) (lt-ltb (length done) m lt)

begin_name : (d w m : ℕ) (done : List StmtTree) (s : State) (name : List ℕ) (at : ℕ) (token : Token) → Rests d w m done s → length done < m → token.kind ≡ Ident name → token.start ≡ at → step d w m s token ≡ ChainRead done [] (record { head = name; links = NoJoints; at = at })
begin_name d w m done s name at token r lt k p =
    r.starts token (subst IsStart (sym k) tt)
    ∙ both (λ (a : ℕ) (kind : Kind). begin m done a kind) token.start at token.kind (Ident name) p k
    ∙ ap (λ (b : Bool). cond b (ChainRead done [] (record { head = name; links = NoJoints; at = at })) (Stopped (TooMany at))) (lt-ltb (length done) m lt)

reads_stmt : (stmt : StmtTree) (d w m : ℕ) (done : List StmtTree) (s : State) (tokens : List Token) → Rests d w m done s → Agree tokens (spell_stmt stmt) → FitsStmt stmt → depth_stmt stmt ≤ d → width_stmt stmt ≤ w → length done < m → ReadsOn d w m tokens s (done ++ stmt ∷ [])
reads_stmt (VarStmt name v at) d w m done s tokens r h fit deep wide lt =
    let o = first (At Var at) (Free (Ident name) ∷ Free Assign ∷ spell_val v) tokens tt h in
    let p = first (Free (Ident name)) (Free Assign ∷ spell_val v) o.rest tt o.rest_agrees in
    let q = first (Free Assign) (spell_val v) p.rest tt p.rest_agrees in
    let context = Variable name at in
    let s1 = begin_var d w m done s at o.token r lt o.is.0 o.is.1 in
    let s2 : step d w m (VarRead done at) p.token ≡ NameRead done name at = ap (λ (k : Kind). declare done at p.token.start k) p.is in
    let s3 : step d w m (NameRead done name at) q.token ≡ ValueNext done [] context = ap (λ (k : Kind). assign done name at q.token.start k) q.is in
    let x = reads_val v d w m done [] context q.rest q.rest_agrees fit.1 (one_star v name at fit.0) (omega arith) wide in
    record {
      state = x.state;
      reached =
          run_first d w m tokens o.token o.rest s (VarRead done at) o.joined s1
          ∙ run_first d w m o.rest p.token p.rest (VarRead done at) (NameRead done name at) p.joined s2
          ∙ run_first d w m p.rest q.token q.rest (NameRead done name at) (ValueNext done [] context) q.joined s3
          ∙ x.reached;
      rests = variable_rests d w m done [] name at v x.state x.settles;
    }
reads_stmt (DbrpStmt db rp at) d w m done s tokens r h fit deep wide lt =
    let o = first (At (Ident word_dbrp) at) (Free (Reference db) ∷ Free Dot ∷ Free (Reference rp) ∷ []) tokens tt h in
    let p = first (Free (Reference db)) (Free Dot ∷ Free (Reference rp) ∷ []) o.rest tt o.rest_agrees in
    let q = first (Free Dot) (Free (Reference rp) ∷ []) p.rest tt p.rest_agrees in
    let u = first (Free (Reference rp)) [] q.rest tt q.rest_agrees in
    let chain : Chain = record { head = word_dbrp; links = NoJoints; at = at } in
    let s1 = begin_name d w m done s word_dbrp at o.token r lt o.is.0 o.is.1 in
    let s2 : step d w m (ChainRead done [] chain) p.token ≡ DbRead done db at = ap (λ (k : Kind). follow m done [] chain p.token.start k) p.is in
    let s3 : step d w m (DbRead done db at) q.token ≡ DotRead done db at = ap (λ (k : Kind). dotted done db at q.token.start k) q.is in
    let s4 : step d w m (DotRead done db at) u.token ≡ Between (done ++ DbrpStmt db rp at ∷ []) = ap (λ (k : Kind). target done db at u.token.start k) u.is in
    record {
      state = Between (done ++ DbrpStmt db rp at ∷ []);
      reached =
          run_first d w m tokens o.token o.rest s (ChainRead done [] chain) o.joined s1
          ∙ run_first d w m o.rest p.token p.rest (ChainRead done [] chain) (DbRead done db at) p.joined s2
          ∙ run_first d w m p.rest q.token q.rest (DbRead done db at) (DotRead done db at) q.joined s3
          ∙ run_one d w m q.rest u.token u.rest (DotRead done db at) (Between (done ++ DbrpStmt db rp at ∷ [])) u.joined (none_left u.rest u.rest_agrees) s4;
      rests = between_rests d w m (done ++ DbrpStmt db rp at ∷ []);
    }
reads_stmt (ChainStmt head links at) d w m done s tokens r h fit deep wide lt =
    let o = first (At (Ident head) at) (spell_joints links) tokens tt h in
    let chain : Chain = record { head = head; links = NoJoints; at = at } in
    let s1 = begin_name d w m done s head at o.token r lt o.is.0 o.is.1 in
    let x = reads_joints links d w m done [] head NoJoints at o.rest o.rest_agrees fit (omega arith) wide in
    record {
      state = ChainRead done [] (record { head = head; links = joints_onto links NoJoints; at = at });
      reached = run_first d w m tokens o.token o.rest s (ChainRead done [] chain) o.joined s1 ∙ x;
      rests = chain_rests d w m done (record { head = head; links = joints_onto links NoJoints; at = at }) (ChainStmt head links at)
          (ap (λ (l : JointTrees). ChainStmt head l at) (joints_turned links NoJoints));
    }

pub reads_script : (script : List StmtTree) (d w m : ℕ) (done : List StmtTree) (s : State) (tokens : List Token) → Rests d w m done s → Agree tokens (spell_script script) → FitsScript script → depth_script script ≤ d → width_script script ≤ w → length done + length script ≤ m → ReadsOn d w m tokens s (done ++ script)
reads_script [] d w m done s tokens r h fit deep wide few = record {
  state = s;
  reached = ap (λ (l : List Token). run d w m l s) (none_left tokens h);
  rests = subst (λ (l : List StmtTree). Rests d w m l s) (sym (append-nil done)) r;
}
reads_script (stmt ∷ script) d w m done s tokens r h fit deep wide few =
    let c = split (spell_stmt stmt) (spell_script script) tokens h in
    let x = reads_stmt stmt d w m done s c.front r c.front_agrees fit.0 (omega arith) (omega arith) (omega arith) in
    let y = reads_script script d w m (done ++ stmt ∷ []) x.state c.back x.rests c.back_agrees fit.1 (omega arith) (omega arith) (omega (arith, length-append done (stmt ∷ []))) in
    record {
      state = y.state;
      reached = run_on d w m tokens c.front c.back s x.state c.joined x.reached ∙ y.reached;
      rests = subst (λ (l : List StmtTree). Rests d w m l y.state) (append_assoc done (stmt ∷ []) script) y.rests;
    }

-- from the start
pub whole_run : (d w m : ℕ) (tokens : List Token) (script : List StmtTree) → Reads tokens script → Within d w m script → ReadsOn d w m tokens (Between []) script
whole_run d w m tokens script r i =
    reads_script script d w m [] (Between []) tokens (between_rests d w m []) r.spelled r.fits
    (let a = i.depth_fits in omega arith) (let a = i.width_fits in omega arith) (let a = i.count_fits in omega arith)
