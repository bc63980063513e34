-- Where the reader stands, some script goes on.
use Rattle.std.proofs.Common.{◌≡◌, ℕ, ◌+◌, ◌-◌, ◌<◌, Bool, cond, List, [], ◌∷◌, ◌++◌, sym, ap, ◌∙◌, subst, append_assoc, lt-ltb}
use Rattle.std.proofs.lemmas.List.{append-nil}
use Rattle.std.specs.Prelude.{pos}
use Rattle.kap_base.specs.declared.expr.Lit.TheVariants.{Int}
use Rattle.tick_lexer.specs.declared.token.Kind.{Kind}
use Rattle.tick_lexer.specs.declared.token.Kind.TheVariants.{Ident, Literal, Reference, OpenParen, CloseParen, Dot, Assign}
use Rattle.tick_lexer.specs.declared.token.Token.{Token}
use Rattle.tick_parser.specs.declared.fault.ParseFault.TheVariants.{Deep}
use Rattle.tick_parser.specs.Trees.{ValTree, LitVal, LambdaVal, NoVals, MoreVals, StmtTree, VarStmt, vals_onto}
use Rattle.tick_parser.specs.Grammar.{Agree}
use Rattle.tick_parser.specs.Script.{spell_val, spell_script}
use Rattle.tick_parser.specs.Refusal.{Opens}
use Rattle.tick_parser.specs.Lambdas as lambdas
use Rattle.tick_parser.specs.Machine.{Chain, Call, Context, Variable, Argument, State, Between, VarRead, NameRead, DbRead, DotRead, ValueNext, MinusRead, ValueRead, InLambda, ChainRead, LinkRead, CallRead, ParenRead, Stopped, linked, chain_value, opens_context, opens, step}
use Rattle.tick_parser.proofs.LambdaFaults as faults
use Rattle.tick_parser.proofs.Sound.{spell_chain, Done, GoodLine, GoodVal, Pending, Ready, Stands, declared_done, chain_valued, chain_done, lambda_valued, step_stands}

abbrev pub IsGoing : State → Type 0
IsGoing (Stopped fault) = ⊥
IsGoing _ = Unit {0}

-- a node or a property was begun, and its parenthesis can be opened
abbrev pub HasRoom : ℕ → State → Type 0
HasRoom d (LinkRead done stack chain node) = opens stack < d
HasRoom d (CallRead done stack chain call) = opens stack < d
HasRoom d _ = Unit {0}

-- a token of this kind
abbrev pub sample : Kind → Token
sample kind = record { kind = kind; start = 0; «end» = 0 }

done_opens : (d w m : ℕ) (tokens : List Token) (done : List StmtTree) → Done d w m done → Agree tokens (spell_script done) → Opens d w tokens
done_opens d w m tokens done h a = record {
  more = [];
  script = done;
  reads = record { fits = h.fits; spelled = subst (λ (l : List Token). Agree l (spell_script done)) (sym (append-nil tokens)) a };
  depth_fits = h.deep;
  width_fits = h.wide;
}

pub opens_before : (d w : ℕ) (a b : List Token) → Opens d w (a ++ b) → Opens d w a
opens_before d w a b o =
    let r = o.reads in
    record {
      more = b ++ o.more;
      script = o.script;
      reads = record { fits = r.fits; spelled = subst (λ (l : List Token). Agree l (spell_script o.script)) (append_assoc a b o.more) r.spelled };
      depth_fits = o.depth_fits;
      width_fits = o.width_fits;
    }

-- in a chain, by closing all that is open
chain_viable : (stack : List Context) (d w m : ℕ) (tokens : List Token) (done : List StmtTree) (chain : Chain) → Pending d w m tokens done stack (spell_chain chain) → GoodLine d w stack chain → Opens d w tokens
chain_viable [] d w m tokens done chain p g = let x = chain_done d w m tokens done chain p g in done_opens d w m tokens (done ++ _ ∷ []) x.0 x.1
chain_viable (Variable name at ∷ []) d w m tokens done chain p g =
    let x = chain_valued d w m tokens done [] (Variable name at) chain p g in
    let y = declared_done d w m tokens done name at (chain_value chain) x.0 x.1 in
    done_opens d w m tokens (done ++ VarStmt name (chain_value chain) at ∷ []) y.0 y.1
chain_viable (Variable name at ∷ top ∷ stack) d w m tokens done chain p g = let h = p.contexts in let none : top ∷ stack ≡ [] = h.0 in absurd (cc)
chain_viable (Argument outer call args ∷ stack) d w m tokens done chain p g =
    let x = chain_valued d w m tokens done stack (Argument outer call args) chain p g in
    let y = step_stands d w m tokens (ValueRead done stack (Argument outer call args) (chain_value chain)) (sample CloseParen) x in
    opens_before d w tokens (sample CloseParen ∷ [])
    (chain_viable stack d w m (tokens ++ sample CloseParen ∷ []) done (linked outer call (vals_onto (MoreVals (chain_value chain) args) NoVals)) y.0 y.1)

value_viable : (d w m : ℕ) (tokens : List Token) (done : List StmtTree) (stack : List Context) (context : Context) (v : ValTree) → Pending d w m tokens done (context ∷ stack) (spell_val v) → GoodVal d w stack context v → Opens d w tokens
value_viable d w m tokens done [] (Variable name at) v p g =
    let y = declared_done d w m tokens done name at v p g in
    done_opens d w m tokens (done ++ VarStmt name v at ∷ []) y.0 y.1
value_viable d w m tokens done (top ∷ stack) (Variable name at) v p g = let h = p.contexts in let none : top ∷ stack ≡ [] = h.0 in absurd (cc)
value_viable d w m tokens done stack (Argument chain call args) v p g =
    let y = step_stands d w m tokens (ValueRead done stack (Argument chain call args) v) (sample CloseParen) (p, g) in
    opens_before d w tokens (sample CloseParen ∷ [])
    (chain_viable stack d w m (tokens ++ sample CloseParen ∷ []) done (linked chain call (vals_onto (MoreVals v args) NoVals)) y.0 y.1)

abbrev zero : Kind
zero = Literal (Int (pos 0))

ready_viable : (d w m : ℕ) (tokens : List Token) (done : List StmtTree) (stack : List Context) (context : Context) → Ready d w m tokens done stack context → Opens d w tokens
ready_viable d w m tokens done stack context h =
    let y = step_stands d w m tokens (ValueNext done stack context) (sample zero) h in
    opens_before d w tokens (sample zero ∷ []) (value_viable d w m (tokens ++ sample zero ∷ []) done stack context (LitVal (Int (pos 0)) 0) y.0 y.1)

paren_viable : (d w m : ℕ) (tokens : List Token) (done : List StmtTree) (stack : List Context) (chain : Chain) (call : Call) → Stands d w m tokens (ParenRead done stack chain call) → Opens d w tokens
paren_viable d w m tokens done stack chain call h =
    let y = step_stands d w m tokens (ParenRead done stack chain call) (sample CloseParen) h in
    opens_before d w tokens (sample CloseParen ∷ []) (chain_viable stack d w m (tokens ++ sample CloseParen ∷ []) done (linked chain call NoVals) y.0 y.1)

call_viable : (d w m : ℕ) (tokens : List Token) (done : List StmtTree) (stack : List Context) (chain : Chain) (call : Call) → Stands d w m tokens (CallRead done stack chain call) → opens stack < d → Opens d w tokens
call_viable d w m tokens done stack chain call h room =
    let y = step_stands d w m tokens (CallRead done stack chain call) (sample OpenParen) h in
    let e : step d w m (CallRead done stack chain call) (sample OpenParen) ≡ ParenRead done stack chain call =
    ap (λ (b : Bool). cond b (ParenRead done stack chain call) (Stopped (Deep 0))) (lt-ltb (opens stack) d room) in
    opens_before d w tokens (sample OpenParen ∷ [])
    (paren_viable d w m (tokens ++ sample OpenParen ∷ []) done stack chain call (subst (λ (s : State). Stands d w m (tokens ++ sample OpenParen ∷ []) s) e y))

name_viable : (d w m : ℕ) (tokens : List Token) (done : List StmtTree) (name : List ℕ) (at : ℕ) → Stands d w m tokens (NameRead done name at) → Opens d w tokens
name_viable d w m tokens done name at h =
    let y = step_stands d w m tokens (NameRead done name at) (sample Assign) h in
    opens_before d w tokens (sample Assign ∷ []) (ready_viable d w m (tokens ++ sample Assign ∷ []) done [] (Variable name at) y)

dot_viable : (d w m : ℕ) (tokens : List Token) (done : List StmtTree) (db : List ℕ) (at : ℕ) → Stands d w m tokens (DotRead done db at) → Opens d w tokens
dot_viable d w m tokens done db at h =
    let y = step_stands d w m tokens (DotRead done db at) (sample (Reference [])) h in
    opens_before d w tokens (sample (Reference []) ∷ []) (done_opens d w m (tokens ++ sample (Reference []) ∷ []) (done ++ _ ∷ []) y.0 y.1)

lambda_viable : (d w m : ℕ) (tokens : List Token) (done : List StmtTree) (stack : List Context) (context : Context) (at : ℕ) (inner : lambdas.State) → Stands d w m tokens (InLambda done stack context at inner) → Opens d w tokens
lambda_viable d w m tokens done stack context at inner i =
    let r = faults.viable (d - (opens stack + opens_context context)) w i.back inner i.stands i.going in
    let joined : tokens ++ r.more ≡ i.front ++ (i.back ++ r.more) =
    ap (λ (l : List Token). l ++ r.more) i.joined ∙ append_assoc i.front i.back r.more in
    let v = lambda_valued d w m (tokens ++ r.more) i.front (i.back ++ r.more) done stack context at r.tree joined i.outer r.whole in
    opens_before d w tokens r.more (value_viable d w m (tokens ++ r.more) done stack context (LambdaVal r.tree at) v.0 v.1)

-- where the reader stands within the limits, some script within them goes on
pub viable : (d w m : ℕ) (tokens : List Token) (s : State) → Stands d w m tokens s → IsGoing s → HasRoom d s → Opens d w tokens
viable d w m tokens (Between done) h g room = done_opens d w m tokens done h.0 h.1
viable d w m tokens (VarRead done at) h g room =
    let y = step_stands d w m tokens (VarRead done at) (sample (Ident [])) h in
    opens_before d w tokens (sample (Ident []) ∷ []) (name_viable d w m (tokens ++ sample (Ident []) ∷ []) done [] at y)
viable d w m tokens (NameRead done name at) h g room = name_viable d w m tokens done name at h
viable d w m tokens (DbRead done db at) h g room =
    let y = step_stands d w m tokens (DbRead done db at) (sample Dot) h in
    opens_before d w tokens (sample Dot ∷ []) (dot_viable d w m (tokens ++ sample Dot ∷ []) done db at y)
viable d w m tokens (DotRead done db at) h g room = dot_viable d w m tokens done db at h
viable d w m tokens (ValueNext done stack context) h g room = ready_viable d w m tokens done stack context h
viable d w m tokens (MinusRead done stack context at) h g room =
    let y = step_stands d w m tokens (MinusRead done stack context at) (sample zero) h in
    opens_before d w tokens (sample zero ∷ []) (value_viable d w m (tokens ++ sample zero ∷ []) done stack context (LitVal (Int (pos 0)) at) y.0 y.1)
viable d w m tokens (ValueRead done stack context v) h g room = value_viable d w m tokens done stack context v h.0 h.1
viable d w m tokens (InLambda done stack context at inner) h g room = lambda_viable d w m tokens done stack context at inner h
viable d w m tokens (ChainRead done stack chain) h g room = chain_viable stack d w m tokens done chain h.0 h.1
viable d w m tokens (LinkRead done stack chain node) h g room =
    let y = step_stands d w m tokens (LinkRead done stack chain node) (sample (Ident [])) h in
    opens_before d w tokens (sample (Ident []) ∷ [])
    (call_viable d w m (tokens ++ sample (Ident []) ∷ []) done stack chain (record { node = node; name = []; at = 0 }) y room)
viable d w m tokens (CallRead done stack chain call) h g room = call_viable d w m tokens done stack chain call h room
viable d w m tokens (ParenRead done stack chain call) h g room = paren_viable d w m tokens done stack chain call h
viable d w m tokens (Stopped f) h g room = elim g [ ]
