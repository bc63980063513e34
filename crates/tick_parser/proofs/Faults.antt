-- Why the reader stops, and what is wanted where it stands.
use Rattle.std.proofs.Common.{◌≡◌, ◌⊎◌, inl, inr, ℕ, ◌+◌, ◌-◌, ◌≤◌, Bool, true, false, cond, ltb, Option, Some, None, List, [], ◌∷◌, ◌++◌, length, refl, sym, ap, ◌∙◌, subst, ⊎_elim, arith, lt-ltb, ltb-false}
use Rattle.kap_base.specs.declared.expr.Lit.{Lit}
use Rattle.kap_base.specs.declared.expr.Op.TheVariants.{Sub, Mul}
use Rattle.kap_base.specs.Tree.{Tree, NameTree}
use Rattle.tick_lexer.specs.declared.token.Kind.{Kind}
use Rattle.tick_lexer.specs.declared.token.Kind.TheVariants.{Ident, Literal, Reference, Operator, Not, OpenParen, CloseParen, Comma, Dot, Pipe, Assign, Var, Lambda}
use Rattle.tick_lexer.specs.declared.token.Token.{Token}
use Rattle.tick_parser.specs.declared.fault.Want.{Want}
use Rattle.tick_parser.specs.declared.fault.Want.TheVariants.{Statement, Name, Equal, Value, Open as WantOpen, Close as WantClose, Ref, Dot as WantDot, Operand}
use Rattle.tick_parser.specs.declared.fault.ParseFault.{ParseFault}
use Rattle.tick_parser.specs.declared.fault.ParseFault.TheVariants.{Expected, Deep, TooMany}
use Rattle.tick_parser.specs.Trees.{ValTree, LambdaVal, ValTrees, NoVals, MoreVals, NoJoints, StmtTree, VarStmt}
use Rattle.tick_parser.specs.Grammar.{Agree, minus}
use Rattle.tick_parser.specs.Script.{spell_val, spell_script}
use Rattle.tick_parser.specs.Refusal.{IsOpening, IsStart, Fills}
use Rattle.tick_parser.specs.Lambdas as lambdas
use Rattle.tick_parser.specs.Machine.{Chain, Call, Context, Variable, Argument, State, Between, VarRead, NameRead, DbRead, DotRead, ValueNext, MinusRead, ValueRead, InLambda, ChainRead, LinkRead, CallRead, ParenRead, Stopped, chain_value, chain_stmt, opens_context, opens, begin, argue, settle, leave, is_dbrp, follow, star, value, signed, number, opening, opened, within, declare, assign, dotted, target, link, step, Got, Refuses, settled, left, closed, finish}
use Rattle.tick_parser.proofs.Complete.{within_going}
use Rattle.tick_parser.proofs.LambdaFaults as faults
use Rattle.tick_parser.proofs.Sound.{spell_chain, Done, GoodLine, GoodVal, Pending, Inside, Stands, context_room, declared_done, chain_valued, chain_done, lambda_valued}
use Rattle.tick_parser.proofs.Viable.{IsGoing}

abbrev pub wanted_context : Context → Want
wanted_context (Variable name at) = Statement
wanted_context (Argument chain call args) = WantClose

abbrev pub wanted_stack : List Context → Want
wanted_stack [] = Statement
wanted_stack (context ∷ stack) = wanted_context context

abbrev pub wanted_held : Context → List lambdas.Frame → Want
wanted_held context [] = wanted_context context
wanted_held context (frame ∷ stack) = WantClose

abbrev pub wanted_inner : Context → lambdas.State → Want
wanted_inner context (lambdas.OperandNext stack n) = Operand
wanted_inner context (lambdas.CallOpened stack n) = Operand
wanted_inner context (lambdas.OperandRead stack tree n) = let held = lambdas.reduce 0 stack tree in wanted_held context held.stack
wanted_inner context _ = Operand

-- what the reader wants where it stands
abbrev pub wanted : State → Want
wanted (Between done) = Statement
wanted (VarRead done at) = Name
wanted (NameRead done name at) = Equal
wanted (DbRead done db at) = WantDot
wanted (DotRead done db at) = Ref
wanted (ValueNext done stack context) = Value
wanted (MinusRead done stack context at) = Value
wanted (ValueRead done stack context v) = wanted_context context
wanted (InLambda done stack context at inner) = wanted_inner context inner
wanted (ChainRead done stack chain) = wanted_stack stack
wanted (LinkRead done stack chain node) = Name
wanted (CallRead done stack chain call) = WantOpen
wanted (ParenRead done stack chain call) = Value
wanted (Stopped f) = Statement

-- the token doesn't fit; or with more room the reader goes on; or a statement begins where no more may
abbrev pub Cause : ℕ → List Token → Want → State → ℕ → Kind → ParseFault → Type 0
Cause m tokens want next at kind f =
    (f ≡ Expected want at) ⊎ (((f ≡ Deep at) × IsOpening kind × IsGoing next) ⊎ ((f ≡ TooMany at) × IsStart kind × Fills m tokens))

many_cause : (m : ℕ) (tokens : List Token) (want : Want) (next : State) (at : ℕ) (kind : Kind) (f : ParseFault) (n : ℕ) (s : State) → IsGoing s → IsStart kind → (m ≤ n → Fills m tokens) → cond (ltb n m) s (Stopped (TooMany at)) ≡ Stopped f → Cause m tokens want next at kind f
many_cause m tokens want next at kind f n s g k fills e =
    let go : (b : Bool) → ltb n m ≡ b → cond b s (Stopped (TooMany at)) ≡ Stopped f → Cause m tokens want next at kind f =
    elim [
      | true ↦ λ t h. absurd (subst IsGoing h g)
      | false ↦ λ t h. inr (inr (cc, k, fills (ltb-false n m t)))
    ] in
    go (ltb n m) refl e

fills_of : (d w m : ℕ) (tokens : List Token) (done : List StmtTree) → Done d w m done → Agree tokens (spell_script done) → m ≤ length done → Fills m tokens
fills_of d w m tokens done h a le = let few = h.few in (done, record { fits = h.fits; spelled = a }, omega arith)

begin_cause : (d w m : ℕ) (tokens : List Token) (done : List StmtTree) (next : State) (at : ℕ) (kind : Kind) (f : ParseFault) → Done d w m done → Agree tokens (spell_script done) → begin m done at kind ≡ Stopped f → Cause m tokens Statement next at kind f
begin_cause d w m tokens done next at Var f h a e = many_cause m tokens Statement next at Var f (length done) (VarRead done at) tt tt (fills_of d w m tokens done h a) e
begin_cause d w m tokens done next at (Ident name) f h a e =
    many_cause m tokens Statement next at (Ident name) f (length done) (ChainRead done [] (record { head = name; links = NoJoints; at = at })) tt tt (fills_of d w m tokens done h a) e
begin_cause d w m tokens done next at _ f h a e = inl (cc)

argue_cause : (m : ℕ) (tokens : List Token) (done : List StmtTree) (stack : List Context) (chain : Chain) (call : Call) (args : ValTrees) (next : State) (at : ℕ) (kind : Kind) (f : ParseFault) → argue done stack chain call args at kind ≡ Stopped f → Cause m tokens WantClose next at kind f
argue_cause m tokens done stack chain call args next at CloseParen f e = absurd (cc)
argue_cause m tokens done stack chain call args next at Comma f e = absurd (cc)
argue_cause m tokens done stack chain call args next at _ f e = inl (cc)

settle_cause : (d w m : ℕ) (tokens : List Token) (done : List StmtTree) (stack : List Context) (context : Context) (v : ValTree) (next : State) (at : ℕ) (kind : Kind) (f : ParseFault) → Pending d w m tokens done (context ∷ stack) (spell_val v) → GoodVal d w stack context v → settle m done stack context v at kind ≡ Stopped f → Cause m tokens (wanted_context context) next at kind f
settle_cause d w m tokens done [] (Variable name place) v next at kind f p g e =
    let x = declared_done d w m tokens done name place v p g in
    begin_cause d w m tokens (done ++ VarStmt name v place ∷ []) next at kind f x.0 x.1 e
settle_cause d w m tokens done (top ∷ stack) (Variable name place) v next at kind f p g e = let h = p.contexts in let none : top ∷ stack ≡ [] = h.0 in absurd (cc)
settle_cause d w m tokens done stack (Argument chain call args) v next at kind f p g e = argue_cause m tokens done stack chain call (MoreVals v args) next at kind f e

leave_cause : (d w m : ℕ) (tokens : List Token) (done : List StmtTree) (stack : List Context) (chain : Chain) (next : State) (at : ℕ) (kind : Kind) (f : ParseFault) → Pending d w m tokens done stack (spell_chain chain) → GoodLine d w stack chain → leave m done stack chain at kind ≡ Stopped f → Cause m tokens (wanted_stack stack) next at kind f
leave_cause d w m tokens done [] chain next at kind f p g e =
    let x = chain_done d w m tokens done chain p g in
    begin_cause d w m tokens (done ++ chain_stmt chain ∷ []) next at kind f x.0 x.1 e
leave_cause d w m tokens done (context ∷ stack) chain next at kind f p g e =
    let x = chain_valued d w m tokens done stack context chain p g in
    settle_cause d w m tokens done stack context (chain_value chain) next at kind f x.0 x.1 e

second : (b : Bool) (s t : State) (f : ParseFault) → IsGoing s → cond b s t ≡ Stopped f → t ≡ Stopped f
second true s t f g e = absurd (subst IsGoing e g)
second false s t f g e = e

follow_cause : (d w m : ℕ) (tokens : List Token) (done : List StmtTree) (stack : List Context) (chain : Chain) (next : State) (at : ℕ) (kind : Kind) (f : ParseFault) → Pending d w m tokens done stack (spell_chain chain) → GoodLine d w stack chain → follow m done stack chain at kind ≡ Stopped f → Cause m tokens (wanted_stack stack) next at kind f
follow_cause d w m tokens done stack chain next at Pipe f p g e = absurd (cc)
follow_cause d w m tokens done stack chain next at Dot f p g e = absurd (cc)
follow_cause d w m tokens done stack chain next at (Reference db) f p g e =
    leave_cause d w m tokens done stack chain next at (Reference db) f p g
    (second (is_dbrp stack chain) (DbRead done db chain.at) (leave m done stack chain at (Reference db)) f tt e)
follow_cause d w m tokens done stack chain next at kind f p g e = leave_cause d w m tokens done stack chain next at kind f p g e

star_cause : (done : List StmtTree) (stack : List Context) (context : Context) (at : ℕ) (f : ParseFault) → star done stack context at ≡ Stopped f → f ≡ Expected Value at
star_cause done stack (Variable name place) at f e = cc
star_cause done stack (Argument chain call args) at f e = absurd (cc)

value_cause : (done : List StmtTree) (stack : List Context) (context : Context) (at : ℕ) (kind : Kind) (f : ParseFault) → value done stack context at kind ≡ Stopped f → f ≡ Expected Value at
value_cause done stack context at (Literal lit) f e = absurd (cc)
value_cause done stack context at (Operator Sub) f e = absurd (cc)
value_cause done stack context at (Operator Mul) f e = star_cause done stack context at f e
value_cause done stack context at Lambda f e = absurd (cc)
value_cause done stack context at (Ident name) f e = absurd (cc)
value_cause done stack context at _ f e = cc

signed_cause : (done : List StmtTree) (stack : List Context) (context : Context) (place at : ℕ) (found : Option Lit) (f : ParseFault) → signed done stack context place at found ≡ Stopped f → f ≡ Expected Value at
signed_cause done stack context place at (Some lit) f e = absurd (cc)
signed_cause done stack context place at None f e = cc

number_cause : (done : List StmtTree) (stack : List Context) (context : Context) (place at : ℕ) (kind : Kind) (f : ParseFault) → number done stack context place at kind ≡ Stopped f → f ≡ Expected Value at
number_cause done stack context place at (Literal lit) f e = signed_cause done stack context place at (minus lit) f e
number_cause done stack context place at _ f e = cc

opening_cause : (d m : ℕ) (tokens : List Token) (done : List StmtTree) (stack : List Context) (chain : Chain) (call : Call) (at : ℕ) (kind : Kind) (f : ParseFault) → opens stack ≤ d → opening d done stack chain call at kind ≡ Stopped f → Cause m tokens WantOpen (opening (d + 1) done stack chain call at kind) at kind f
opening_cause d m tokens done stack chain call at OpenParen f le e =
    let larger : IsGoing (opening (d + 1) done stack chain call at OpenParen) =
    subst (λ (b : Bool). IsGoing (cond b (ParenRead done stack chain call) (Stopped (Deep at)))) (sym (lt-ltb (opens stack) (d + 1) (omega arith))) tt in
    let deep : Stopped (Deep at) ≡ Stopped f = second (ltb (opens stack) d) (ParenRead done stack chain call) (Stopped (Deep at)) f tt e in
    inr (inl (cc, tt, larger))
opening_cause d m tokens done stack chain call at _ f le e = inl (cc)

opened_cause : (done : List StmtTree) (stack : List Context) (chain : Chain) (call : Call) (at : ℕ) (kind : Kind) (f : ParseFault) → opened done stack chain call at kind ≡ Stopped f → f ≡ Expected Value at
opened_cause done stack chain call at CloseParen f e = absurd (cc)
opened_cause done stack chain call at kind f e = value_cause done stack (Argument chain call NoVals) at kind f e

declare_cause : (done : List StmtTree) (place at : ℕ) (kind : Kind) (f : ParseFault) → declare done place at kind ≡ Stopped f → f ≡ Expected Name at
declare_cause done place at (Ident name) f e = absurd (cc)
declare_cause done place at _ f e = cc

assign_cause : (done : List StmtTree) (name : List ℕ) (place at : ℕ) (kind : Kind) (f : ParseFault) → assign done name place at kind ≡ Stopped f → f ≡ Expected Equal at
assign_cause done name place at Assign f e = absurd (cc)
assign_cause done name place at _ f e = cc

dotted_cause : (done : List StmtTree) (db : List ℕ) (place at : ℕ) (kind : Kind) (f : ParseFault) → dotted done db place at kind ≡ Stopped f → f ≡ Expected WantDot at
dotted_cause done db place at Dot f e = absurd (cc)
dotted_cause done db place at _ f e = cc

target_cause : (done : List StmtTree) (db : List ℕ) (place at : ℕ) (kind : Kind) (f : ParseFault) → target done db place at kind ≡ Stopped f → f ≡ Expected Ref at
target_cause done db place at (Reference rp) f e = absurd (cc)
target_cause done db place at _ f e = cc

link_cause : (done : List StmtTree) (stack : List Context) (chain : Chain) (node : Bool) (at : ℕ) (kind : Kind) (f : ParseFault) → link done stack chain node at kind ≡ Stopped f → f ≡ Expected Name at
link_cause done stack chain node at (Ident name) f e = absurd (cc)
link_cause done stack chain node at _ f e = cc

-- behind a whole lambda the reader of lambdas stops only for want of room
leave_empty : (s : List lambdas.Frame) (x : Tree) (at : ℕ) (f : ParseFault) → s ≡ [] → lambdas.leave s x at ≡ lambdas.Stopped f → ⊥
leave_empty [] x at f none e = cc
leave_empty (frame ∷ s) x at f none e = cc

close_empty : (s : List lambdas.Frame) (x : Tree) (n at : ℕ) (f : ParseFault) → s ≡ [] → lambdas.close_top s x n at ≡ lambdas.Stopped f → ⊥
close_empty [] x n at f none e = cc
close_empty (frame ∷ s) x n at f none e = cc

next_empty : (s : List lambdas.Frame) (x : Tree) (n at : ℕ) (f : ParseFault) → s ≡ [] → lambdas.next_top s x n at ≡ lambdas.Stopped f → ⊥
next_empty [] x n at f none e = cc
next_empty (frame ∷ s) x n at f none e = cc

deep_test : (b : Bool) (s : lambdas.State) (at : ℕ) (f : ParseFault) → faults.IsGoing s → cond b s (lambdas.Stopped (Deep at)) ≡ lambdas.Stopped f → f ≡ Deep at
deep_test true s at f g e = absurd (subst faults.IsGoing e g)
deep_test false s at f g e = cc

calling_empty : (d : ℕ) (stack : List lambdas.Frame) (n at : ℕ) (x : Tree) (f : ParseFault) → (lambdas.reduce 0 stack x).stack ≡ [] → lambdas.calling d stack n at x ≡ lambdas.Stopped f → f ≡ Deep at
calling_empty d stack n at (NameTree name place) f none e = deep_test (ltb (lambdas.opens stack) d) _ at f tt e
calling_empty d stack n at x f none e = let h = lambdas.reduce 0 stack x in absurd (leave_empty h.stack h.tree at f none e)

after_empty : (d w : ℕ) (stack : List lambdas.Frame) (x : Tree) (n at : ℕ) (kind : Kind) (f : ParseFault) → (lambdas.reduce 0 stack x).stack ≡ [] → lambdas.after d w stack x n at kind ≡ lambdas.Stopped f → f ≡ Deep at
after_empty d w stack x n at OpenParen f none e = calling_empty d stack n at x f none e
after_empty d w stack x n at (Operator op) f none e = deep_test (ltb n w) _ at f tt e
after_empty d w stack x n at CloseParen f none e = let h = lambdas.reduce 0 stack x in absurd (close_empty h.stack h.tree n at f none e)
after_empty d w stack x n at Comma f none e = let h = lambdas.reduce 0 stack x in absurd (next_empty h.stack h.tree n at f none e)
after_empty d w stack x n at _ f none e = let h = lambdas.reduce 0 stack x in absurd (leave_empty h.stack h.tree at f none e)

-- it stops for want of room only at a parenthesis or an operator
operand_opening : (d : ℕ) (stack : List lambdas.Frame) (n at place : ℕ) (kind : Kind) → lambdas.operand d stack n at kind ≡ lambdas.Stopped (Deep place) → IsOpening kind
operand_opening d stack n at place OpenParen e = tt
operand_opening d stack n at place (Operator op) e = tt
operand_opening d stack n at place Not e = tt
operand_opening d stack n at place _ e = absurd (cc)

empty_opening : (stack : List lambdas.Frame) (n at place : ℕ) → lambdas.close_empty stack n at ≡ lambdas.Stopped (Deep place) → ⊥
empty_opening (lambdas.Args name done x ∷ stack) n at place e = cc
empty_opening _ n at place e = cc

opened_opening : (d : ℕ) (stack : List lambdas.Frame) (n at place : ℕ) (kind : Kind) → lambdas.opened d stack n at kind ≡ lambdas.Stopped (Deep place) → IsOpening kind
opened_opening d stack n at place CloseParen e = absurd (empty_opening stack n at place e)
opened_opening d stack n at place kind e = operand_opening d stack n at place kind e

after_opening : (d w : ℕ) (stack : List lambdas.Frame) (x : Tree) (n at place : ℕ) (kind : Kind) → lambdas.after d w stack x n at kind ≡ lambdas.Stopped (Deep place) → IsOpening kind
after_opening d w stack x n at place OpenParen e = tt
after_opening d w stack x n at place (Operator op) e = tt
after_opening d w stack x n at place Not e = tt
after_opening d w stack x n at place CloseParen e = let h = lambdas.reduce 0 stack x in let f = faults.close_top_fault h.stack h.tree n at (Deep place) e in absurd (cc)
after_opening d w stack x n at place Comma e = let h = lambdas.reduce 0 stack x in let f = faults.next_top_fault h.stack h.tree n at (Deep place) e in absurd (cc)
after_opening d w stack x n at place _ e = let h = lambdas.reduce 0 stack x in let f = faults.leave_fault h.stack h.tree at (Deep place) e in absurd (cc)

step_opening : (d w place : ℕ) (s : lambdas.State) (token : Token) → faults.IsGoing s → lambdas.step d w s token ≡ lambdas.Stopped (Deep place) → IsOpening token.kind
step_opening d w place (lambdas.OperandNext stack n) token g e = operand_opening d stack n token.start place token.kind e
step_opening d w place (lambdas.CallOpened stack n) token g e = opened_opening d stack n token.start place token.kind e
step_opening d w place (lambdas.OperandRead stack x n) token g e = after_opening d w stack x n token.start place token.kind e
step_opening d w place (lambdas.Ended x) token g e = elim g [ ]
step_opening d w place (lambdas.Stopped f) token g e = elim g [ ]

-- what it wants is what the reader of scripts wants
held_wanted : (context : Context) (s : List lambdas.Frame) → (s ≡ [] → ⊥) → wanted_held context s ≡ WantClose
held_wanted context [] h = absurd (h refl)
held_wanted context (frame ∷ s) h = refl

inner_wanted : (d w : ℕ) (context : Context) (s : lambdas.State) (token : Token) (want : Want) (at : ℕ) → faults.IsGoing s → lambdas.step d w s token ≡ lambdas.Stopped (Expected want at) → wanted_inner context s ≡ faults.wanted s
inner_wanted d w context (lambdas.OperandNext stack n) token want at g e = refl
inner_wanted d w context (lambdas.CallOpened stack n) token want at g e = refl
inner_wanted d w context (lambdas.OperandRead stack x n) token want at g e =
    let held = lambdas.reduce 0 stack x in
    held_wanted context held.stack
    (λ (none : held.stack ≡ []). let f = after_empty d w stack x n token.start token.kind (Expected want at) none e in cc)
inner_wanted d w context (lambdas.Ended x) token want at g e = elim g [ ]
inner_wanted d w context (lambdas.Stopped f) token want at g e = elim g [ ]

-- a lambda that ended was held whole
ended_wanted : (d w : ℕ) (context : Context) (s : lambdas.State) (token : Token) (body : Tree) → faults.IsGoing s → lambdas.step d w s token ≡ lambdas.Ended body → wanted_inner context s ≡ wanted_context context
ended_wanted d w context (lambdas.OperandNext stack n) token body g e = absurd (faults.operand_ended d stack n token.start token.kind body e)
ended_wanted d w context (lambdas.CallOpened stack n) token body g e = absurd (faults.opened_ended d stack n token.start token.kind body e)
ended_wanted d w context (lambdas.OperandRead stack x n) token body g e =
    let found = faults.after_ended d w stack x n token.start token.kind body e in
    ap (λ (s : List lambdas.Frame). wanted_held context s) found.0
ended_wanted d w context (lambdas.Ended x) token body g e = elim g [ ]
ended_wanted d w context (lambdas.Stopped f) token body g e = elim g [ ]

within_cause : (d w m : ℕ) (tokens : List Token) (done : List StmtTree) (stack : List Context) (context : Context) (place : ℕ) (inner next : lambdas.State) (token : Token) (f : ParseFault) → Inside d w m tokens done stack context place inner → lambdas.step (d - (opens stack + opens_context context)) w inner token ≡ next → within m done stack context place token.start token.kind next ≡ Stopped f → Cause m tokens (wanted_inner context inner) (within m done stack context place token.start token.kind (lambdas.step (d + 1 - (opens stack + opens_context context)) (w + 1) inner token)) token.start token.kind f
within_cause d w m tokens done stack context place inner (lambdas.OperandNext st n) token f i e h = absurd (cc)
within_cause d w m tokens done stack context place inner (lambdas.CallOpened st n) token f i e h = absurd (cc)
within_cause d w m tokens done stack context place inner (lambdas.OperandRead st t n) token f i e h = absurd (cc)
within_cause d w m tokens done stack context place inner (lambdas.Ended body) token f i e h =
    let room = d - (opens stack + opens_context context) in
    let x = faults.ended room w i.back inner token body i.stands i.going e in
    let v = lambda_valued d w m tokens i.front i.back done stack context place body i.joined i.outer x in
    let next = within m done stack context place token.start token.kind (lambdas.step (d + 1 - (opens stack + opens_context context)) (w + 1) inner token) in
    subst (λ (want : Want). Cause m tokens want next token.start token.kind f) (sym (ended_wanted room w context inner token body i.going e))
    (settle_cause d w m tokens done stack context (LambdaVal body place) next token.start token.kind f v.0 v.1 h)
within_cause d w m tokens done stack context place inner (lambdas.Stopped g) token f i e h =
    let depth = opens stack + opens_context context in
    let outer = i.outer in
    let contexts = outer.contexts in
    let le = context_room d w stack context contexts.0 in
    let same : g ≡ f = cc in
    let stop : lambdas.step (d - depth) w inner token ≡ lambdas.Stopped f = e ∙ ap (λ (x : ParseFault). lambdas.Stopped x) same in
    let larger : d - depth + 1 ≡ d + 1 - depth = omega arith in
    ⊎_elim
    (λ (q : f ≡ Expected (faults.wanted inner) token.start).
    let stop_here : lambdas.step (d - depth) w inner token ≡ lambdas.Stopped (Expected (faults.wanted inner) token.start) = stop ∙ ap (λ (x : ParseFault). lambdas.Stopped x) q in
    inl (q ∙ ap (λ (want : Want). Expected want token.start) (sym (inner_wanted (d - depth) w context inner token (faults.wanted inner) token.start i.going stop_here))))
    (λ (q : (f ≡ Deep token.start) × faults.IsGoing (lambdas.step (d - depth + 1) (w + 1) inner token)).
    let stop_here : lambdas.step (d - depth) w inner token ≡ lambdas.Stopped (Deep token.start) = stop ∙ ap (λ (x : ParseFault). lambdas.Stopped x) q.0 in
    let going : faults.IsGoing (lambdas.step (d + 1 - depth) (w + 1) inner token) = subst (λ (x : ℕ). faults.IsGoing (lambdas.step x (w + 1) inner token)) larger q.1 in
    inr (inl (
      q.0,
      step_opening (d - depth) w token.start inner token i.going stop_here,
      subst IsGoing (sym (within_going m done stack context place token.start token.kind (lambdas.step (d + 1 - depth) (w + 1) inner token) going)) tt,
    )))
    (faults.step_fault (d - depth) w i.back inner token f i.stands i.going stop)

-- why the reader stops at a token
pub step_cause : (d w m : ℕ) (tokens : List Token) (s : State) (token : Token) (f : ParseFault) → Stands d w m tokens s → IsGoing s → step d w m s token ≡ Stopped f → Cause m tokens (wanted s) (step (d + 1) (w + 1) m s token) token.start token.kind f
step_cause d w m tokens (Between done) token f h g e = begin_cause d w m tokens done (step (d + 1) (w + 1) m (Between done) token) token.start token.kind f h.0 h.1 e
step_cause d w m tokens (VarRead done at) token f h g e = inl (declare_cause done at token.start token.kind f e)
step_cause d w m tokens (NameRead done name at) token f h g e = inl (assign_cause done name at token.start token.kind f e)
step_cause d w m tokens (DbRead done db at) token f h g e = inl (dotted_cause done db at token.start token.kind f e)
step_cause d w m tokens (DotRead done db at) token f h g e = inl (target_cause done db at token.start token.kind f e)
step_cause d w m tokens (ValueNext done stack context) token f h g e = inl (value_cause done stack context token.start token.kind f e)
step_cause d w m tokens (MinusRead done stack context at) token f h g e = inl (number_cause done stack context at token.start token.kind f e)
step_cause d w m tokens (ValueRead done stack context v) token f h g e =
    settle_cause d w m tokens done stack context v (step (d + 1) (w + 1) m (ValueRead done stack context v) token) token.start token.kind f h.0 h.1 e
step_cause d w m tokens (InLambda done stack context at inner) token f h g e =
    within_cause d w m tokens done stack context at inner (lambdas.step (d - (opens stack + opens_context context)) w inner token) token f h refl e
step_cause d w m tokens (ChainRead done stack chain) token f h g e =
    follow_cause d w m tokens done stack chain (step (d + 1) (w + 1) m (ChainRead done stack chain) token) token.start token.kind f h.0 h.1 e
step_cause d w m tokens (LinkRead done stack chain node) token f h g e = inl (link_cause done stack chain node token.start token.kind f e)
step_cause d w m tokens (CallRead done stack chain call) token f h g e =
    let l = h.1 in
    let k = l.deep in
    opening_cause d m tokens done stack chain call token.start token.kind f (omega arith) e
step_cause d w m tokens (ParenRead done stack chain call) token f h g e = inl (opened_cause done stack chain call token.start token.kind f e)
step_cause d w m tokens (Stopped x) token f h g e = elim g [ ]

settled_refuses : (at : ℕ) (done : List StmtTree) (context : Context) (v : ValTree) (f : ParseFault) → settled at done context v ≡ Refuses f → f ≡ Expected (wanted_context context) at
settled_refuses at done (Variable name place) v f e = absurd (cc)
settled_refuses at done (Argument chain call args) v f e = cc

left_refuses : (at : ℕ) (done : List StmtTree) (stack : List Context) (chain : Chain) (f : ParseFault) → left at done stack chain ≡ Refuses f → f ≡ Expected (wanted_stack stack) at
left_refuses at done [] chain f e = absurd (cc)
left_refuses at done (context ∷ stack) chain f e = settled_refuses at done context (chain_value chain) f e

held_refuses : (at : ℕ) (done : List StmtTree) (context : Context) (place : ℕ) (s : List lambdas.Frame) (x : Tree) (f : ParseFault) → closed at done context place (lambdas.done_at at s x) ≡ Refuses f → f ≡ Expected (wanted_held context s) at
held_refuses at done context place [] x f e = settled_refuses at done context (LambdaVal x place) f e
held_refuses at done context place (frame ∷ s) x f e = cc

closed_refuses : (at : ℕ) (done : List StmtTree) (context : Context) (place : ℕ) (inner : lambdas.State) (f : ParseFault) → faults.IsGoing inner → closed at done context place (lambdas.finish at inner) ≡ Refuses f → f ≡ Expected (wanted_inner context inner) at
closed_refuses at done context place (lambdas.OperandNext st n) f g e = cc
closed_refuses at done context place (lambdas.CallOpened st n) f g e = cc
closed_refuses at done context place (lambdas.OperandRead st x n) f g e = let held = lambdas.reduce 0 st x in held_refuses at done context place held.stack held.tree f e
closed_refuses at done context place (lambdas.Ended x) f g e = elim g [ ]
closed_refuses at done context place (lambdas.Stopped x) f g e = elim g [ ]

-- why the reader refuses where the tokens end
pub finish_refuses : (d w m at : ℕ) (tokens : List Token) (s : State) (f : ParseFault) → Stands d w m tokens s → IsGoing s → finish at s ≡ Refuses f → f ≡ Expected (wanted s) at
finish_refuses d w m at tokens (Between done) f h g e = absurd (cc)
finish_refuses d w m at tokens (VarRead done place) f h g e = cc
finish_refuses d w m at tokens (NameRead done name place) f h g e = cc
finish_refuses d w m at tokens (DbRead done db place) f h g e = cc
finish_refuses d w m at tokens (DotRead done db place) f h g e = cc
finish_refuses d w m at tokens (ValueNext done stack context) f h g e = cc
finish_refuses d w m at tokens (MinusRead done stack context place) f h g e = cc
finish_refuses d w m at tokens (ValueRead done stack context v) f h g e = settled_refuses at done context v f e
finish_refuses d w m at tokens (InLambda done stack context place inner) f h g e = closed_refuses at done context place inner f h.going e
finish_refuses d w m at tokens (ChainRead done stack chain) f h g e = left_refuses at done stack chain f e
finish_refuses d w m at tokens (LinkRead done stack chain node) f h g e = cc
finish_refuses d w m at tokens (CallRead done stack chain call) f h g e = cc
finish_refuses d w m at tokens (ParenRead done stack chain call) f h g e = cc
finish_refuses d w m at tokens (Stopped x) f h g e = elim g [ ]

settled_got : (d w m at : ℕ) (tokens : List Token) (done : List StmtTree) (stack : List Context) (context : Context) (v : ValTree) (t : List StmtTree) → Pending d w m tokens done (context ∷ stack) (spell_val v) → GoodVal d w stack context v → settled at done context v ≡ Got t → Done d w m t × Agree tokens (spell_script t)
settled_got d w m at tokens done [] (Variable name place) v t p g e =
    let found : done ++ VarStmt name v place ∷ [] ≡ t = cc in
    subst (λ (x : List StmtTree). Done d w m x × Agree tokens (spell_script x)) found (declared_done d w m tokens done name place v p g)
settled_got d w m at tokens done (top ∷ stack) (Variable name place) v t p g e = let h = p.contexts in let none : top ∷ stack ≡ [] = h.0 in absurd (cc)
settled_got d w m at tokens done stack (Argument chain call args) v t p g e = absurd (cc)

left_got : (d w m at : ℕ) (tokens : List Token) (done : List StmtTree) (stack : List Context) (chain : Chain) (t : List StmtTree) → Pending d w m tokens done stack (spell_chain chain) → GoodLine d w stack chain → left at done stack chain ≡ Got t → Done d w m t × Agree tokens (spell_script t)
left_got d w m at tokens done [] chain t p g e =
    let found : done ++ chain_stmt chain ∷ [] ≡ t = cc in
    subst (λ (x : List StmtTree). Done d w m x × Agree tokens (spell_script x)) found (chain_done d w m tokens done chain p g)
left_got d w m at tokens done (context ∷ stack) chain t p g e =
    let x = chain_valued d w m tokens done stack context chain p g in
    settled_got d w m at tokens done stack context (chain_value chain) t x.0 x.1 e

closed_got : (d w m at : ℕ) (tokens : List Token) (done : List StmtTree) (stack : List Context) (context : Context) (place : ℕ) (inner : lambdas.State) (answer : lambdas.Answer) (t : List StmtTree) → Inside d w m tokens done stack context place inner → lambdas.finish at inner ≡ answer → closed at done context place answer ≡ Got t → Done d w m t × Agree tokens (spell_script t)
closed_got d w m at tokens done stack context place inner (lambdas.Got body) t i e h =
    let x = faults.finished (d - (opens stack + opens_context context)) w at i.back inner body i.stands i.going e in
    let v = lambda_valued d w m tokens i.front i.back done stack context place body i.joined i.outer x in
    settled_got d w m at tokens done stack context (LambdaVal body place) t v.0 v.1 h
closed_got d w m at tokens done stack context place inner (lambdas.Refuses f) t i e h = absurd (cc)

-- what the reader answers where the tokens end is a script of the tokens
pub finish_got : (d w m at : ℕ) (tokens : List Token) (s : State) (t : List StmtTree) → Stands d w m tokens s → finish at s ≡ Got t → Done d w m t × Agree tokens (spell_script t)
finish_got d w m at tokens (Between done) t h e =
    let found : done ≡ t = cc in
    subst (λ (x : List StmtTree). Done d w m x × Agree tokens (spell_script x)) found h
finish_got d w m at tokens (ValueRead done stack context v) t h e = settled_got d w m at tokens done stack context v t h.0 h.1 e
finish_got d w m at tokens (InLambda done stack context place inner) t h e = closed_got d w m at tokens done stack context place inner (lambdas.finish at inner) t h refl e
finish_got d w m at tokens (ChainRead done stack chain) t h e = left_got d w m at tokens done stack chain t h.0 h.1 e
finish_got d w m at tokens _ t h e = absurd (cc)
