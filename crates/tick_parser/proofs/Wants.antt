-- What may stand behind the tokens that are read.
use Rattle.std.proofs.Common.{◌≡◌, ℕ, ◌+◌, ◌-◌, ◌≤◌, max, Bool, cond, List, [], ◌∷◌, ◌++◌, length, refl, sym, ap, ◌∙◌, subst, ⊎_elim, arith, lt-ltb}
use Rattle.std.specs.Prelude.{pos}
use Rattle.kap_base.specs.declared.expr.Lit.TheVariants.{Int}
use Rattle.kap_base.specs.Tree.{Tree}
use Rattle.tick_lexer.specs.declared.token.Kind.{Kind}
use Rattle.tick_lexer.specs.declared.token.Kind.TheVariants.{Ident, Literal, Reference, OpenParen, CloseParen, Dot, Assign, Var}
use Rattle.tick_lexer.specs.declared.token.Token.{Token}
use Rattle.tick_parser.specs.declared.fault.Want.{Want}
use Rattle.tick_parser.specs.declared.fault.Want.TheVariants.{Name, Equal, Value, Open as WantOpen, Close as WantClose, Ref, Dot as WantDot}
use Rattle.tick_parser.specs.declared.fault.ParseFault.{ParseFault}
use Rattle.tick_parser.specs.declared.fault.ParseFault.TheVariants.{Expected, Deep}
use Rattle.tick_parser.specs.Trees.{StmtTree}
use Rattle.tick_parser.specs.Script.{depth_script, width_script, Reads, Within}
use Rattle.tick_parser.specs.Refusal.{Begins, Can, Cannot, IsWhole, IsIdent, IsReference, IsAssign, IsOpen, IsDot, Needs}
use Rattle.tick_parser.specs.Lambdas as lambdas
use Rattle.tick_parser.specs.Machine.{Chain, Call, Context, Variable, Argument, State, Between, VarRead, NameRead, DbRead, DotRead, ValueNext, MinusRead, ValueRead, InLambda, ChainRead, LinkRead, CallRead, ParenRead, Stopped, opens_context, opens, within, step, run, Got, Refuses, closed, finish}
use Rattle.tick_parser.proofs.LambdaComplete.{Below}
use Rattle.tick_parser.proofs.LambdaSound as sound
use Rattle.tick_parser.proofs.CompleteScript.{whole_run}
use Rattle.tick_parser.proofs.Sound.{Stands, run_stands}
use Rattle.tick_parser.proofs.Viable.{IsGoing, HasRoom, sample, viable}
use Rattle.tick_parser.proofs.Room.{IsFull, IsDeep, same_count, same_room, same_run, run_stopped}
use Rattle.tick_parser.proofs.Runs.{run-append}
use Rattle.tick_parser.proofs.Faults.{wanted, wanted_held, finish_got}

-- the state after these tokens
abbrev pub state_of : ℕ → ℕ → ℕ → List Token → State
state_of d w m tokens = run d w m tokens (Between [])

pub stands : (d w m : ℕ) (tokens : List Token) → Stands d w m tokens (state_of d w m tokens)
stands d w m tokens = run_stands d w m tokens [] (Between []) (record { fits = tt; deep = omega arith; wide = omega arith; few = omega arith }, refl)

-- after these tokens the reader stands in this state
pub record Here (d w m : ℕ) (tokens : List Token) (s : State) : Type 0 where
  pub is : state_of d w m tokens ≡ s
  pub going : IsGoing s

pub here_stands : (d w m : ℕ) (tokens : List Token) (s : State) → Here d w m tokens s → Stands d w m tokens s
here_stands d w m tokens s h = subst (λ (x : State). Stands d w m tokens x) h.is (stands d w m tokens)

-- with more room it stands there too
pub here_larger : (d w m e x n : ℕ) (tokens : List Token) (s : State) → d ≤ e → w ≤ x → m ≤ n → Here d w m tokens s → Here e x n tokens s
here_larger d w m e x n tokens s le le2 le3 h =
    record { is = same_run d w m e x n tokens (Between []) le le2 le3 (subst IsGoing (sym h.is) h.going) ∙ h.is; going = h.going }

pub here_next : (d w m : ℕ) (tokens : List Token) (s : State) (token : Token) → Here d w m tokens s → IsGoing (step d w m s token) → Here d w m (tokens ++ token ∷ []) (step d w m s token)
here_next d w m tokens s token h g =
    record { is = run-append d w m tokens (token ∷ []) (Between []) ∙ ap (λ (x : State). step d w m x token) h.is; going = g }

room_more : (d w m : ℕ) (tokens : List Token) (s : State) → Stands d w m tokens s → HasRoom (d + 1) s
room_more d w m tokens (LinkRead done stack chain node) h = let l = h.1 in let k = l.deep in omega arith
room_more d w m tokens (CallRead done stack chain call) h = let l = h.1 in let k = l.deep in omega arith
room_more d w m tokens _ h = tt

-- where the reader stands some script goes on
pub begins : (d w m : ℕ) (tokens : List Token) (s : State) → Here d w m tokens s → Begins tokens
begins d w m tokens s h =
    let larger = here_larger d w m (d + 1) w m tokens s (omega arith) (omega arith) (omega arith) h in
    let o = viable (d + 1) w m tokens s (here_stands (d + 1) w m tokens s larger) h.going (room_more d w m tokens s (here_stands d w m tokens s h)) in
    record { more = o.more; script = o.script; reads = o.reads }

can : (d w m : ℕ) (tokens : List Token) (s : State) (kind : Kind) → Here d w m tokens s → IsGoing (step (d + 1) (w + 1) (m + 1) s (sample kind)) → Can kind tokens
can d w m tokens s kind h g =
    let larger = here_larger d w m (d + 1) (w + 1) (m + 1) tokens s (omega arith) (omega arith) (omega arith) h in
    begins (d + 1) (w + 1) (m + 1) (tokens ++ sample kind ∷ []) (step (d + 1) (w + 1) (m + 1) s (sample kind)) (here_next (d + 1) (w + 1) (m + 1) tokens s (sample kind) larger g)

-- a token that doesn't fit stops the reader with more room too
stops_larger : (d w m e x n : ℕ) (s : State) (token : Token) (want : Want) (at : ℕ) → d ≤ e → w ≤ x → m ≤ n → step d w m s token ≡ Stopped (Expected want at) → step e x n s token ≡ Stopped (Expected want at)
stops_larger d w m e x n s token want at le le2 le3 h =
    let room : step e x m s token ≡ Stopped (Expected want at) =
    ⊎_elim (λ (q : step e x m s token ≡ step d w m s token). q ∙ h) (λ (q : IsDeep (step d w m s token)). absurd (subst IsDeep h q)) (same_room d w e x m s token le le2) in
    ⊎_elim (λ (q : step e x n s token ≡ step e x m s token). q ∙ room) (λ (q : IsFull (step e x m s token)). absurd (subst IsFull room q)) (same_count e x m n s token le3)

-- the reader doesn't stop before a script's end
pub no_stop : (d w m : ℕ) (front back : List Token) (t : List StmtTree) (f : ParseFault) → Reads (front ++ back) t → Within d w m t → state_of d w m front ≡ Stopped f → ⊥
no_stop d w m front back t f r i e =
    let g = whole_run d w m (front ++ back) t r i in
    let rests = g.rests in
    let stop : state_of d w m (front ++ back) ≡ Stopped f =
    run-append d w m front back (Between []) ∙ ap (λ (u : State). run d w m back u) e ∙ run_stopped d w m back f in
    let ends : finish 0 g.state ≡ Got t = rests.ends 0 in
    let reached = g.reached in
    let refuses : finish 0 g.state ≡ Refuses f = ap (λ (u : State). finish 0 u) (sym reached ∙ stop) in
    cc

-- no script goes on with a token that doesn't fit
pub no_script : (d w m : ℕ) (tokens : List Token) (s : State) (token : Token) (want : Want) (at : ℕ) → Here d w m tokens s → step d w m s token ≡ Stopped (Expected want at) → Begins (tokens ++ token ∷ []) → ⊥
no_script d w m tokens s token want at h e o =
    let deep = max d (depth_script o.script) in
    let wide = max w (width_script o.script) in
    let many = max m (length o.script) in
    let larger = here_larger d w m deep wide many tokens s (omega arith) (omega arith) (omega arith) h in
    let stop = stops_larger d w m deep wide many s token want at (omega arith) (omega arith) (omega arith) e in
    no_stop deep wide many (tokens ++ token ∷ []) o.more o.script (Expected want at) o.reads (record { depth_fits = omega arith; width_fits = omega arith; count_fits = omega arith })
    (run-append deep wide many tokens (token ∷ []) (Between []) ∙ ap (λ (u : State). step deep wide many u token) larger.is ∙ stop)

cannot : (d w m : ℕ) (tokens : List Token) (s : State) (kind : Kind) (want : Want) → Here d w m tokens s → step d w m s (sample kind) ≡ Stopped (Expected want 0) → Cannot kind tokens
cannot d w m tokens s kind want h e = λ (o : Can kind tokens). no_script d w m tokens s (sample kind) want 0 h e o

whole_of : (d w m : ℕ) (tokens : List Token) (s : State) (t : List StmtTree) → Here d w m tokens s → finish 0 s ≡ Got t → IsWhole tokens
whole_of d w m tokens s t h e =
    let x = finish_got d w m 0 tokens s t (here_stands d w m tokens s h) e in
    let done = x.0 in
    (t, record { fits = done.fits; spelled = x.1 })

abbrev zero : Kind
zero = Literal (Int (pos 0))

-- behind an operand, by what is open in the lambda
held_needs : (d w m : ℕ) (tokens : List Token) (done : List StmtTree) (stack : List Context) (context : Context) (at : ℕ) (st : List lambdas.Frame) (x : Tree) (n : ℕ) (s : List lambdas.Frame) (y : Tree) → Here d w m tokens (InLambda done stack context at (lambdas.OperandRead st x n)) → lambdas.reduce 0 st x ≡ record { stack = s; tree = y } → Below 0 s → Needs (wanted_held context s) tokens
held_needs d w m tokens done stack (Variable name place) at st x n [] y h e b =
    whole_of d w m tokens (InLambda done stack (Variable name place) at (lambdas.OperandRead st x n)) _ h
    (ap (λ (held : lambdas.HeldOperand). closed 0 done (Variable name place) at (lambdas.done_at 0 held.stack held.tree)) e)
held_needs d w m tokens done stack (Argument chain call args) at st x n [] y h e b =
    let context = Argument chain call args in
    let here = InLambda done stack context at (lambdas.OperandRead st x n) in (
      can d w m tokens here CloseParen h
          (subst (λ (held : lambdas.HeldOperand). IsGoing (within (m + 1) done stack context at 0 CloseParen (lambdas.close_top held.stack held.tree n 0))) (sym e) tt),
      cannot d w m tokens here zero WantClose h
          (ap (λ (held : lambdas.HeldOperand). within m done stack context at 0 zero (lambdas.leave held.stack held.tree 0)) e),
      cannot d w m tokens here Var WantClose h
          (ap (λ (held : lambdas.HeldOperand). within m done stack context at 0 Var (lambdas.leave held.stack held.tree 0)) e),
    )
held_needs d w m tokens done stack context at st x n (lambdas.Paren place ∷ s) y h e b =
    let here = InLambda done stack context at (lambdas.OperandRead st x n) in (
      can d w m tokens here CloseParen h
          (subst (λ (held : lambdas.HeldOperand). IsGoing (within (m + 1) done stack context at 0 CloseParen (lambdas.close_top held.stack held.tree n 0))) (sym e) tt),
      cannot d w m tokens here zero WantClose h
          (ap (λ (held : lambdas.HeldOperand). within m done stack context at 0 zero (lambdas.leave held.stack held.tree 0)) e),
      cannot d w m tokens here Var WantClose h
          (ap (λ (held : lambdas.HeldOperand). within m done stack context at 0 Var (lambdas.leave held.stack held.tree 0)) e),
    )
held_needs d w m tokens done stack context at st x n (lambdas.Args name args place ∷ s) y h e b =
    let here = InLambda done stack context at (lambdas.OperandRead st x n) in (
      can d w m tokens here CloseParen h
          (subst (λ (held : lambdas.HeldOperand). IsGoing (within (m + 1) done stack context at 0 CloseParen (lambdas.close_top held.stack held.tree n 0))) (sym e) tt),
      cannot d w m tokens here zero WantClose h
          (ap (λ (held : lambdas.HeldOperand). within m done stack context at 0 zero (lambdas.leave held.stack held.tree 0)) e),
      cannot d w m tokens here Var WantClose h
          (ap (λ (held : lambdas.HeldOperand). within m done stack context at 0 Var (lambdas.leave held.stack held.tree 0)) e),
    )
held_needs d w m tokens done stack context at st x n (lambdas.Minus place ∷ s) y h e b = absurd (omega arith)
held_needs d w m tokens done stack context at st x n (lambdas.Negation place ∷ s) y h e b = absurd (omega arith)
held_needs d w m tokens done stack context at st x n (lambdas.Left op t place ∷ s) y h e b = absurd (omega arith)

lambda_needs : (d w m : ℕ) (tokens : List Token) (done : List StmtTree) (stack : List Context) (context : Context) (at : ℕ) (inner : lambdas.State) → Here d w m tokens (InLambda done stack context at inner) → Needs (wanted (InLambda done stack context at inner)) tokens
lambda_needs d w m tokens done stack context at (lambdas.OperandNext st n) h =
    let here = InLambda done stack context at (lambdas.OperandNext st n) in
    (can d w m tokens here zero h tt, can d w m tokens here (Reference []) h tt, cannot d w m tokens here Var _ h refl)
lambda_needs d w m tokens done stack context at (lambdas.CallOpened st n) h =
    let here = InLambda done stack context at (lambdas.CallOpened st n) in
    (can d w m tokens here zero h tt, can d w m tokens here (Reference []) h tt, cannot d w m tokens here Var _ h refl)
lambda_needs d w m tokens done stack context at (lambdas.OperandRead st x n) h =
    let i = here_stands d w m tokens (InLambda done stack context at (lambdas.OperandRead st x n)) h in
    let room = d - (opens stack + opens_context context) in
    let c : sound.Carries room w i.back st x n = i.stands in
    let held = lambdas.reduce 0 st x in
    let r = sound.reduced st room 0 6 x c.over (omega arith) in
    held_needs d w m tokens done stack context at st x n held.stack held.tree h refl r.below
lambda_needs d w m tokens done stack context at (lambdas.Ended x) h =
    let i = here_stands d w m tokens (InLambda done stack context at (lambdas.Ended x)) h in elim i.going [ ]
lambda_needs d w m tokens done stack context at (lambdas.Stopped f) h =
    let i = here_stands d w m tokens (InLambda done stack context at (lambdas.Stopped f)) h in elim i.going [ ]

-- what may stand where only one thing may
only_name : (d w m : ℕ) (tokens : List Token) (done : List StmtTree) (at : ℕ) → Here d w m tokens (VarRead done at) → (kind : Kind) → Can kind tokens → IsIdent kind
only_name d w m tokens done at h (Ident name) o = tt
only_name d w m tokens done at h kind o = absurd (cannot d w m tokens (VarRead done at) kind Name h refl o)

only_link : (d w m : ℕ) (tokens : List Token) (done : List StmtTree) (stack : List Context) (chain : Chain) (node : Bool) → Here d w m tokens (LinkRead done stack chain node) → (kind : Kind) → Can kind tokens → IsIdent kind
only_link d w m tokens done stack chain node h (Ident name) o = tt
only_link d w m tokens done stack chain node h kind o = absurd (cannot d w m tokens (LinkRead done stack chain node) kind Name h refl o)

only_assign : (d w m : ℕ) (tokens : List Token) (done : List StmtTree) (name : List ℕ) (at : ℕ) → Here d w m tokens (NameRead done name at) → (kind : Kind) → Can kind tokens → IsAssign kind
only_assign d w m tokens done name at h Assign o = tt
only_assign d w m tokens done name at h kind o = absurd (cannot d w m tokens (NameRead done name at) kind Equal h refl o)

only_dot : (d w m : ℕ) (tokens : List Token) (done : List StmtTree) (db : List ℕ) (at : ℕ) → Here d w m tokens (DbRead done db at) → (kind : Kind) → Can kind tokens → IsDot kind
only_dot d w m tokens done db at h Dot o = tt
only_dot d w m tokens done db at h kind o = absurd (cannot d w m tokens (DbRead done db at) kind WantDot h refl o)

only_reference : (d w m : ℕ) (tokens : List Token) (done : List StmtTree) (db : List ℕ) (at : ℕ) → Here d w m tokens (DotRead done db at) → (kind : Kind) → Can kind tokens → IsReference kind
only_reference d w m tokens done db at h (Reference name) o = tt
only_reference d w m tokens done db at h kind o = absurd (cannot d w m tokens (DotRead done db at) kind Ref h refl o)

only_open : (d w m : ℕ) (tokens : List Token) (done : List StmtTree) (stack : List Context) (chain : Chain) (call : Call) → Here d w m tokens (CallRead done stack chain call) → (kind : Kind) → Can kind tokens → IsOpen kind
only_open d w m tokens done stack chain call h OpenParen o = tt
only_open d w m tokens done stack chain call h kind o = absurd (cannot d w m tokens (CallRead done stack chain call) kind WantOpen h refl o)

argument_needs : (d w m : ℕ) (tokens : List Token) (s : State) → Here d w m tokens s → IsGoing (step (d + 1) (w + 1) (m + 1) s (sample CloseParen)) → step d w m s (sample zero) ≡ Stopped (Expected WantClose 0) → step d w m s (sample Var) ≡ Stopped (Expected WantClose 0) → Needs WantClose tokens
argument_needs d w m tokens s h g e f = (can d w m tokens s CloseParen h g, cannot d w m tokens s zero WantClose h e, cannot d w m tokens s Var WantClose h f)

value_needs : (d w m : ℕ) (tokens : List Token) (s : State) → Here d w m tokens s → IsGoing (step (d + 1) (w + 1) (m + 1) s (sample zero)) → step d w m s (sample (Reference [])) ≡ Stopped (Expected Value 0) → step d w m s (sample Var) ≡ Stopped (Expected Value 0) → Needs Value tokens
value_needs d w m tokens s h g e f = (can d w m tokens s zero h g, cannot d w m tokens s (Reference []) Value h e, cannot d w m tokens s Var Value h f)

call_needs : (d w m : ℕ) (tokens : List Token) (done : List StmtTree) (stack : List Context) (chain : Chain) (call : Call) → Here d w m tokens (CallRead done stack chain call) → Needs WantOpen tokens
call_needs d w m tokens done stack chain call h =
    let i = here_stands d w m tokens (CallRead done stack chain call) h in
    let l = i.1 in
    let k = l.deep in
    let goes : IsGoing (step (d + 1) (w + 1) (m + 1) (CallRead done stack chain call) (sample OpenParen)) =
    subst (λ (b : Bool). IsGoing (cond b (ParenRead done stack chain call) (Stopped (Deep 0)))) (sym (lt-ltb (opens stack) (d + 1) (omega arith))) tt in
    ((OpenParen, tt, can d w m tokens (CallRead done stack chain call) OpenParen h goes), only_open d w m tokens done stack chain call h)

-- what the reader wants is what the grammar needs there
pub needs : (d w m : ℕ) (tokens : List Token) (s : State) → Here d w m tokens s → Needs (wanted s) tokens
needs d w m tokens (Between done) h = whole_of d w m tokens (Between done) done h refl
needs d w m tokens (VarRead done at) h = ((Ident [], tt, can d w m tokens (VarRead done at) (Ident []) h tt), only_name d w m tokens done at h)
needs d w m tokens (NameRead done name at) h = ((Assign, tt, can d w m tokens (NameRead done name at) Assign h tt), only_assign d w m tokens done name at h)
needs d w m tokens (DbRead done db at) h = ((Dot, tt, can d w m tokens (DbRead done db at) Dot h tt), only_dot d w m tokens done db at h)
needs d w m tokens (DotRead done db at) h = ((Reference [], tt, can d w m tokens (DotRead done db at) (Reference []) h tt), only_reference d w m tokens done db at h)
needs d w m tokens (ValueNext done stack context) h = value_needs d w m tokens (ValueNext done stack context) h tt refl refl
needs d w m tokens (MinusRead done stack context at) h = value_needs d w m tokens (MinusRead done stack context at) h tt refl refl
needs d w m tokens (ValueRead done stack (Variable name at) v) h = whole_of d w m tokens (ValueRead done stack (Variable name at) v) _ h refl
needs d w m tokens (ValueRead done stack (Argument chain call args) v) h = argument_needs d w m tokens (ValueRead done stack (Argument chain call args) v) h tt refl refl
needs d w m tokens (InLambda done stack context at inner) h = lambda_needs d w m tokens done stack context at inner h
needs d w m tokens (ChainRead done [] chain) h = whole_of d w m tokens (ChainRead done [] chain) _ h refl
needs d w m tokens (ChainRead done (Variable name at ∷ stack) chain) h = whole_of d w m tokens (ChainRead done (Variable name at ∷ stack) chain) _ h refl
needs d w m tokens (ChainRead done (Argument outer call args ∷ stack) chain) h = argument_needs d w m tokens (ChainRead done (Argument outer call args ∷ stack) chain) h tt refl refl
needs d w m tokens (LinkRead done stack chain node) h = ((Ident [], tt, can d w m tokens (LinkRead done stack chain node) (Ident []) h tt), only_link d w m tokens done stack chain node h)
needs d w m tokens (CallRead done stack chain call) h = call_needs d w m tokens done stack chain call h
needs d w m tokens (ParenRead done stack chain call) h = value_needs d w m tokens (ParenRead done stack chain call) h tt refl refl
needs d w m tokens (Stopped f) h = elim h.going [ ]
