-- The reader's answer is the grammar's: the one script, or the first place where no reading goes on.
use Rattle.std.proofs.Common.{◌≡◌, ◌⊎◌, inl, inr, ℕ, ◌+◌, ◌-◌, ◌<◌, max, Bool, true, false, cond, ltb, List, [], ◌∷◌, ◌++◌, length, refl, sym, ap, ◌∙◌, subst, ⊎_elim, arith, append_assoc, lt-ltb}
use Rattle.std.proofs.lemmas.Bool.{le-ltb}
use Rattle.kap_base.specs.declared.expr.Op.TheVariants.{Sub, Mul}
use Rattle.tick_lexer.specs.declared.token.Kind.{Kind}
use Rattle.tick_lexer.specs.declared.token.Kind.TheVariants.{Ident, Operator, Not, OpenParen, Var}
use Rattle.tick_lexer.specs.declared.token.Token.{Token}
use Rattle.tick_parser.specs.declared.fault.ParseFault.{ParseFault}
use Rattle.tick_parser.specs.declared.fault.ParseFault.TheVariants.{Expected, Deep, TooMany, NoMemory}
use Rattle.tick_parser.specs.Trees.{ValTree, LambdaVal, NoVals, NoJoints, StmtTree, VarStmt}
use Rattle.tick_parser.specs.Script.{depth_script, width_script, Reads, Within}
use Rattle.tick_parser.specs.Refusal.{Begins, Opens, IsWhole, IsOpening, IsStart, Fills, Ends, GoesOn, Stops, end_of, Lacks, Refused}
use Rattle.tick_parser.specs.Lambdas as lambdas
use Rattle.tick_parser.specs.Machine.{Chain, Call, Context, Variable, Argument, State, Between, VarRead, NameRead, DbRead, DotRead, ValueNext, MinusRead, ValueRead, InLambda, ChainRead, LinkRead, CallRead, ParenRead, Stopped, chain_value, chain_stmt, opens_context, opens, begin, settle, leave, follow, star, value, number, opening, opened, within, declare, assign, dotted, target, link, step, run, Answer, Got, Refuses, finish}
use Rattle.tick_parser.proofs.CompleteScript.{whole_run}
use Rattle.tick_parser.proofs.Viable.{IsGoing, HasRoom, viable}
use Rattle.tick_parser.proofs.Room.{IsFull, same_count, run_stopped, going_first}
use Rattle.tick_parser.proofs.Runs.{run-append}
use Rattle.tick_parser.proofs.Faults.{wanted, step_cause, finish_refuses, finish_got}
use Rattle.tick_parser.proofs.Wants.{state_of, stands, Here, here_stands, here_larger, here_next, begins, no_stop, no_script, needs}

-- a parenthesis or an operator begins no node and no property
begin_room : (d m : ℕ) (done : List StmtTree) (at : ℕ) (kind : Kind) → IsOpening kind → HasRoom d (begin m done at kind)
begin_room d m done at OpenParen k = tt
begin_room d m done at Not k = tt
begin_room d m done at (Operator op) k = tt
begin_room d m done at _ k = elim k [ ]

settle_room : (d m : ℕ) (done : List StmtTree) (stack : List Context) (context : Context) (v : ValTree) (at : ℕ) (kind : Kind) → IsOpening kind → HasRoom d (settle m done stack context v at kind)
settle_room d m done stack (Variable name place) v at kind k = begin_room d m (done ++ VarStmt name v place ∷ []) at kind k
settle_room d m done stack (Argument chain call args) v at OpenParen k = tt
settle_room d m done stack (Argument chain call args) v at Not k = tt
settle_room d m done stack (Argument chain call args) v at (Operator op) k = tt
settle_room d m done stack (Argument chain call args) v at _ k = elim k [ ]

leave_room : (d m : ℕ) (done : List StmtTree) (stack : List Context) (chain : Chain) (at : ℕ) (kind : Kind) → IsOpening kind → HasRoom d (leave m done stack chain at kind)
leave_room d m done [] chain at kind k = begin_room d m (done ++ chain_stmt chain ∷ []) at kind k
leave_room d m done (context ∷ stack) chain at kind k = settle_room d m done stack context (chain_value chain) at kind k

follow_room : (d m : ℕ) (done : List StmtTree) (stack : List Context) (chain : Chain) (at : ℕ) (kind : Kind) → IsOpening kind → HasRoom d (follow m done stack chain at kind)
follow_room d m done stack chain at OpenParen k = leave_room d m done stack chain at OpenParen tt
follow_room d m done stack chain at Not k = leave_room d m done stack chain at Not tt
follow_room d m done stack chain at (Operator op) k = leave_room d m done stack chain at (Operator op) tt
follow_room d m done stack chain at _ k = elim k [ ]

star_room : (d : ℕ) (done : List StmtTree) (stack : List Context) (context : Context) (at : ℕ) → HasRoom d (star done stack context at)
star_room d done stack (Variable name place) at = tt
star_room d done stack (Argument chain call args) at = tt

value_room : (d : ℕ) (done : List StmtTree) (stack : List Context) (context : Context) (at : ℕ) (kind : Kind) → IsOpening kind → HasRoom d (value done stack context at kind)
value_room d done stack context at OpenParen k = tt
value_room d done stack context at Not k = tt
value_room d done stack context at (Operator Sub) k = tt
value_room d done stack context at (Operator Mul) k = star_room d done stack context at
value_room d done stack context at (Operator op) k = tt
value_room d done stack context at _ k = elim k [ ]

within_room : (d m : ℕ) (done : List StmtTree) (stack : List Context) (context : Context) (place at : ℕ) (kind : Kind) (next : lambdas.State) → IsOpening kind → HasRoom d (within m done stack context place at kind next)
within_room d m done stack context place at kind (lambdas.Ended body) k = settle_room d m done stack context (LambdaVal body place) at kind k
within_room d m done stack context place at kind (lambdas.Stopped f) k = tt
within_room d m done stack context place at kind (lambdas.OperandNext st n) k = tt
within_room d m done stack context place at kind (lambdas.CallOpened st n) k = tt
within_room d m done stack context place at kind (lambdas.OperandRead st t n) k = tt

paren_room : (d : ℕ) (done : List StmtTree) (stack : List Context) (chain : Chain) (call : Call) (at : ℕ) (b : Bool) → HasRoom d (cond b (ParenRead done stack chain call) (Stopped (Deep at)))
paren_room d done stack chain call at true = tt
paren_room d done stack chain call at false = tt

opening_room : (d : ℕ) (done : List StmtTree) (stack : List Context) (chain : Chain) (call : Call) (at : ℕ) (kind : Kind) → IsOpening kind → HasRoom d (opening d done stack chain call at kind)
opening_room d done stack chain call at OpenParen k = paren_room d done stack chain call at (ltb (opens stack) d)
opening_room d done stack chain call at Not k = tt
opening_room d done stack chain call at (Operator op) k = tt
opening_room d done stack chain call at _ k = elim k [ ]

opened_room : (d : ℕ) (done : List StmtTree) (stack : List Context) (chain : Chain) (call : Call) (at : ℕ) (kind : Kind) → IsOpening kind → HasRoom d (opened done stack chain call at kind)
opened_room d done stack chain call at OpenParen k = tt
opened_room d done stack chain call at Not k = tt
opened_room d done stack chain call at (Operator op) k = value_room d done stack (Argument chain call NoVals) at (Operator op) tt
opened_room d done stack chain call at _ k = elim k [ ]

number_room : (d : ℕ) (done : List StmtTree) (stack : List Context) (context : Context) (place at : ℕ) (kind : Kind) → IsOpening kind → HasRoom d (number done stack context place at kind)
number_room d done stack context place at OpenParen k = tt
number_room d done stack context place at Not k = tt
number_room d done stack context place at (Operator op) k = tt
number_room d done stack context place at _ k = elim k [ ]

declare_room : (d : ℕ) (done : List StmtTree) (place at : ℕ) (kind : Kind) → IsOpening kind → HasRoom d (declare done place at kind)
declare_room d done place at OpenParen k = tt
declare_room d done place at Not k = tt
declare_room d done place at (Operator op) k = tt
declare_room d done place at _ k = elim k [ ]

assign_room : (d : ℕ) (done : List StmtTree) (name : List ℕ) (place at : ℕ) (kind : Kind) → IsOpening kind → HasRoom d (assign done name place at kind)
assign_room d done name place at OpenParen k = tt
assign_room d done name place at Not k = tt
assign_room d done name place at (Operator op) k = tt
assign_room d done name place at _ k = elim k [ ]

dotted_room : (d : ℕ) (done : List StmtTree) (db : List ℕ) (place at : ℕ) (kind : Kind) → IsOpening kind → HasRoom d (dotted done db place at kind)
dotted_room d done db place at OpenParen k = tt
dotted_room d done db place at Not k = tt
dotted_room d done db place at (Operator op) k = tt
dotted_room d done db place at _ k = elim k [ ]

target_room : (d : ℕ) (done : List StmtTree) (db : List ℕ) (place at : ℕ) (kind : Kind) → IsOpening kind → HasRoom d (target done db place at kind)
target_room d done db place at OpenParen k = tt
target_room d done db place at Not k = tt
target_room d done db place at (Operator op) k = tt
target_room d done db place at _ k = elim k [ ]

link_room : (d : ℕ) (done : List StmtTree) (stack : List Context) (chain : Chain) (node : Bool) (at : ℕ) (kind : Kind) → IsOpening kind → HasRoom d (link done stack chain node at kind)
link_room d done stack chain node at OpenParen k = tt
link_room d done stack chain node at Not k = tt
link_room d done stack chain node at (Operator op) k = tt
link_room d done stack chain node at _ k = elim k [ ]

room_after : (d w m : ℕ) (s : State) (token : Token) → IsOpening token.kind → HasRoom d (step d w m s token)
room_after d w m (Between done) token k = begin_room d m done token.start token.kind k
room_after d w m (VarRead done at) token k = declare_room d done at token.start token.kind k
room_after d w m (NameRead done name at) token k = assign_room d done name at token.start token.kind k
room_after d w m (DbRead done db at) token k = dotted_room d done db at token.start token.kind k
room_after d w m (DotRead done db at) token k = target_room d done db at token.start token.kind k
room_after d w m (ValueNext done stack context) token k = value_room d done stack context token.start token.kind k
room_after d w m (MinusRead done stack context at) token k = number_room d done stack context at token.start token.kind k
room_after d w m (ValueRead done stack context v) token k = settle_room d m done stack context v token.start token.kind k
room_after d w m (InLambda done stack context at inner) token k =
    within_room d m done stack context at token.start token.kind (lambdas.step (d - (opens stack + opens_context context)) w inner token) k
room_after d w m (ChainRead done stack chain) token k = follow_room d m done stack chain token.start token.kind k
room_after d w m (LinkRead done stack chain node) token k = link_room d done stack chain node token.start token.kind k
room_after d w m (CallRead done stack chain call) token k = opening_room d done stack chain call token.start token.kind k
room_after d w m (ParenRead done stack chain call) token k = opened_room d done stack chain call token.start token.kind k
room_after d w m (Stopped f) token k = tt

-- behind as many statements as there may be none begins
begin_full : (m : ℕ) (done : List StmtTree) (at : ℕ) (kind : Kind) → IsStart kind → length done ≡ m → begin m done at kind ≡ Stopped (TooMany at)
begin_full m done at Var k e = ap (λ (b : Bool). cond b (VarRead done at) (Stopped (TooMany at))) (le-ltb (length done) m (omega arith))
begin_full m done at (Ident name) k e =
    ap (λ (b : Bool). cond b (ChainRead done [] (record { head = name; links = NoJoints; at = at })) (Stopped (TooMany at))) (le-ltb (length done) m (omega arith))
begin_full m done at _ k e = elim k [ ]

begin_goes : (m : ℕ) (done : List StmtTree) (at : ℕ) (kind : Kind) → IsStart kind → length done < m → IsGoing (begin m done at kind)
begin_goes m done at Var k lt = subst (λ (b : Bool). IsGoing (cond b (VarRead done at) (Stopped (TooMany at)))) (sym (lt-ltb (length done) m lt)) tt
begin_goes m done at (Ident name) k lt =
    subst (λ (b : Bool). IsGoing (cond b (ChainRead done [] (record { head = name; links = NoJoints; at = at })) (Stopped (TooMany at)))) (sym (lt-ltb (length done) m lt)) tt
begin_goes m done at _ k lt = elim k [ ]

got_going : (s : State) (t : List StmtTree) → finish 0 s ≡ Got t → IsGoing s
got_going (Stopped f) t e = absurd (cc)
got_going _ t e = tt

fills_stop : (d w m : ℕ) (before : List Token) (token : Token) → IsStart token.kind → Fills m before → IsGoing (state_of d w m (before ++ token ∷ [])) → ⊥
fills_stop d w m before token k x g =
    let script = x.0 in
    let deep = max d (depth_script script) in
    let wide = max w (width_script script) in
    let fits : length script ≡ m = x.2 in
    let r = whole_run deep wide m before script x.1 (record { depth_fits = omega arith; width_fits = omega arith; count_fits = omega arith }) in
    let rests = r.rests in
    let here = here_larger d w m deep wide m (before ++ token ∷ []) (state_of d w m (before ++ token ∷ [])) (omega arith) (omega arith) (omega arith) (record { is = refl; going = g }) in
    let stop : state_of deep wide m (before ++ token ∷ []) ≡ Stopped (TooMany token.start) =
    run-append deep wide m before (token ∷ []) (Between [])
    ∙ ap (λ (u : State). step deep wide m u token) r.reached
    ∙ rests.starts token k
    ∙ begin_full m script token.start token.kind k fits in
    subst IsGoing (sym here.is ∙ stop) g

pub fills_begins : (m : ℕ) (before : List Token) (token : Token) → IsStart token.kind → Fills m before → Begins (before ++ token ∷ [])
fills_begins m before token k x =
    let script = x.0 in
    let deep = depth_script script in
    let wide = width_script script in
    let fits : length script ≡ m = x.2 in
    let r = whole_run deep wide (m + 1) before script x.1 (record { depth_fits = omega arith; width_fits = omega arith; count_fits = omega arith }) in
    let rests = r.rests in
    let going : IsGoing (begin (m + 1) script token.start token.kind) = begin_goes (m + 1) script token.start token.kind k (omega arith) in
    let next : state_of deep wide (m + 1) (before ++ token ∷ []) ≡ begin (m + 1) script token.start token.kind =
    run-append deep wide (m + 1) before (token ∷ []) (Between [])
    ∙ ap (λ (u : State). step deep wide (m + 1) u token) r.reached
    ∙ rests.starts token k in
    begins deep wide (m + 1) (before ++ token ∷ []) (begin (m + 1) script token.start token.kind) (record { is = next; going = going })

-- at a token with which the reader goes on the reading doesn't end
no_end : (d w m : ℕ) (before : List Token) (token : Token) (f : ParseFault) → IsGoing (state_of d w m (before ++ token ∷ [])) → Ends d w m before token f → ⊥
no_end d w m before token (Expected want at) g x =
    x.1 (begins d w m (before ++ token ∷ []) (state_of d w m (before ++ token ∷ [])) (record { is = refl; going = g }))
no_end d w m before token (Deep at) g x =
    let all = before ++ token ∷ [] in
    let next : state_of d w m all ≡ step d w m (state_of d w m before) token = run-append d w m before (token ∷ []) (Between []) in
    let room : HasRoom d (state_of d w m all) = subst (λ (s : State). HasRoom d s) (sym next) (room_after d w m (state_of d w m before) token x.1) in
    x.3 (viable d w m all (state_of d w m all) (stands d w m all) g room)
no_end d w m before token (TooMany at) g x = fills_stop d w m before token x.1 x.3 g
no_end d w m before token NoMemory g x = x

-- where the reader goes on, the reading does
pub goes_on : (d w m : ℕ) (tokens : List Token) → IsGoing (state_of d w m tokens) → GoesOn d w m tokens
goes_on d w m tokens g = (
  begins d w m tokens (state_of d w m tokens) (record { is = refl; going = g }),
  λ before after token fault joined ends.
      let parts : tokens ≡ (before ++ token ∷ []) ++ after = joined ∙ sym (append_assoc before (token ∷ []) after) in
      let through : state_of d w m tokens ≡ run d w m after (state_of d w m (before ++ token ∷ [])) =
      ap (λ (l : List Token). state_of d w m l) parts ∙ run-append d w m (before ++ token ∷ []) after (Between []) in
      no_end d w m before token fault (going_first d w m after (state_of d w m (before ++ token ∷ [])) (subst IsGoing through g)) ends,
)

-- only larger scripts go on where the reader stops for want of room
not_within : (d w m : ℕ) (before : List Token) (token : Token) (s : State) → Here d w m before s → step d w m s token ≡ Stopped (Deep token.start) → Opens d w (before ++ token ∷ []) → ⊥
not_within d w m before token s h e o =
    let many = max m (length o.script) in
    let deep = o.depth_fits in
    let wide = o.width_fits in
    let larger = here_larger d w m d w many before s (omega arith) (omega arith) (omega arith) h in
    let stop : step d w many s token ≡ Stopped (Deep token.start) =
    ⊎_elim (λ (q : step d w many s token ≡ step d w m s token). q ∙ e) (λ (q : IsFull (step d w m s token)). absurd (subst IsFull e q)) (same_count d w m many s token (omega arith)) in
    no_stop d w many (before ++ token ∷ []) o.more o.script (Deep token.start) o.reads (record { depth_fits = omega arith; width_fits = omega arith; count_fits = omega arith })
    (run-append d w many before (token ∷ []) (Between []) ∙ ap (λ (u : State). step d w many u token) larger.is ∙ stop)

-- why the reading ends where the reader stops
ends_at : (d w m : ℕ) (before : List Token) (token : Token) (s : State) (f : ParseFault) → Here d w m before s → step d w m s token ≡ Stopped f → Ends d w m before token f
ends_at d w m before token s f h e =
    ⊎_elim
    (λ (q : f ≡ Expected (wanted s) token.start).
    let stop : step d w m s token ≡ Stopped (Expected (wanted s) token.start) = e ∙ ap (λ (g : ParseFault). Stopped g) q in
    let ends : Ends d w m before token (Expected (wanted s) token.start) =
    (refl, no_script d w m before s token (wanted s) token.start h stop, needs d w m before s h) in
    subst (λ (g : ParseFault). Ends d w m before token g) (sym q) ends)
    (λ (q : ((f ≡ Deep token.start) × IsOpening token.kind × IsGoing (step (d + 1) (w + 1) m s token)) ⊎ ((f ≡ TooMany token.start) × IsStart token.kind × Fills m before)).
    ⊎_elim
    (λ (x : (f ≡ Deep token.start) × IsOpening token.kind × IsGoing (step (d + 1) (w + 1) m s token)).
    let stop : step d w m s token ≡ Stopped (Deep token.start) = e ∙ ap (λ (g : ParseFault). Stopped g) x.0 in
    let larger = here_larger d w m (d + 1) (w + 1) m before s (omega arith) (omega arith) (omega arith) h in
    let opens = begins (d + 1) (w + 1) m (before ++ token ∷ []) (step (d + 1) (w + 1) m s token) (here_next (d + 1) (w + 1) m before s token larger x.2) in
    let ends : Ends d w m before token (Deep token.start) = (refl, x.1, opens, not_within d w m before token s h stop) in
    subst (λ (g : ParseFault). Ends d w m before token g) (sym x.0) ends)
    (λ (x : (f ≡ TooMany token.start) × IsStart token.kind × Fills m before).
    let ends : Ends d w m before token (TooMany token.start) = (refl, x.1, fills_begins m before token x.1 x.2, x.2) in
    subst (λ (g : ParseFault). Ends d w m before token g) (sym x.0) ends)
    q)
    (step_cause d w m before s token f (here_stands d w m before s h) h.going e)

record Found (d w m : ℕ) (tokens : List Token) (s : State) (f : ParseFault) : Type 0 where
  pub before : List Token
  pub token : Token
  pub after : List Token
  pub joined : tokens ≡ before ++ token ∷ after
  pub going : IsGoing (run d w m before s)
  pub stop : step d w m (run d w m before s) token ≡ Stopped f

going_or : (s : State) → IsGoing s ⊎ ((f : ParseFault) × (s ≡ Stopped f))
going_or (Stopped f) = inr (f, refl)
going_or _ = inl tt

found : (d w m : ℕ) (tokens : List Token) (s : State) (f : ParseFault) → IsGoing s → run d w m tokens s ≡ Stopped f → Found d w m tokens s f
found d w m [] s f g e = absurd (subst IsGoing e g)
found d w m (t ∷ ts) s f g e =
    ⊎_elim
    (λ (q : IsGoing (step d w m s t)).
    let r = found d w m ts (step d w m s t) f q e in
    record { before = t ∷ r.before; token = r.token; after = r.after; joined = ap (λ (l : List Token). t ∷ l) r.joined; going = r.going; stop = r.stop })
    (λ (q : (x : ParseFault) × (step d w m s t ≡ Stopped x)).
    record {
      before = [];
      token = t;
      after = ts;
      joined = refl;
      going = g;
      stop = q.1 ∙ sym (ap (λ (u : State). run d w m ts u) q.1 ∙ run_stopped d w m ts q.0) ∙ e;
    })
    (going_or (step d w m s t))

stops : (d w m : ℕ) (tokens : List Token) (f : ParseFault) → state_of d w m tokens ≡ Stopped f → Stops d w m tokens f
stops d w m tokens f e =
    let r = found d w m tokens (Between []) f tt e in
    record {
      before = r.before;
      token = r.token;
      after = r.after;
      joined = r.joined;
      goes_on = goes_on d w m r.before r.going;
      ends = ends_at d w m r.before r.token (state_of d w m r.before) f (record { is = refl; going = r.going }) r.stop;
    }

-- a script of all the tokens is what the reader answers
pub answers_tree : (d w m at : ℕ) (tokens : List Token) (s : State) (t : List StmtTree) → Reads tokens t → Here d w m tokens s → finish at s ≡ Got t
answers_tree d w m at tokens s t r h =
    let deep = max d (depth_script t) in
    let wide = max w (width_script t) in
    let many = max m (length t) in
    let g = whole_run deep wide many tokens t r (record { depth_fits = omega arith; width_fits = omega arith; count_fits = omega arith }) in
    let larger = here_larger d w m deep wide many tokens s (omega arith) (omega arith) (omega arith) h in
    let rests = g.rests in
    ap (λ (u : State). finish at u) (sym larger.is ∙ g.reached) ∙ rests.ends at

-- what the reader answers is a script of the tokens
pub answered : (d w m at : ℕ) (tokens : List Token) (t : List StmtTree) → finish at (state_of d w m tokens) ≡ Got t → Reads tokens t × Within d w m t
answered d w m at tokens t e =
    let x = finish_got d w m at tokens (state_of d w m tokens) t (stands d w m tokens) e in
    let done = x.0 in
    (record { fits = done.fits; spelled = x.1 }, record { depth_fits = done.deep; width_fits = done.wide; count_fits = done.few })

-- what the reader refuses is refused by the grammar, at the first place where no reading goes on
refused_in : (d w m : ℕ) (tokens : List Token) (f : ParseFault) (s : State) → state_of d w m tokens ≡ s → IsGoing s ⊎ ((x : ParseFault) × (s ≡ Stopped x)) → finish (end_of tokens) s ≡ Refuses f → Refused d w m tokens f
refused_in d w m tokens f s is (inl g) e =
    let here : Here d w m tokens s = record { is = is; going = g } in
    let q = finish_refuses d w m (end_of tokens) tokens s f (here_stands d w m tokens s here) g e in
    let not_whole : IsWhole tokens → ⊥ =
    λ (x : IsWhole tokens). let a = answers_tree d w m (end_of tokens) tokens s x.0 x.1 here in cc in
    let lacks : Lacks d w m tokens (Expected (wanted s) (end_of tokens)) =
    (refl, goes_on d w m tokens (subst IsGoing (sym is) g), not_whole, needs d w m tokens s here) in
    inr (subst (λ (x : ParseFault). Lacks d w m tokens x) (sym q) lacks)
refused_in d w m tokens f s is (inr x) e =
    let stopped : s ≡ Stopped x.0 = x.1 in
    let refuses : finish (end_of tokens) s ≡ Refuses x.0 = ap (λ (u : State). finish (end_of tokens) u) stopped in
    let same : x.0 ≡ f = cc in
    inl (stops d w m tokens f (is ∙ stopped ∙ ap (λ (g : ParseFault). Stopped g) same))

pub refused : (d w m : ℕ) (tokens : List Token) (f : ParseFault) → finish (end_of tokens) (state_of d w m tokens) ≡ Refuses f → Refused d w m tokens f
refused d w m tokens f e = refused_in d w m tokens f (state_of d w m tokens) refl (going_or (state_of d w m tokens)) e

-- there is one script
pub one_tree : (tokens : List Token) (a b : List StmtTree) → Reads tokens a → Reads tokens b → a ≡ b
one_tree tokens a b r q =
    let d = depth_script a in
    let w = width_script a in
    let m = length a in
    let g = whole_run d w m tokens a r (record { depth_fits = omega arith; width_fits = omega arith; count_fits = omega arith }) in
    let rests = g.rests in
    let here : Here d w m tokens g.state = record { is = g.reached; going = got_going g.state a (rests.ends 0) } in
    let x = answers_tree d w m 0 tokens g.state a r here in
    let y = answers_tree d w m 0 tokens g.state b q here in
    cc

-- a script within the limits is not refused
whole_goes : (d w m : ℕ) (before after : List Token) (token : Token) (t : List StmtTree) → Reads (before ++ token ∷ after) t → Within d w m t → IsGoing (state_of d w m (before ++ token ∷ []))
whole_goes d w m before after token t r i =
    let g = whole_run d w m (before ++ token ∷ after) t r i in
    let rests = g.rests in
    let parts : before ++ token ∷ after ≡ (before ++ token ∷ []) ++ after = sym (append_assoc before (token ∷ []) after) in
    let through : g.state ≡ run d w m after (state_of d w m (before ++ token ∷ [])) =
    sym g.reached ∙ ap (λ (l : List Token). state_of d w m l) parts ∙ run-append d w m (before ++ token ∷ []) after (Between []) in
    going_first d w m after (state_of d w m (before ++ token ∷ [])) (subst IsGoing through (got_going g.state t (rests.ends 0)))

lacks_not : (d w m : ℕ) (tokens : List Token) (t : List StmtTree) (f : ParseFault) → Reads tokens t → Lacks d w m tokens f → ⊥
lacks_not d w m tokens t (Expected want at) r x = x.2 (t, r)
lacks_not d w m tokens t _ r x = x

pub not_both : (d w m : ℕ) (tokens : List Token) (t : List StmtTree) (f : ParseFault) → Reads tokens t → Within d w m t → Refused d w m tokens f → ⊥
not_both d w m tokens t f r i (inl x) =
    let here : Reads (x.before ++ x.token ∷ x.after) t = subst (λ (l : List Token). Reads l t) x.joined r in
    no_end d w m x.before x.token f (whole_goes d w m x.before x.after x.token t here i) x.ends
not_both d w m tokens t f r i (inr x) = lacks_not d w m tokens t f r x

-- tokens are those of a script within the limits, or refused
either_of : (d w m : ℕ) (tokens : List Token) (answer : Answer) → finish (end_of tokens) (state_of d w m tokens) ≡ answer → ((script : List StmtTree) × Reads tokens script × Within d w m script) ⊎ ((fault : ParseFault) × Refused d w m tokens fault)
either_of d w m tokens (Got script) e = let x = answered d w m (end_of tokens) tokens script e in inl (script, x.0, x.1)
either_of d w m tokens (Refuses fault) e = inr (fault, refused d w m tokens fault e)

pub either : (d w m : ℕ) (tokens : List Token) → ((script : List StmtTree) × Reads tokens script × Within d w m script) ⊎ ((fault : ParseFault) × Refused d w m tokens fault)
either d w m tokens = either_of d w m tokens (finish (end_of tokens) (state_of d w m tokens)) refl
