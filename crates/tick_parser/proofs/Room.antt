-- With more room a step is the same, but where room was lacking.
use Rattle.std.proofs.Common.{◌≡◌, ◌⊎◌, inl, inr, ℕ, ◌+◌, ◌-◌, ◌≤◌, Bool, true, false, cond, ltb, List, [], ◌∷◌, ◌++◌, length, refl, sym, ap, ◌∙◌, subst, ⊎_elim, arith}
use Rattle.tick_lexer.specs.declared.token.Kind.{Kind}
use Rattle.tick_lexer.specs.declared.token.Kind.TheVariants.{Ident, Reference, OpenParen, Var, Pipe, Dot}
use Rattle.tick_lexer.specs.declared.token.Token.{Token}
use Rattle.tick_parser.specs.declared.fault.ParseFault.{ParseFault}
use Rattle.tick_parser.specs.declared.fault.ParseFault.TheVariants.{Deep, TooMany}
use Rattle.tick_parser.specs.Trees.{ValTree, LambdaVal, NoJoints, StmtTree, VarStmt}
use Rattle.tick_parser.specs.Lambdas as lambdas
use Rattle.tick_parser.specs.Machine.{Chain, Call, Context, Variable, Argument, State, Between, VarRead, NameRead, DbRead, DotRead, ValueNext, MinusRead, ValueRead, InLambda, ChainRead, LinkRead, CallRead, ParenRead, Stopped, chain_value, chain_stmt, opens_context, opens, begin, settle, leave, is_dbrp, follow, opening, within, step, run}
use Rattle.tick_parser.proofs.LambdaFaults as faults
use Rattle.tick_parser.proofs.Viable.{IsGoing}

abbrev pub IsFull : State → Type 0
IsFull (Stopped (TooMany at)) = Unit {0}
IsFull _ = ⊥

abbrev pub IsDeep : State → Type 0
IsDeep (Stopped (Deep at)) = Unit {0}
IsDeep _ = ⊥

same_many : (b c : Bool) (s : State) (at : ℕ) → (b ≡ true → c ≡ true) → (cond c s (Stopped (TooMany at)) ≡ cond b s (Stopped (TooMany at))) ⊎ IsFull (cond b s (Stopped (TooMany at)))
same_many true c s at h = inl (ap (λ (x : Bool). cond x s (Stopped (TooMany at))) (h refl))
same_many false c s at h = inr tt

same_deep : (b c : Bool) (s : State) (at : ℕ) → (b ≡ true → c ≡ true) → (cond c s (Stopped (Deep at)) ≡ cond b s (Stopped (Deep at))) ⊎ IsDeep (cond b s (Stopped (Deep at)))
same_deep true c s at h = inl (ap (λ (x : Bool). cond x s (Stopped (Deep at))) (h refl))
same_deep false c s at h = inr tt

begin_count : (m n : ℕ) (done : List StmtTree) (at : ℕ) (kind : Kind) → m ≤ n → (begin n done at kind ≡ begin m done at kind) ⊎ IsFull (begin m done at kind)
begin_count m n done at Var le = same_many (ltb (length done) m) (ltb (length done) n) (VarRead done at) at (faults.more_test (length done) m n le)
begin_count m n done at (Ident name) le = same_many (ltb (length done) m) (ltb (length done) n) (ChainRead done [] (record { head = name; links = NoJoints; at = at })) at (faults.more_test (length done) m n le)
begin_count m n done at _ le = inl refl

settle_count : (m n : ℕ) (done : List StmtTree) (stack : List Context) (context : Context) (v : ValTree) (at : ℕ) (kind : Kind) → m ≤ n → (settle n done stack context v at kind ≡ settle m done stack context v at kind) ⊎ IsFull (settle m done stack context v at kind)
settle_count m n done stack (Variable name place) v at kind le = begin_count m n (done ++ VarStmt name v place ∷ []) at kind le
settle_count m n done stack (Argument chain call args) v at kind le = inl refl

leave_count : (m n : ℕ) (done : List StmtTree) (stack : List Context) (chain : Chain) (at : ℕ) (kind : Kind) → m ≤ n → (leave n done stack chain at kind ≡ leave m done stack chain at kind) ⊎ IsFull (leave m done stack chain at kind)
leave_count m n done [] chain at kind le = begin_count m n (done ++ chain_stmt chain ∷ []) at kind le
leave_count m n done (context ∷ stack) chain at kind le = settle_count m n done stack context (chain_value chain) at kind le

or_same : (b : Bool) (s t u : State) → (u ≡ t) ⊎ IsFull t → (cond b s u ≡ cond b s t) ⊎ IsFull (cond b s t)
or_same true s t u h = inl refl
or_same false s t u h = h

follow_count : (m n : ℕ) (done : List StmtTree) (stack : List Context) (chain : Chain) (at : ℕ) (kind : Kind) → m ≤ n → (follow n done stack chain at kind ≡ follow m done stack chain at kind) ⊎ IsFull (follow m done stack chain at kind)
follow_count m n done stack chain at Pipe le = inl refl
follow_count m n done stack chain at Dot le = inl refl
follow_count m n done stack chain at (Reference db) le =
    or_same (is_dbrp stack chain) (DbRead done db chain.at) (leave m done stack chain at (Reference db)) (leave n done stack chain at (Reference db)) (leave_count m n done stack chain at (Reference db) le)
follow_count m n done stack chain at kind le = leave_count m n done stack chain at kind le

within_count : (m n : ℕ) (done : List StmtTree) (stack : List Context) (context : Context) (place at : ℕ) (kind : Kind) (s : lambdas.State) → m ≤ n → (within n done stack context place at kind s ≡ within m done stack context place at kind s) ⊎ IsFull (within m done stack context place at kind s)
within_count m n done stack context place at kind (lambdas.Ended body) le = settle_count m n done stack context (LambdaVal body place) at kind le
within_count m n done stack context place at kind (lambdas.Stopped f) le = inl refl
within_count m n done stack context place at kind (lambdas.OperandNext st k) le = inl refl
within_count m n done stack context place at kind (lambdas.CallOpened st k) le = inl refl
within_count m n done stack context place at kind (lambdas.OperandRead st t k) le = inl refl

-- with room for more statements
pub same_count : (d w m n : ℕ) (s : State) (token : Token) → m ≤ n → (step d w n s token ≡ step d w m s token) ⊎ IsFull (step d w m s token)
same_count d w m n (Between done) token le = begin_count m n done token.start token.kind le
same_count d w m n (ValueRead done stack context v) token le = settle_count m n done stack context v token.start token.kind le
same_count d w m n (InLambda done stack context at inner) token le =
    within_count m n done stack context at token.start token.kind (lambdas.step (d - (opens stack + opens_context context)) w inner token) le
same_count d w m n (ChainRead done stack chain) token le = follow_count m n done stack chain token.start token.kind le
same_count d w m n (VarRead done at) token le = inl refl
same_count d w m n (NameRead done name at) token le = inl refl
same_count d w m n (DbRead done db at) token le = inl refl
same_count d w m n (DotRead done db at) token le = inl refl
same_count d w m n (ValueNext done stack context) token le = inl refl
same_count d w m n (MinusRead done stack context at) token le = inl refl
same_count d w m n (LinkRead done stack chain node) token le = inl refl
same_count d w m n (CallRead done stack chain call) token le = inl refl
same_count d w m n (ParenRead done stack chain call) token le = inl refl
same_count d w m n (Stopped f) token le = inl refl

opening_room : (d e : ℕ) (done : List StmtTree) (stack : List Context) (chain : Chain) (call : Call) (at : ℕ) (kind : Kind) → d ≤ e → (opening e done stack chain call at kind ≡ opening d done stack chain call at kind) ⊎ IsDeep (opening d done stack chain call at kind)
opening_room d e done stack chain call at OpenParen le = same_deep (ltb (opens stack) d) (ltb (opens stack) e) (ParenRead done stack chain call) at (faults.more_test (opens stack) d e le)
opening_room d e done stack chain call at _ le = inl refl

lambda_room : (d w e x m : ℕ) (done : List StmtTree) (stack : List Context) (context : Context) (place : ℕ) (inner : lambdas.State) (token : Token) → d ≤ e → w ≤ x → (within m done stack context place token.start token.kind (lambdas.step e x inner token) ≡ within m done stack context place token.start token.kind (lambdas.step d w inner token)) ⊎ IsDeep (within m done stack context place token.start token.kind (lambdas.step d w inner token))
lambda_room d w e x m done stack context place inner token le le2 =
    let make : lambdas.State → State = λ (s : lambdas.State). within m done stack context place token.start token.kind s in
    ⊎_elim
    (λ (q : lambdas.step e x inner token ≡ lambdas.step d w inner token). inl (ap make q))
    (λ (q : (at : ℕ) × (lambdas.step d w inner token ≡ lambdas.Stopped (Deep at))). inr (subst (λ (s : lambdas.State). IsDeep (make s)) (sym q.1) tt))
    (faults.same_step d w e x inner token le le2)

-- with room for more open parentheses and operators
pub same_room : (d w e x m : ℕ) (s : State) (token : Token) → d ≤ e → w ≤ x → (step e x m s token ≡ step d w m s token) ⊎ IsDeep (step d w m s token)
same_room d w e x m (CallRead done stack chain call) token le le2 = opening_room d e done stack chain call token.start token.kind le
same_room d w e x m (InLambda done stack context at inner) token le le2 =
    lambda_room (d - (opens stack + opens_context context)) w (e - (opens stack + opens_context context)) x m done stack context at inner token (omega arith) le2
same_room d w e x m (Between done) token le le2 = inl refl
same_room d w e x m (VarRead done at) token le le2 = inl refl
same_room d w e x m (NameRead done name at) token le le2 = inl refl
same_room d w e x m (DbRead done db at) token le le2 = inl refl
same_room d w e x m (DotRead done db at) token le le2 = inl refl
same_room d w e x m (ValueNext done stack context) token le le2 = inl refl
same_room d w e x m (MinusRead done stack context at) token le le2 = inl refl
same_room d w e x m (ValueRead done stack context v) token le le2 = inl refl
same_room d w e x m (ChainRead done stack chain) token le le2 = inl refl
same_room d w e x m (LinkRead done stack chain node) token le le2 = inl refl
same_room d w e x m (ParenRead done stack chain call) token le le2 = inl refl
same_room d w e x m (Stopped f) token le le2 = inl refl

not_full : (s : State) → IsGoing s → IsFull s → ⊥
not_full (Stopped f) g h = g
not_full (Between done) g h = h
not_full (VarRead done at) g h = h
not_full (NameRead done name at) g h = h
not_full (DbRead done db at) g h = h
not_full (DotRead done db at) g h = h
not_full (ValueNext done stack context) g h = h
not_full (MinusRead done stack context at) g h = h
not_full (ValueRead done stack context v) g h = h
not_full (InLambda done stack context at inner) g h = h
not_full (ChainRead done stack chain) g h = h
not_full (LinkRead done stack chain node) g h = h
not_full (CallRead done stack chain call) g h = h
not_full (ParenRead done stack chain call) g h = h

not_deep : (s : State) → IsGoing s → IsDeep s → ⊥
not_deep (Stopped f) g h = g
not_deep (Between done) g h = h
not_deep (VarRead done at) g h = h
not_deep (NameRead done name at) g h = h
not_deep (DbRead done db at) g h = h
not_deep (DotRead done db at) g h = h
not_deep (ValueNext done stack context) g h = h
not_deep (MinusRead done stack context at) g h = h
not_deep (ValueRead done stack context v) g h = h
not_deep (InLambda done stack context at inner) g h = h
not_deep (ChainRead done stack chain) g h = h
not_deep (LinkRead done stack chain node) g h = h
not_deep (CallRead done stack chain call) g h = h
not_deep (ParenRead done stack chain call) g h = h

-- a step that goes on is the same with more room of each kind
pub same_going : (d w m e x n : ℕ) (s : State) (token : Token) → d ≤ e → w ≤ x → m ≤ n → IsGoing (step d w m s token) → step e x n s token ≡ step d w m s token
same_going d w m e x n s token le le2 le3 g =
    let room : step e x m s token ≡ step d w m s token =
    ⊎_elim (λ (q : step e x m s token ≡ step d w m s token). q) (λ (q : IsDeep (step d w m s token)). absurd (not_deep (step d w m s token) g q)) (same_room d w e x m s token le le2) in
    let count : step e x n s token ≡ step e x m s token =
    ⊎_elim (λ (q : step e x n s token ≡ step e x m s token). q)
    (λ (q : IsFull (step e x m s token)). absurd (not_full (step d w m s token) g (subst IsFull room q)))
    (same_count e x m n s token le3) in
    count ∙ room

pub run_stopped : (d w m : ℕ) (tokens : List Token) (f : ParseFault) → run d w m tokens (Stopped f) ≡ Stopped f
run_stopped d w m [] f = refl
run_stopped d w m (t ∷ ts) f = run_stopped d w m ts f

-- what a run that goes on has gone through
pub going_first : (d w m : ℕ) (tokens : List Token) (s : State) → IsGoing (run d w m tokens s) → IsGoing s
going_first d w m tokens (Stopped f) g = subst IsGoing (run_stopped d w m tokens f) g
going_first d w m tokens _ g = tt

pub same_run : (d w m e x n : ℕ) (tokens : List Token) (s : State) → d ≤ e → w ≤ x → m ≤ n → IsGoing (run d w m tokens s) → run e x n tokens s ≡ run d w m tokens s
same_run d w m e x n [] s le le2 le3 g = refl
same_run d w m e x n (t ∷ ts) s le le2 le3 g =
    ap (λ (u : State). run e x n ts u) (same_going d w m e x n s t le le2 le3 (going_first d w m ts (step d w m s t) g))
    ∙ same_run d w m e x n ts (step d w m s t) le le2 le3 g
