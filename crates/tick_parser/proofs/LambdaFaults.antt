-- What the reader of lambdas has read goes on to a lambda, and why it stops.
use Rattle.std.proofs.Common.{◌≡◌, ◌⊎◌, inl, inr, ℕ, ◌+◌, ◌<◌, ◌≤◌, Bool, true, false, cond, ltb, List, [], ◌∷◌, ◌++◌, refl, sym, ap, ◌∙◌, subst, ⊎_elim, arith, append_assoc, ltb-true, lt-ltb}
use Rattle.std.proofs.lemmas.List.{append-nil}
use Rattle.kap_base.specs.declared.expr.Op.TheVariants.{Sub}
use Rattle.kap_base.specs.Tree.{Tree, NameTree, CallTree, GroupTree, NegTree, NotTree, BinTree, NoTrees, MoreTrees, reversed_onto}
use Rattle.tick_lexer.specs.declared.token.Kind.{Kind}
use Rattle.tick_lexer.specs.declared.token.Kind.TheVariants.{Ident, Literal, Reference, Operator, Not, OpenParen, CloseParen, Comma}
use Rattle.tick_lexer.specs.declared.token.Token.{Token}
use Rattle.tick_parser.specs.declared.fault.Want.{Want}
use Rattle.tick_parser.specs.declared.fault.Want.TheVariants.{Operand, Close as WantClose}
use Rattle.tick_parser.specs.declared.fault.ParseFault.{ParseFault}
use Rattle.tick_parser.specs.declared.fault.ParseFault.TheVariants.{Expected, Deep}
use Rattle.tick_parser.specs.Grammar.{level, Fits, Mark, At, Free, spell, Agree, depth, binaries}
use Rattle.tick_parser.specs.Lambdas.{Frame, Minus, Negation, Left, Paren, Args, State, OperandNext, CallOpened, OperandRead, Ended, Stopped, opens, reduce, operand, calling, leave, close_top, next_top, close_empty, after, opened, step, run, Got, done_at, finish}
use Rattle.tick_parser.proofs.Agreeing.{snoc}
use Rattle.tick_parser.proofs.LambdaSound.{spell_stack, spell_done, count_stack, Over, over_minus, over_negation, over_left, fits_less, below_six, all_fit, depth_reversed, binaries_reversed, args_spelled, spell_unary, spell_left, reduced, Reduced, Ready, Carries, Stands, IsCall, operand_stands}

-- these tokens are a lambda's within the limits
pub record Whole (d w : ℕ) (tokens : List Token) (tree : Tree) : Type 0 where
  pub fits : Fits 0 tree
  pub spelled : Agree tokens (spell tree)
  pub room : depth tree ≤ d
  pub few : binaries tree ≤ w

-- a lambda within the limits begins with these tokens
pub record Reading (d w : ℕ) (tokens : List Token) : Type 0 where
  pub more : List Token
  pub tree : Tree
  pub whole : Whole d w (tokens ++ more) tree

abbrev close_all : List Frame → List Token
close_all [] = []
close_all (Minus at ∷ stack) = close_all stack
close_all (Negation at ∷ stack) = close_all stack
close_all (Left op left at ∷ stack) = close_all stack
close_all (Paren at ∷ stack) = record { kind = CloseParen; start = 0; «end» = 0 } ∷ close_all stack
close_all (Args name done at ∷ stack) = record { kind = CloseParen; start = 0; «end» = 0 } ∷ close_all stack

abbrev plug : List Frame → Tree → Tree
plug [] t = t
plug (Minus at ∷ stack) t = plug stack (NegTree t at)
plug (Negation at ∷ stack) t = plug stack (NotTree t at)
plug (Left op left at ∷ stack) t = plug stack (BinTree op left t at)
plug (Paren at ∷ stack) t = plug stack (GroupTree t at)
plug (Args name done at ∷ stack) t = plug stack (CallTree name (reversed_onto (MoreTrees t done) NoTrees) at)

record Plugged (d : ℕ) (stack : List Frame) (t : Tree) : Type 0 where
  pub fits : Fits 0 (plug stack t)
  pub room : depth (plug stack t) ≤ d
  pub counted : binaries (plug stack t) ≡ count_stack stack + binaries t
  pub spelled : (tokens : List Token) → Agree tokens (spell_stack stack ++ spell t) → Agree (tokens ++ close_all stack) (spell (plug stack t))

move : (tokens : List Token) (a b : List Mark) → a ≡ b → Agree tokens a → Agree tokens b
move tokens a b e h = subst (λ (l : List Mark). Agree tokens l) e h

regroup : (tokens : List Token) (token : Token) (more : List Token) (a : List Mark) → Agree ((tokens ++ token ∷ []) ++ more) a → Agree (tokens ++ token ∷ more) a
regroup tokens token more a h = subst (λ (l : List Token). Agree l a) (append_assoc tokens (token ∷ []) more) h

plugged : (stack : List Frame) (d n : ℕ) (t : Tree) → Over d n stack t → Plugged d stack t
plugged [] d n t o = record {
  fits = fits_less t 0 n (omega arith) o.fits;
  room = let r = o.room in omega arith;
  counted = omega arith;
  spelled = λ tokens h. subst (λ (l : List Token). Agree l (spell t)) (sym (append-nil tokens)) h;
}
plugged (Minus at ∷ stack) d n t o =
    let p = plugged stack d 6 (NegTree t at) (over_minus d n at stack t o) in
    record { fits = p.fits; room = p.room; counted = p.counted; spelled = λ tokens h. p.spelled tokens (move tokens _ _ (sym (spell_unary (spell_stack stack) (At (Operator Sub) at) (spell t))) h) }
plugged (Negation at ∷ stack) d n t o =
    let p = plugged stack d 6 (NotTree t at) (over_negation d n at stack t o) in
    record { fits = p.fits; room = p.room; counted = p.counted; spelled = λ tokens h. p.spelled tokens (move tokens _ _ (sym (spell_unary (spell_stack stack) (At Not at) (spell t))) h) }
plugged (Left op left at ∷ stack) d n t o =
    let p = plugged stack d (level op) (BinTree op left t at) (over_left d n op left at stack t o) in
    record { fits = p.fits; room = p.room; counted = let c = p.counted in omega arith; spelled = λ tokens h. p.spelled tokens (move tokens _ _ (sym (spell_left (spell_stack stack) (spell left) (At (Operator op) at) (spell t))) h) }
plugged (Paren at ∷ stack) d n t o =
    let over : Over d 6 stack (GroupTree t at) = record { good = o.good; fits = fits_less t 0 n (omega arith) o.fits; below = below_six stack; top = omega arith; room = let r = o.room in omega arith } in
    let p = plugged stack d 6 (GroupTree t at) over in
    record {
      fits = p.fits;
      room = p.room;
      counted = p.counted;
      spelled = λ tokens h. regroup tokens (record { kind = CloseParen; start = 0; «end» = 0 }) (close_all stack) (spell (plug stack (GroupTree t at))) (p.spelled (tokens ++ (record { kind = CloseParen; start = 0; «end» = 0 }) ∷ [])
          (snoc (spell_stack (Paren at ∷ stack) ++ spell t) (spell_stack stack ++ spell (GroupTree t at)) (Free CloseParen) tokens (record { kind = CloseParen; start = 0; «end» = 0 }) h refl (simp append_assoc)));
    }
plugged (Args name done at ∷ stack) d n t o =
    let g = o.good in
    let args = reversed_onto (MoreTrees t done) NoTrees in
    let depths = depth_reversed (MoreTrees t done) NoTrees in
    let counts = binaries_reversed (MoreTrees t done) NoTrees in
    let over : Over d 6 stack (CallTree name args at) = record { good = g.2; fits = all_fit (MoreTrees t done) NoTrees (fits_less t 0 n (omega arith) o.fits, g.0) tt; below = below_six stack; top = omega arith; room = let r = o.room in let m = g.1 in omega arith } in
    let p = plugged stack d 6 (CallTree name args at) over in
    let flat : ((spell_stack stack ++ (At (Ident name) at ∷ Free OpenParen ∷ spell_done done)) ++ spell t) ++ Free CloseParen ∷ [] ≡ spell_stack stack ++ (At (Ident name) at ∷ Free OpenParen ∷ (spell_done done ++ (spell t ++ Free CloseParen ∷ []))) = simp append_assoc in
    let whole : spell_stack stack ++ (At (Ident name) at ∷ Free OpenParen ∷ (spell_done done ++ (spell t ++ Free CloseParen ∷ []))) ≡ spell_stack stack ++ spell (CallTree name args at) =
    ap (λ (l : List Mark). spell_stack stack ++ (At (Ident name) at ∷ Free OpenParen ∷ l)) (sym (args_spelled done t NoTrees)) in
    record {
      fits = p.fits;
      room = p.room;
      counted = let c = p.counted in omega arith;
      spelled = λ tokens h. regroup tokens (record { kind = CloseParen; start = 0; «end» = 0 }) (close_all stack) (spell (plug stack (CallTree name args at))) (p.spelled (tokens ++ (record { kind = CloseParen; start = 0; «end» = 0 }) ∷ [])
          (snoc (spell_stack (Args name done at ∷ stack) ++ spell t) (spell_stack stack ++ spell (CallTree name args at)) (Free CloseParen) tokens (record { kind = CloseParen; start = 0; «end» = 0 }) h refl (flat ∙ whole)));
    }

abbrev pub IsGoing : State → Type 0
IsGoing (Ended tree) = ⊥
IsGoing (Stopped fault) = ⊥
IsGoing _ = Unit {0}

pub run_ended : (d w : ℕ) (tokens : List Token) (t : Tree) → run d w tokens (Ended t) ≡ Ended t
run_ended d w [] t = refl
run_ended d w (x ∷ tokens) t = run_ended d w tokens t

carried : (d w : ℕ) (tokens : List Token) (stack : List Frame) (t : Tree) (n : ℕ) → Carries d w tokens stack t n → Reading d w tokens
carried d w tokens stack t n c =
    let p = plugged stack d 6 t c.over in
    record {
      more = close_all stack;
      tree = plug stack t;
      whole = record { fits = p.fits; spelled = p.spelled tokens c.spelled; room = p.room; few = let a = p.counted in let b = c.counted in let f = c.few in omega arith };
    }

reading_before : (d w : ℕ) (a b : List Token) → Reading d w (a ++ b) → Reading d w a
reading_before d w a b o =
    let r = o.whole in
    record { more = b ++ o.more; tree = o.tree; whole = record { fits = r.fits; spelled = subst (λ (l : List Token). Agree l (spell o.tree)) (append_assoc a b o.more) r.spelled; room = r.room; few = r.few } }

named : (d w : ℕ) (tokens : List Token) (stack : List Frame) (n : ℕ) → Ready d w tokens stack n → Reading d w tokens
named d w tokens stack n r =
    let token : Token = record { kind = Ident []; start = 0; «end» = 0 } in
    reading_before d w tokens (token ∷ []) (carried d w (tokens ++ token ∷ []) stack (NameTree [] 0) n (operand_stands d w tokens stack n token (Ident []) r refl))

-- what is read goes on to a lambda
pub viable : (d w : ℕ) (tokens : List Token) (s : State) → Stands d w tokens s → IsGoing s → Reading d w tokens
viable d w tokens (OperandNext stack n) h g = named d w tokens stack n h
viable d w tokens (CallOpened stack n) h g = named d w tokens stack n h.0
viable d w tokens (OperandRead stack t n) h g = carried d w tokens stack t n h
viable d w tokens (Ended t) h g = elim g [ ]
viable d w tokens (Stopped f) h g = elim g [ ]

pub same_test : (b c : Bool) (s : State) (at : ℕ) → (b ≡ true → c ≡ true) → (cond c s (Stopped (Deep at)) ≡ cond b s (Stopped (Deep at))) ⊎ ((place : ℕ) × (cond b s (Stopped (Deep at)) ≡ Stopped (Deep place)))
same_test true c s at h = inl (ap (λ (x : Bool). cond x s (Stopped (Deep at))) (h refl))
same_test false c s at h = inr (at, refl)

pub more_test : (n d e : ℕ) → d ≤ e → ltb n d ≡ true → ltb n e ≡ true
more_test n d e le h = let k = ltb-true n d h in lt-ltb n e (omega arith)

same_operand : (d e : ℕ) (stack : List Frame) (n at : ℕ) (kind : Kind) → d ≤ e → (operand e stack n at kind ≡ operand d stack n at kind) ⊎ ((place : ℕ) × (operand d stack n at kind ≡ Stopped (Deep place)))
same_operand d e stack n at OpenParen le = same_test (ltb (opens stack) d) (ltb (opens stack) e) (OperandNext (Paren at ∷ stack) n) at (more_test (opens stack) d e le)
same_operand d e stack n at (Operator Sub) le = same_test (ltb (opens stack) d) (ltb (opens stack) e) (OperandNext (Minus at ∷ stack) n) at (more_test (opens stack) d e le)
same_operand d e stack n at Not le = same_test (ltb (opens stack) d) (ltb (opens stack) e) (OperandNext (Negation at ∷ stack) n) at (more_test (opens stack) d e le)
same_operand d e stack n at _ le = inl refl

same_opened : (d e : ℕ) (stack : List Frame) (n at : ℕ) (kind : Kind) → d ≤ e → (opened e stack n at kind ≡ opened d stack n at kind) ⊎ ((place : ℕ) × (opened d stack n at kind ≡ Stopped (Deep place)))
same_opened d e stack n at CloseParen le = inl refl
same_opened d e stack n at kind le = same_operand d e stack n at kind le

same_calling : (d e : ℕ) (stack : List Frame) (n at : ℕ) (t : Tree) → d ≤ e → (calling e stack n at t ≡ calling d stack n at t) ⊎ ((place : ℕ) × (calling d stack n at t ≡ Stopped (Deep place)))
same_calling d e stack n at (NameTree name place) le = same_test (ltb (opens stack) d) (ltb (opens stack) e) (CallOpened (Args name NoTrees place ∷ stack) n) at (more_test (opens stack) d e le)
same_calling d e stack n at _ le = inl refl

same_after : (d w e x : ℕ) (stack : List Frame) (t : Tree) (n at : ℕ) (kind : Kind) → d ≤ e → w ≤ x → (after e x stack t n at kind ≡ after d w stack t n at kind) ⊎ ((place : ℕ) × (after d w stack t n at kind ≡ Stopped (Deep place)))
same_after d w e x stack t n at OpenParen le le2 = same_calling d e stack n at t le
same_after d w e x stack t n at (Operator op) le le2 =
    let h = reduce (level op) stack t in
    same_test (ltb n w) (ltb n x) (OperandNext (Left op h.tree at ∷ h.stack) (n + 1)) at (more_test n w x le2)
same_after d w e x stack t n at _ le le2 = inl refl

-- with more room a step is the same, but where room was lacking
pub same_step : (d w e x : ℕ) (s : State) (token : Token) → d ≤ e → w ≤ x → (step e x s token ≡ step d w s token) ⊎ ((place : ℕ) × (step d w s token ≡ Stopped (Deep place)))
same_step d w e x (OperandNext stack n) token le le2 = same_operand d e stack n token.start token.kind le
same_step d w e x (CallOpened stack n) token le le2 = same_opened d e stack n token.start token.kind le
same_step d w e x (OperandRead stack t n) token le le2 = same_after d w e x stack t n token.start token.kind le le2
same_step d w e x (Ended t) token le le2 = inl refl
same_step d w e x (Stopped f) token le le2 = inl refl

goes_test : (n d : ℕ) (s : State) (f : ParseFault) → n < d → IsGoing s → IsGoing (cond (ltb n d) s (Stopped f))
goes_test n d s f lt g = subst (λ (b : Bool). IsGoing (cond b s (Stopped f))) (sym (lt-ltb n d lt)) g

going_not : (s : State) (f : ParseFault) → IsGoing s → s ≡ Stopped f → ⊥
going_not s f g e = subst IsGoing e g

test_fault : (b : Bool) (s : State) (at : ℕ) (f : ParseFault) → IsGoing s → cond b s (Stopped (Deep at)) ≡ Stopped f → f ≡ Deep at
test_fault true s at f g e = absurd (going_not s f g e)
test_fault false s at f g e = cc

-- an operand is missing, or there is no room
operand_fault : (d : ℕ) (stack : List Frame) (n at : ℕ) (kind : Kind) (f : ParseFault) → operand d stack n at kind ≡ Stopped f → (f ≡ Expected Operand at) ⊎ (f ≡ Deep at)
operand_fault d stack n at OpenParen f e = inr (test_fault (ltb (opens stack) d) (OperandNext (Paren at ∷ stack) n) at f tt e)
operand_fault d stack n at (Operator Sub) f e = inr (test_fault (ltb (opens stack) d) (OperandNext (Minus at ∷ stack) n) at f tt e)
operand_fault d stack n at Not f e = inr (test_fault (ltb (opens stack) d) (OperandNext (Negation at ∷ stack) n) at f tt e)
operand_fault d stack n at (Ident name) f e = absurd (cc)
operand_fault d stack n at (Literal lit) f e = absurd (cc)
operand_fault d stack n at (Reference name) f e = absurd (cc)
operand_fault d stack n at _ f e = inl (cc)

close_empty_fault : (stack : List Frame) (n at : ℕ) (f : ParseFault) → IsCall stack → close_empty stack n at ≡ Stopped f → ⊥
close_empty_fault (Args name NoTrees at2 ∷ stack) n at f c e = cc
close_empty_fault _ n at f c e = elim c [ ]

opened_fault : (d : ℕ) (stack : List Frame) (n at : ℕ) (kind : Kind) (f : ParseFault) → IsCall stack → opened d stack n at kind ≡ Stopped f → (f ≡ Expected Operand at) ⊎ (f ≡ Deep at)
opened_fault d stack n at CloseParen f c e = absurd (close_empty_fault stack n at f c e)
opened_fault d stack n at kind f c e = operand_fault d stack n at kind f e

pub leave_fault : (s : List Frame) (t : Tree) (at : ℕ) (f : ParseFault) → leave s t at ≡ Stopped f → f ≡ Expected WantClose at
leave_fault [] t at f e = absurd (cc)
leave_fault (frame ∷ s) t at f e = cc

calling_fault : (d : ℕ) (stack : List Frame) (n at : ℕ) (t : Tree) (f : ParseFault) → calling d stack n at t ≡ Stopped f → (f ≡ Expected WantClose at) ⊎ (f ≡ Deep at)
calling_fault d stack n at (NameTree name place) f e = inr (test_fault (ltb (opens stack) d) (CallOpened (Args name NoTrees place ∷ stack) n) at f tt e)
calling_fault d stack n at t f e = let h = reduce 0 stack t in inl (leave_fault h.stack h.tree at f e)

pub close_top_fault : (stack : List Frame) (t : Tree) (n at : ℕ) (f : ParseFault) → close_top stack t n at ≡ Stopped f → f ≡ Expected WantClose at
close_top_fault [] t n at f e = absurd (cc)
close_top_fault (Paren place ∷ stack) t n at f e = absurd (cc)
close_top_fault (Args name done place ∷ stack) t n at f e = absurd (cc)
close_top_fault _ t n at f e = cc

pub next_top_fault : (stack : List Frame) (t : Tree) (n at : ℕ) (f : ParseFault) → next_top stack t n at ≡ Stopped f → f ≡ Expected WantClose at
next_top_fault [] t n at f e = absurd (cc)
next_top_fault (Args name done place ∷ stack) t n at f e = absurd (cc)
next_top_fault _ t n at f e = cc

after_fault : (d w : ℕ) (stack : List Frame) (t : Tree) (n at : ℕ) (kind : Kind) (f : ParseFault) → after d w stack t n at kind ≡ Stopped f → (f ≡ Expected WantClose at) ⊎ (f ≡ Deep at)
after_fault d w stack t n at OpenParen f e = calling_fault d stack n at t f e
after_fault d w stack t n at (Operator op) f e =
    let h = reduce (level op) stack t in
    inr (test_fault (ltb n w) (OperandNext (Left op h.tree at ∷ h.stack) (n + 1)) at f tt e)
after_fault d w stack t n at CloseParen f e = let h = reduce 0 stack t in inl (close_top_fault h.stack h.tree n at f e)
after_fault d w stack t n at Comma f e = let h = reduce 0 stack t in inl (next_top_fault h.stack h.tree n at f e)
after_fault d w stack t n at _ f e = let h = reduce 0 stack t in inl (leave_fault h.stack h.tree at f e)

-- what is too deep goes on where one more is allowed
operand_goes : (d : ℕ) (stack : List Frame) (n at : ℕ) (kind : Kind) → opens stack ≤ d → operand d stack n at kind ≡ Stopped (Deep at) → IsGoing (operand (d + 1) stack n at kind)
operand_goes d stack n at OpenParen le e = goes_test (opens stack) (d + 1) (OperandNext (Paren at ∷ stack) n) (Deep at) (omega arith) tt
operand_goes d stack n at (Operator Sub) le e = goes_test (opens stack) (d + 1) (OperandNext (Minus at ∷ stack) n) (Deep at) (omega arith) tt
operand_goes d stack n at Not le e = goes_test (opens stack) (d + 1) (OperandNext (Negation at ∷ stack) n) (Deep at) (omega arith) tt
operand_goes d stack n at _ le e = absurd (cc)

opened_goes : (d : ℕ) (stack : List Frame) (n at : ℕ) (kind : Kind) → opens stack ≤ d → IsCall stack → opened d stack n at kind ≡ Stopped (Deep at) → IsGoing (opened (d + 1) stack n at kind)
opened_goes d stack n at CloseParen le c e = absurd (close_empty_fault stack n at (Deep at) c e)
opened_goes d stack n at kind le c e = operand_goes d stack n at kind le e

calling_goes : (d : ℕ) (stack : List Frame) (n at : ℕ) (t : Tree) → opens stack ≤ d → calling d stack n at t ≡ Stopped (Deep at) → IsGoing (calling (d + 1) stack n at t)
calling_goes d stack n at (NameTree name place) le e = goes_test (opens stack) (d + 1) (CallOpened (Args name NoTrees place ∷ stack) n) (Deep at) (omega arith) tt
calling_goes d stack n at t le e = let h = reduce 0 stack t in let f = leave_fault h.stack h.tree at (Deep at) e in absurd (cc)

after_goes : (d w : ℕ) (stack : List Frame) (t : Tree) (n at : ℕ) (kind : Kind) → opens stack ≤ d → n ≤ w → after d w stack t n at kind ≡ Stopped (Deep at) → IsGoing (after (d + 1) (w + 1) stack t n at kind)
after_goes d w stack t n at OpenParen le few e = calling_goes d stack n at t le e
after_goes d w stack t n at (Operator op) le few e =
    let h = reduce (level op) stack t in
    goes_test n (w + 1) (OperandNext (Left op h.tree at ∷ h.stack) (n + 1)) (Deep at) (omega arith) tt
after_goes d w stack t n at CloseParen le few e = let h = reduce 0 stack t in let f = close_top_fault h.stack h.tree n at (Deep at) e in absurd (cc)
after_goes d w stack t n at Comma le few e = let h = reduce 0 stack t in let f = next_top_fault h.stack h.tree n at (Deep at) e in absurd (cc)
after_goes d w stack t n at _ le few e = let h = reduce 0 stack t in let f = leave_fault h.stack h.tree at (Deep at) e in absurd (cc)

-- what the reader wants where it stands
abbrev pub wanted : State → Want
wanted (OperandNext stack n) = Operand
wanted (CallOpened stack n) = Operand
wanted _ = WantClose

-- it stops at a token that doesn't fit, or for want of room, and goes on where there is more
pub step_fault : (d w : ℕ) (tokens : List Token) (s : State) (token : Token) (f : ParseFault) → Stands d w tokens s → IsGoing s → step d w s token ≡ Stopped f → (f ≡ Expected (wanted s) token.start) ⊎ ((f ≡ Deep token.start) × IsGoing (step (d + 1) (w + 1) s token))
step_fault d w tokens (OperandNext stack n) token f h g e =
    ⊎_elim
    (λ (q : f ≡ Expected Operand token.start). inl q)
    (λ (q : f ≡ Deep token.start). inr (q, operand_goes d stack n token.start token.kind h.room (e ∙ ap (λ (x : ParseFault). Stopped x) q)))
    (operand_fault d stack n token.start token.kind f e)
step_fault d w tokens (CallOpened stack n) token f h g e =
    let r = h.0 in
    ⊎_elim
    (λ (q : f ≡ Expected Operand token.start). inl q)
    (λ (q : f ≡ Deep token.start). inr (q, opened_goes d stack n token.start token.kind r.room h.1 (e ∙ ap (λ (x : ParseFault). Stopped x) q)))
    (opened_fault d stack n token.start token.kind f h.1 e)
step_fault d w tokens (OperandRead stack t n) token f h g e =
    ⊎_elim
    (λ (q : f ≡ Expected WantClose token.start). inl q)
    (λ (q : f ≡ Deep token.start). inr (q, after_goes d w stack t n token.start token.kind (let o = h.over in let r = o.room in omega arith) h.few (e ∙ ap (λ (x : ParseFault). Stopped x) q)))
    (after_fault d w stack t n token.start token.kind f e)
step_fault d w tokens (Ended t) token f h g e = elim g [ ]
step_fault d w tokens (Stopped x) token f h g e = elim g [ ]

-- where nothing is open any more, the lambda is whole
pub whole_held : (d w : ℕ) (tokens : List Token) (stack : List Frame) (x : Tree) (n : ℕ) (s : List Frame) (y : Tree) → Carries d w tokens stack x n → Reduced d 0 stack x (record { stack = s; tree = y }) → s ≡ [] → Whole d w tokens y
whole_held d w tokens stack x n [] y c r none = record {
  fits = r.fits;
  spelled = move tokens (spell_stack stack ++ spell x) (spell y) (sym r.spelled) c.spelled;
  room = let k = r.room in omega arith;
  few = let a = r.counted in let b = c.counted in let f = c.few in omega arith;
}
whole_held d w tokens stack x n (f ∷ s) y c r none = absurd (cc)

leave_ended : (s : List Frame) (x : Tree) (at : ℕ) (t : Tree) → leave s x at ≡ Ended t → (s ≡ []) × (x ≡ t)
leave_ended [] x at t e = (refl, cc)
leave_ended (frame ∷ s) x at t e = absurd (cc)

close_ended : (s : List Frame) (x : Tree) (n at : ℕ) (t : Tree) → close_top s x n at ≡ Ended t → (s ≡ []) × (x ≡ t)
close_ended [] x n at t e = (refl, cc)
close_ended (Paren place ∷ s) x n at t e = absurd (cc)
close_ended (Args name done place ∷ s) x n at t e = absurd (cc)
close_ended (frame ∷ s) x n at t e = absurd (cc)

next_ended : (s : List Frame) (x : Tree) (n at : ℕ) (t : Tree) → next_top s x n at ≡ Ended t → (s ≡ []) × (x ≡ t)
next_ended [] x n at t e = (refl, cc)
next_ended (Args name done place ∷ s) x n at t e = absurd (cc)
next_ended (frame ∷ s) x n at t e = absurd (cc)

test_ended : (b : Bool) (s : State) (f : ParseFault) (t : Tree) → IsGoing s → cond b s (Stopped f) ≡ Ended t → ⊥
test_ended true s f t g e = subst IsGoing e g
test_ended false s f t g e = cc

calling_ended : (d : ℕ) (stack : List Frame) (n at : ℕ) (x t : Tree) → calling d stack n at x ≡ Ended t → ((reduce 0 stack x).stack ≡ []) × ((reduce 0 stack x).tree ≡ t)
calling_ended d stack n at (NameTree name place) t e = absurd (test_ended (ltb (opens stack) d) (CallOpened (Args name NoTrees place ∷ stack) n) (Deep at) t tt e)
calling_ended d stack n at x t e = let h = reduce 0 stack x in leave_ended h.stack h.tree at t e

pub after_ended : (d w : ℕ) (stack : List Frame) (x : Tree) (n at : ℕ) (kind : Kind) (t : Tree) → after d w stack x n at kind ≡ Ended t → ((reduce 0 stack x).stack ≡ []) × ((reduce 0 stack x).tree ≡ t)
after_ended d w stack x n at OpenParen t e = calling_ended d stack n at x t e
after_ended d w stack x n at (Operator op) t e =
    let h = reduce (level op) stack x in
    absurd (test_ended (ltb n w) (OperandNext (Left op h.tree at ∷ h.stack) (n + 1)) (Deep at) t tt e)
after_ended d w stack x n at CloseParen t e = let h = reduce 0 stack x in close_ended h.stack h.tree n at t e
after_ended d w stack x n at Comma t e = let h = reduce 0 stack x in next_ended h.stack h.tree n at t e
after_ended d w stack x n at _ t e = let h = reduce 0 stack x in leave_ended h.stack h.tree at t e

pub operand_ended : (d : ℕ) (stack : List Frame) (n at : ℕ) (kind : Kind) (t : Tree) → operand d stack n at kind ≡ Ended t → ⊥
operand_ended d stack n at OpenParen t e = test_ended (ltb (opens stack) d) (OperandNext (Paren at ∷ stack) n) (Deep at) t tt e
operand_ended d stack n at (Operator Sub) t e = test_ended (ltb (opens stack) d) (OperandNext (Minus at ∷ stack) n) (Deep at) t tt e
operand_ended d stack n at Not t e = test_ended (ltb (opens stack) d) (OperandNext (Negation at ∷ stack) n) (Deep at) t tt e
operand_ended d stack n at _ t e = cc

empty_ended : (stack : List Frame) (n at : ℕ) (t : Tree) → close_empty stack n at ≡ Ended t → ⊥
empty_ended (Args name done place ∷ stack) n at t e = cc
empty_ended _ n at t e = cc

pub opened_ended : (d : ℕ) (stack : List Frame) (n at : ℕ) (kind : Kind) (t : Tree) → opened d stack n at kind ≡ Ended t → ⊥
opened_ended d stack n at CloseParen t e = empty_ended stack n at t e
opened_ended d stack n at kind t e = operand_ended d stack n at kind t e

-- a lambda that ended before a token is whole
pub ended : (d w : ℕ) (tokens : List Token) (s : State) (token : Token) (t : Tree) → Stands d w tokens s → IsGoing s → step d w s token ≡ Ended t → Whole d w tokens t
ended d w tokens (OperandNext stack n) token t h g e = absurd (operand_ended d stack n token.start token.kind t e)
ended d w tokens (CallOpened stack n) token t h g e = absurd (opened_ended d stack n token.start token.kind t e)
ended d w tokens (OperandRead stack x n) token t h g e =
    let held = reduce 0 stack x in
    let found = after_ended d w stack x n token.start token.kind t e in
    subst (λ (y : Tree). Whole d w tokens y) found.1
    (whole_held d w tokens stack x n held.stack held.tree h (reduced stack d 0 6 x h.over (omega arith)) found.0)
ended d w tokens (Ended x) token t h g e = elim g [ ]
ended d w tokens (Stopped f) token t h g e = elim g [ ]

done_got : (at : ℕ) (s : List Frame) (x t : Tree) → done_at at s x ≡ Got t → (s ≡ []) × (x ≡ t)
done_got at [] x t e = (refl, cc)
done_got at (frame ∷ s) x t e = absurd (cc)

-- so is one behind which the tokens end
pub finished : (d w at : ℕ) (tokens : List Token) (s : State) (t : Tree) → Stands d w tokens s → IsGoing s → finish at s ≡ Got t → Whole d w tokens t
finished d w at tokens (OperandNext stack n) t h g e = absurd (cc)
finished d w at tokens (CallOpened stack n) t h g e = absurd (cc)
finished d w at tokens (OperandRead stack x n) t h g e =
    let held = reduce 0 stack x in
    let found = done_got at held.stack held.tree t e in
    subst (λ (y : Tree). Whole d w tokens y) found.1
    (whole_held d w tokens stack x n held.stack held.tree h (reduced stack d 0 6 x h.over (omega arith)) found.0)
finished d w at tokens (Ended x) t h g e = elim g [ ]
finished d w at tokens (Stopped f) t h g e = elim g [ ]
