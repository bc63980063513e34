-- What the parser has read are the tokens of what it holds, and can be completed to a tree.
use Rattle.std.proofs.Common.{◌≡◌, ℕ, ◌+◌, ◌≤◌, max, Bool, true, false, cond, ltb, leb, List, [], ◌∷◌, ◌++◌, refl, sym, ap, ◌∙◌, subst, arith, append_assoc, ltb-true, leb-true, leb-false}
use Rattle.std.proofs.lemmas.List.{append-nil}
use Rattle.kap_base.specs.declared.expr.Op.{Op}
use Rattle.kap_base.specs.declared.expr.Op.TheVariants.{Sub}
use Rattle.kap_base.specs.Tree.{Tree, LitTree, RefTree, NameTree, CallTree, GroupTree, NegTree, NotTree, BinTree, Trees, NoTrees, MoreTrees, reversed_onto}
use Rattle.tick_lexer.specs.declared.token.Kind.{Kind}
use Rattle.tick_lexer.specs.declared.token.Kind.TheVariants.{Ident, Literal, Reference, Operator, Not, OpenParen, CloseParen, Comma}
use Rattle.tick_lexer.specs.declared.token.Token.{Token}
use Rattle.tick_parser.specs.declared.fault.ParseFault.{ParseFault}
use Rattle.tick_parser.specs.declared.fault.ParseFault.TheVariants.{Deep}
use Rattle.tick_parser.specs.Grammar.{level, Fits, AllFit, Mark, At, Free, spell, spell_args, spell_rest, Is, Agree, depth, depth_all, binaries, binaries_all}
use Rattle.tick_parser.specs.Lambdas.{Frame, Minus, Negation, Left, Paren, Args, HeldOperand, State, OperandNext, CallOpened, OperandRead, Ended, Stopped, leave, opens, reduce, opening, operand, calling, joining, close_top, next_top, close_empty, after, opened, step, run}
use Rattle.tick_parser.proofs.Agreeing.{snoc}
use Rattle.tick_parser.proofs.LambdaComplete.{Below, level_bound}

-- the tokens of the arguments that are read, the last first, each with its comma
abbrev pub spell_done : Trees → List Mark
spell_done NoTrees = []
spell_done (MoreTrees last done) = spell_done done ++ (spell last ++ Free Comma ∷ [])

-- the tokens of what is open
abbrev pub spell_stack : List Frame → List Mark
spell_stack [] = []
spell_stack (Minus at ∷ stack) = spell_stack stack ++ At (Operator Sub) at ∷ []
spell_stack (Negation at ∷ stack) = spell_stack stack ++ At Not at ∷ []
spell_stack (Left op left at ∷ stack) = spell_stack stack ++ (spell left ++ At (Operator op) at ∷ [])
spell_stack (Paren at ∷ stack) = spell_stack stack ++ At OpenParen at ∷ []
spell_stack (Args name done at ∷ stack) = spell_stack stack ++ (At (Ident name) at ∷ Free OpenParen ∷ spell_done done)

abbrev pub count_stack : List Frame → ℕ
count_stack [] = 0
count_stack (Minus at ∷ stack) = count_stack stack
count_stack (Negation at ∷ stack) = count_stack stack
count_stack (Left op left at ∷ stack) = count_stack stack + (binaries left + 1)
count_stack (Paren at ∷ stack) = count_stack stack
count_stack (Args name done at ∷ stack) = count_stack stack + binaries_all done

abbrev pub Good : ℕ → List Frame → Type 0
Good d [] = Unit {0}
Good d (Minus at ∷ stack) = Good d stack
Good d (Negation at ∷ stack) = Good d stack
Good d (Left op left at ∷ stack) = Fits (level op) left × Below (level op) stack × (opens stack + depth left ≤ d) × Good d stack
Good d (Paren at ∷ stack) = Good d stack
Good d (Args name done at ∷ stack) = AllFit done × (opens stack + 1 + depth_all done ≤ d) × Good d stack

pub fits_less : (t : Tree) (n m : ℕ) → n ≤ m → Fits m t → Fits n t
fits_less (LitTree lit at) n m le h = tt
fits_less (RefTree name at) n m le h = tt
fits_less (NameTree name at) n m le h = tt
fits_less (CallTree name args at) n m le h = h
fits_less (GroupTree inner at) n m le h = h
fits_less (NegTree inner at) n m le h = h
fits_less (NotTree inner at) n m le h = h
fits_less (BinTree op left right at) n m le h = (omega arith, h.1, h.2)

pub below_six : (stack : List Frame) → Below 6 stack
below_six [] = tt
below_six (Minus at ∷ stack) = omega arith
below_six (Negation at ∷ stack) = omega arith
below_six (Left op left at ∷ stack) = level_bound op
below_six (Paren at ∷ stack) = tt
below_six (Args name done at ∷ stack) = tt

pub all_fit : (done rest : Trees) → AllFit done → AllFit rest → AllFit (reversed_onto done rest)
all_fit NoTrees rest h k = k
all_fit (MoreTrees last done) rest h k = all_fit done (MoreTrees last rest) h.1 (h.0, k)

pub depth_reversed : (done rest : Trees) → depth_all (reversed_onto done rest) ≡ max (depth_all done) (depth_all rest)
depth_reversed NoTrees rest = omega arith
depth_reversed (MoreTrees last done) rest = let e = depth_reversed done (MoreTrees last rest) in omega arith

pub binaries_reversed : (done rest : Trees) → binaries_all (reversed_onto done rest) ≡ binaries_all done + binaries_all rest
binaries_reversed NoTrees rest = omega arith
binaries_reversed (MoreTrees last done) rest = let e = binaries_reversed done (MoreTrees last rest) in omega arith

pub args_spelled : (done : Trees) (last : Tree) (rest : Trees) → spell_args (reversed_onto (MoreTrees last done) rest) ≡ spell_done done ++ (spell last ++ spell_rest rest)
args_spelled NoTrees last rest = refl
args_spelled (MoreTrees one done) last rest =
    args_spelled done one (MoreTrees last rest)
    ∙ sym (append_assoc (spell_done done) (spell one ++ Free Comma ∷ []) (spell last ++ spell_rest rest)
    ∙ ap (λ (l : List Mark). spell_done done ++ l) (append_assoc (spell one) (Free Comma ∷ []) (spell last ++ spell_rest rest)))

-- what closing keeps
pub record Reduced (d n : ℕ) (stack : List Frame) (t : Tree) (held : HeldOperand) : Type 0 where
  pub good : Good d held.stack
  pub fits : Fits n held.tree
  pub below : Below n held.stack
  pub room : opens held.stack + depth held.tree ≤ d
  pub spelled : spell_stack held.stack ++ spell held.tree ≡ spell_stack stack ++ spell t
  pub counted : count_stack held.stack + binaries held.tree ≡ count_stack stack + binaries t

-- the tree is held over this stack, as an operand of this level
pub record Over (d n : ℕ) (stack : List Frame) (t : Tree) : Type 0 where
  pub good : Good d stack
  pub fits : Fits n t
  pub below : Below n stack
  pub top : n ≤ 6
  pub room : opens stack + depth t ≤ d

pub over_minus : (d n at : ℕ) (stack : List Frame) (t : Tree) → Over d n (Minus at ∷ stack) t → Over d 6 stack (NegTree t at)
over_minus d n at stack t o = record { good = o.good; fits = fits_less t 6 n o.below o.fits; below = below_six stack; top = omega arith; room = let r = o.room in omega arith }

pub over_negation : (d n at : ℕ) (stack : List Frame) (t : Tree) → Over d n (Negation at ∷ stack) t → Over d 6 stack (NotTree t at)
over_negation d n at stack t o = record { good = o.good; fits = fits_less t 6 n o.below o.fits; below = below_six stack; top = omega arith; room = let r = o.room in omega arith }

pub over_left : (d n : ℕ) (op : Op) (left : Tree) (at : ℕ) (stack : List Frame) (t : Tree) → Over d n (Left op left at ∷ stack) t → Over d (level op) stack (BinTree op left t at)
over_left d n op left at stack t o =
    let g = o.good in let b = o.below in let r = o.room in let lt = level_bound op in
    record { good = g.3; fits = (omega arith, g.0, fits_less t (level op + 1) n (omega arith) o.fits); below = g.1; top = omega arith; room = let r2 = g.2 in omega arith }

pub spell_unary : (a : List Mark) (m : Mark) (b : List Mark) → a ++ (m ∷ b) ≡ (a ++ m ∷ []) ++ b
spell_unary a m b = sym (append_assoc a (m ∷ []) b)

pub spell_left : (a l : List Mark) (m : Mark) (b : List Mark) → a ++ (l ++ m ∷ b) ≡ (a ++ (l ++ m ∷ [])) ++ b
spell_left a l m b = simp append_assoc

pub reduced : (stack : List Frame) (d n m : ℕ) (t : Tree) → Over d m stack t → n ≤ m → Reduced d n stack t (reduce n stack t)
reduced [] d n m t o le = record { good = tt; fits = fits_less t n m le o.fits; below = tt; room = o.room; spelled = refl; counted = refl }
reduced (Minus at ∷ stack) d n m t o le =
    let r = reduced stack d n 6 (NegTree t at) (over_minus d m at stack t o) (let top = o.top in omega arith) in
    record {
      good = r.good;
      fits = r.fits;
      below = r.below;
      room = r.room;
      spelled = r.spelled ∙ spell_unary (spell_stack stack) (At (Operator Sub) at) (spell t);
      counted = r.counted;
    }
reduced (Negation at ∷ stack) d n m t o le =
    let r = reduced stack d n 6 (NotTree t at) (over_negation d m at stack t o) (let top = o.top in omega arith) in
    record {
      good = r.good;
      fits = r.fits;
      below = r.below;
      room = r.room;
      spelled = r.spelled ∙ spell_unary (spell_stack stack) (At Not at) (spell t);
      counted = r.counted;
    }
reduced (Left op left at ∷ stack) d n m t o le =
    let P : Bool → Type 0 = λ b. Reduced d n (Left op left at ∷ stack) t (cond b (reduce n stack (BinTree op left t at)) (record { stack = Left op left at ∷ stack; tree = t })) in
    let go : (b : Bool) → leb n (level op) ≡ b → P b =
    elim [
      | true ↦ λ e.
          let r = reduced stack d n (level op) (BinTree op left t at) (over_left d m op left at stack t o) (leb-true n (level op) e) in
          record {
            good = r.good;
            fits = r.fits;
            below = r.below;
            room = r.room;
            spelled = r.spelled ∙ spell_left (spell_stack stack) (spell left) (At (Operator op) at) (spell t);
            counted = let c = r.counted in omega arith;
          }
      | false ↦ λ e.
          let lt = leb-false n (level op) e in
          record { good = o.good; fits = fits_less t n m le o.fits; below = omega arith; room = o.room; spelled = refl; counted = refl }
    ] in
    go (leb n (level op)) refl
reduced (Paren at ∷ stack) d n m t o le = record { good = o.good; fits = fits_less t n m le o.fits; below = tt; room = o.room; spelled = refl; counted = refl }
reduced (Args name done at ∷ stack) d n m t o le = record { good = o.good; fits = fits_less t n m le o.fits; below = tt; room = o.room; spelled = refl; counted = refl }

-- an operand is wanted over this stack, and these tokens were read
pub record Ready (d w : ℕ) (tokens : List Token) (stack : List Frame) (n : ℕ) : Type 0 where
  pub good : Good d stack
  pub spelled : Agree tokens (spell_stack stack)
  pub counted : n ≡ count_stack stack
  pub room : opens stack ≤ d
  pub few : n ≤ w

-- an operand is held over this stack, and these tokens were read
pub record Carries (d w : ℕ) (tokens : List Token) (stack : List Frame) (t : Tree) (n : ℕ) : Type 0 where
  pub over : Over d 6 stack t
  pub spelled : Agree tokens (spell_stack stack ++ spell t)
  pub counted : n ≡ count_stack stack + binaries t
  pub few : n ≤ w

abbrev pub IsCall : List Frame → Type 0
IsCall (Args name NoTrees at ∷ stack) = Unit {0}
IsCall _ = ⊥

abbrev pub Stands : ℕ → ℕ → List Token → State → Type 0
Stands d w tokens (OperandNext stack n) = Ready d w tokens stack n
Stands d w tokens (CallOpened stack n) = Ready d w tokens stack n × IsCall stack
Stands d w tokens (OperandRead stack t n) = Carries d w tokens stack t n
Stands d w tokens (Ended tree) = Unit {0}
Stands d w tokens (Stopped fault) = Unit {0}

holds_leaf : (d w : ℕ) (tokens : List Token) (stack : List Frame) (n : ℕ) (token : Token) (t : Tree) (m : Mark) → Ready d w tokens stack n → Is (token ∷ []) m → spell t ≡ m ∷ [] → Fits 6 t → depth t ≡ 0 → binaries t ≡ 0 → Carries d w (tokens ++ token ∷ []) stack t n
holds_leaf d w tokens stack n token t m r i e fit shallow few =
    record {
      over = record { good = r.good; fits = fit; below = below_six stack; top = omega arith; room = let o = r.room in omega arith };
      spelled = snoc (spell_stack stack) (spell_stack stack ++ spell t) m tokens token r.spelled i (ap (λ (l : List Mark). spell_stack stack ++ l) (sym e));
      counted = let c = r.counted in omega arith;
      few = r.few;
    }

-- a test that is met or stops the parser
tested : (P : State → Type 0) (b : Bool) (s : State) (f : ParseFault) → (b ≡ true → P s) → P (Stopped f) → P (cond b s (Stopped f))
tested P true s f h k = h refl
tested P false s f h k = k

ready_more : (d w : ℕ) (tokens : List Token) (stack : List Frame) (n : ℕ) (token : Token) (frame : Frame) (m : Mark) → Ready d w tokens stack n → Is (token ∷ []) m → spell_stack (frame ∷ stack) ≡ spell_stack stack ++ m ∷ [] → Good d (frame ∷ stack) → opens (frame ∷ stack) ≡ opens stack + 1 → count_stack (frame ∷ stack) ≡ count_stack stack → Stands d w (tokens ++ token ∷ []) (opening d frame stack n token.start)
ready_more d w tokens stack n token frame m r i e good one same =
    tested (Stands d w (tokens ++ token ∷ [])) (ltb (opens stack) d) (OperandNext (frame ∷ stack) n) (Deep token.start)
    (λ (lt : ltb (opens stack) d ≡ true). record {
      good = good;
      spelled = snoc (spell_stack stack) (spell_stack (frame ∷ stack)) m tokens token r.spelled i (sym e);
      counted = let c = r.counted in omega arith;
      room = let k = ltb-true (opens stack) d lt in omega arith;
      few = r.few;
    })
    tt

pub operand_stands : (d w : ℕ) (tokens : List Token) (stack : List Frame) (n : ℕ) (token : Token) (kind : Kind) → Ready d w tokens stack n → token.kind ≡ kind → Stands d w (tokens ++ token ∷ []) (operand d stack n token.start kind)
operand_stands d w tokens stack n token (Ident name) r e = holds_leaf d w tokens stack n token (NameTree name token.start) (At (Ident name) token.start) r (e, refl) refl tt refl refl
operand_stands d w tokens stack n token (Literal lit) r e = holds_leaf d w tokens stack n token (LitTree lit token.start) (At (Literal lit) token.start) r (e, refl) refl tt refl refl
operand_stands d w tokens stack n token (Reference name) r e = holds_leaf d w tokens stack n token (RefTree name token.start) (At (Reference name) token.start) r (e, refl) refl tt refl refl
operand_stands d w tokens stack n token (Operator Sub) r e = ready_more d w tokens stack n token (Minus token.start) (At (Operator Sub) token.start) r (e, refl) refl r.good refl refl
operand_stands d w tokens stack n token Not r e = ready_more d w tokens stack n token (Negation token.start) (At Not token.start) r (e, refl) refl r.good refl refl
operand_stands d w tokens stack n token OpenParen r e = ready_more d w tokens stack n token (Paren token.start) (At OpenParen token.start) r (e, refl) refl r.good refl refl
operand_stands d w tokens stack n token _ r e = tt

close_empty_stands : (d w : ℕ) (tokens : List Token) (stack : List Frame) (n : ℕ) (token : Token) → Ready d w tokens stack n → IsCall stack → token.kind ≡ CloseParen → Stands d w (tokens ++ token ∷ []) (close_empty stack n token.start)
close_empty_stands d w tokens (Args name NoTrees at ∷ stack) n token r c e =
    let g = r.good in
    record {
      over = record { good = g.2; fits = tt; below = below_six stack; top = omega arith; room = let o = r.room in omega arith };
      spelled =
          let flat : (spell_stack stack ++ (At (Ident name) at ∷ Free OpenParen ∷ [])) ++ Free CloseParen ∷ [] ≡ spell_stack stack ++ (At (Ident name) at ∷ Free OpenParen ∷ Free CloseParen ∷ []) = simp append_assoc in
          snoc (spell_stack (Args name NoTrees at ∷ stack)) (spell_stack stack ++ spell (CallTree name NoTrees at)) (Free CloseParen) tokens token r.spelled e flat;
      counted = let k = r.counted in omega arith;
      few = r.few;
    }
close_empty_stands d w tokens _ n token r c e = elim c [ ]

opened_stands : (d w : ℕ) (tokens : List Token) (stack : List Frame) (n : ℕ) (token : Token) (kind : Kind) → Ready d w tokens stack n → IsCall stack → token.kind ≡ kind → Stands d w (tokens ++ token ∷ []) (opened d stack n token.start kind)
opened_stands d w tokens stack n token CloseParen r c e = close_empty_stands d w tokens stack n token r c e
opened_stands d w tokens stack n token kind r c e = operand_stands d w tokens stack n token kind r e

leave_stands : (d w at : ℕ) (tokens : List Token) (s : List Frame) (x : Tree) → Stands d w tokens (leave s x at)
leave_stands d w at tokens [] x = tt
leave_stands d w at tokens (frame ∷ s) x = tt

calling_stands : (d w : ℕ) (tokens : List Token) (stack : List Frame) (n : ℕ) (token : Token) (t : Tree) → Carries d w tokens stack t n → token.kind ≡ OpenParen → Stands d w (tokens ++ token ∷ []) (calling d stack n token.start t)
calling_stands d w tokens stack n token (NameTree name at) c e =
    tested (Stands d w (tokens ++ token ∷ [])) (ltb (opens stack) d) (CallOpened (Args name NoTrees at ∷ stack) n) (Deep token.start)
    (λ (lt : ltb (opens stack) d ≡ true).
    let k = ltb-true (opens stack) d lt in
    let flat : (spell_stack stack ++ (At (Ident name) at ∷ [])) ++ Free OpenParen ∷ [] ≡ spell_stack stack ++ (At (Ident name) at ∷ Free OpenParen ∷ []) = simp append_assoc in (
      record {
        good = (tt, omega arith, c.over.good);
        spelled = snoc (spell_stack stack ++ spell (NameTree name at)) (spell_stack (Args name NoTrees at ∷ stack)) (Free OpenParen) tokens token c.spelled e flat;
        counted = let m = c.counted in omega arith;
        room = omega arith;
        few = c.few;
      },
      tt,
    ))
    tt
calling_stands d w tokens stack n token t c e = let h = reduce 0 stack t in leave_stands d w token.start (tokens ++ token ∷ []) h.stack h.tree

joining_stands : (d w : ℕ) (tokens : List Token) (stack : List Frame) (n : ℕ) (token : Token) (t : Tree) (op : Op) (held : HeldOperand) → Carries d w tokens stack t n → Reduced d (level op) stack t held → token.kind ≡ Operator op → Stands d w (tokens ++ token ∷ []) (joining w op n token.start held)
joining_stands d w tokens stack n token t op held c r e =
    tested (Stands d w (tokens ++ token ∷ [])) (ltb n w) (OperandNext (Left op held.tree token.start ∷ held.stack) (n + 1)) (Deep token.start)
    (λ (lt : ltb n w ≡ true).
    let k = ltb-true n w lt in
    let room = r.room in
    let m : Mark = At (Operator op) token.start in
    record {
      good = (r.fits, r.below, r.room, r.good);
      spelled =
          snoc (spell_stack stack ++ spell t) (spell_stack held.stack ++ (spell held.tree ++ m ∷ [])) m tokens token c.spelled (e, refl)
          (ap (λ (l : List Mark). l ++ m ∷ []) (sym r.spelled) ∙ append_assoc (spell_stack held.stack) (spell held.tree) (m ∷ []));
      counted = let a = c.counted in let b = r.counted in omega arith;
      room = omega arith;
      few = omega arith;
    })
    tt

-- a token behind what is held and closed
behind : (d n w count : ℕ) (tokens : List Token) (stack s : List Frame) (token : Token) (t x : Tree) (m : Mark) → Carries d w tokens stack t count → Reduced d n stack t (record { stack = s; tree = x }) → Is (token ∷ []) m → Agree (tokens ++ token ∷ []) (spell_stack s ++ (spell x ++ m ∷ []))
behind d n w count tokens stack s token t x m c r i =
    snoc (spell_stack stack ++ spell t) (spell_stack s ++ (spell x ++ m ∷ [])) m tokens token c.spelled i
    (ap (λ (l : List Mark). l ++ m ∷ []) (sym r.spelled) ∙ append_assoc (spell_stack s) (spell x) (m ∷ []))

close_stands : (d w : ℕ) (tokens : List Token) (stack : List Frame) (n : ℕ) (token : Token) (t : Tree) (s : List Frame) (x : Tree) → Carries d w tokens stack t n → Reduced d 0 stack t (record { stack = s; tree = x }) → token.kind ≡ CloseParen → Stands d w (tokens ++ token ∷ []) (close_top s x n token.start)
close_stands d w tokens stack n token t (Paren at ∷ s) x c r e =
    record {
      over = record { good = r.good; fits = r.fits; below = below_six s; top = omega arith; room = let k = r.room in omega arith };
      spelled = subst (λ (l : List Mark). Agree (tokens ++ token ∷ []) l) (append_assoc (spell_stack s) (At OpenParen at ∷ []) (spell x ++ Free CloseParen ∷ [])) (behind d 0 w n tokens stack (Paren at ∷ s) token t x (Free CloseParen) c r e);
      counted = let a = c.counted in let b = r.counted in omega arith;
      few = c.few;
    }
close_stands d w tokens stack n token t (Args name done at ∷ s) x c r e =
    let g = r.good in
    let k = r.room in
    let depths = depth_reversed (MoreTrees x done) NoTrees in
    let counts = binaries_reversed (MoreTrees x done) NoTrees in
    let args = reversed_onto (MoreTrees x done) NoTrees in
    let flat : (spell_stack s ++ (At (Ident name) at ∷ Free OpenParen ∷ spell_done done)) ++ (spell x ++ Free CloseParen ∷ []) ≡ spell_stack s ++ (At (Ident name) at ∷ Free OpenParen ∷ (spell_done done ++ (spell x ++ Free CloseParen ∷ []))) = simp append_assoc in
    let whole : spell_stack s ++ (At (Ident name) at ∷ Free OpenParen ∷ (spell_done done ++ (spell x ++ Free CloseParen ∷ []))) ≡ spell_stack s ++ spell (CallTree name args at) =
    ap (λ (l : List Mark). spell_stack s ++ (At (Ident name) at ∷ Free OpenParen ∷ l)) (sym (args_spelled done x NoTrees)) in
    record {
      over = record { good = g.2; fits = all_fit (MoreTrees x done) NoTrees (r.fits, g.0) tt; below = below_six s; top = omega arith; room = let m = g.1 in omega arith };
      spelled = subst (λ (l : List Mark). Agree (tokens ++ token ∷ []) l) (flat ∙ whole) (behind d 0 w n tokens stack (Args name done at ∷ s) token t x (Free CloseParen) c r e);
      counted = let a = c.counted in let b = r.counted in omega arith;
      few = c.few;
    }
close_stands d w tokens stack n token t _ x c r e = tt

next_stands : (d w : ℕ) (tokens : List Token) (stack : List Frame) (n : ℕ) (token : Token) (t : Tree) (s : List Frame) (x : Tree) → Carries d w tokens stack t n → Reduced d 0 stack t (record { stack = s; tree = x }) → token.kind ≡ Comma → Stands d w (tokens ++ token ∷ []) (next_top s x n token.start)
next_stands d w tokens stack n token t (Args name done at ∷ s) x c r e =
    let g = r.good in
    let k = r.room in
    let flat : (spell_stack s ++ (At (Ident name) at ∷ Free OpenParen ∷ spell_done done)) ++ (spell x ++ Free Comma ∷ []) ≡ spell_stack s ++ (At (Ident name) at ∷ Free OpenParen ∷ (spell_done done ++ (spell x ++ Free Comma ∷ []))) = simp append_assoc in
    record {
      good = ((r.fits, g.0), let m = g.1 in omega arith, g.2);
      spelled = subst (λ (l : List Mark). Agree (tokens ++ token ∷ []) l) flat (behind d 0 w n tokens stack (Args name done at ∷ s) token t x (Free Comma) c r e);
      counted = let a = c.counted in let b = r.counted in omega arith;
      room = omega arith;
      few = c.few;
    }
next_stands d w tokens stack n token t _ x c r e = tt

after_stands : (d w : ℕ) (tokens : List Token) (stack : List Frame) (n : ℕ) (token : Token) (t : Tree) (kind : Kind) → Carries d w tokens stack t n → token.kind ≡ kind → Stands d w (tokens ++ token ∷ []) (after d w stack t n token.start kind)
after_stands d w tokens stack n token t OpenParen c e = calling_stands d w tokens stack n token t c e
after_stands d w tokens stack n token t (Operator op) c e = let lt = level_bound op in joining_stands d w tokens stack n token t op (reduce (level op) stack t) c (reduced stack d (level op) 6 t c.over (omega arith)) e
after_stands d w tokens stack n token t CloseParen c e = let h = reduce 0 stack t in close_stands d w tokens stack n token t h.stack h.tree c (reduced stack d 0 6 t c.over (omega arith)) e
after_stands d w tokens stack n token t Comma c e = let h = reduce 0 stack t in next_stands d w tokens stack n token t h.stack h.tree c (reduced stack d 0 6 t c.over (omega arith)) e
after_stands d w tokens stack n token t _ c e = let h = reduce 0 stack t in leave_stands d w token.start (tokens ++ token ∷ []) h.stack h.tree

pub step_stands : (d w : ℕ) (tokens : List Token) (s : State) (token : Token) → Stands d w tokens s → Stands d w (tokens ++ token ∷ []) (step d w s token)
step_stands d w tokens (OperandNext stack n) token h = operand_stands d w tokens stack n token token.kind h refl
step_stands d w tokens (CallOpened stack n) token h = opened_stands d w tokens stack n token token.kind h.0 h.1 refl
step_stands d w tokens (OperandRead stack t n) token h = after_stands d w tokens stack n token t token.kind h refl
step_stands d w tokens (Ended t) token h = tt
step_stands d w tokens (Stopped f) token h = tt

pub run_stands : (d w : ℕ) (more tokens : List Token) (s : State) → Stands d w tokens s → Stands d w (tokens ++ more) (run d w more s)
run_stands d w [] tokens s h = subst (λ (l : List Token). Stands d w l s) (sym (append-nil tokens)) h
run_stands d w (t ∷ more) tokens s h =
    subst (λ (l : List Token). Stands d w l (run d w more (step d w s t))) (append_assoc tokens (t ∷ []) more)
    (run_stands d w more (tokens ++ t ∷ []) (step d w s t) (step_stands d w tokens s t h))
