-- Whatever tree the grammar has, the parser reads it.
use Rattle.std.proofs.Common.{◌≡◌, ◌≢◌, ℕ, ◌+◌, ◌<◌, ◌≤◌, Bool, false, cond, leb, List, [], ◌∷◌, ◌++◌, refl, sym, ap, ◌∙◌, arith, lt-ltb, le-leb}
use Rattle.kap_base.specs.declared.expr.Op.{Op}
use Rattle.kap_base.specs.declared.expr.Op.TheVariants.{Or, And, Eq, Ne, Match, NoMatch, Lt, Le, Gt, Ge, Add, Sub, Mul, Div, Rem}
use Rattle.kap_base.specs.Tree.{Tree, LitTree, RefTree, NameTree, CallTree, GroupTree, NegTree, NotTree, BinTree, Trees, NoTrees, MoreTrees, reversed_onto}
use Rattle.tick_lexer.specs.declared.token.Kind.{Kind}
use Rattle.tick_lexer.specs.declared.token.Kind.TheVariants.{Ident, Literal, Reference, Operator, Not, OpenParen, CloseParen, Comma, Dot, Assign, Pipe, Var, Lambda}
use Rattle.tick_lexer.specs.declared.token.Token.{Token}
use Rattle.tick_parser.specs.declared.fault.ParseFault.{ParseFault}
use Rattle.tick_parser.specs.declared.fault.Want.TheVariants.{Operand}
use Rattle.tick_parser.specs.declared.fault.ParseFault.TheVariants.{Expected, Deep}
use Rattle.tick_parser.specs.Grammar.{level, Fits, AllFit, At, Free, spell, spell_args, spell_rest, Agree, depth, depth_all, binaries, binaries_all}
use Rattle.tick_parser.specs.Lambdas.{Frame, Minus, Negation, Left, Paren, Args, HeldOperand, State, OperandNext, CallOpened, OperandRead, Stopped, opens, reduce, opening, operand, joining, close_top, next_top, after, opened, step, run}
use Rattle.tick_parser.proofs.Agreeing.{split, first, none_left}
use Rattle.tick_parser.proofs.LambdaRuns.{run_on, run_first, run_one}

-- nothing on top of the stack is closed at this level
abbrev pub Below : ℕ → List Frame → Type 0
Below n [] = Unit {0}
Below n (Minus at ∷ stack) = 6 ≤ n
Below n (Negation at ∷ stack) = 6 ≤ n
Below n (Left op left at ∷ stack) = level op < n
Below n (Paren at ∷ stack) = Unit {0}
Below n (Args name done at ∷ stack) = Unit {0}

pub level_bound : (op : Op) → level op < 6
level_bound Or = omega arith
level_bound And = omega arith
level_bound Eq = omega arith
level_bound Ne = omega arith
level_bound Match = omega arith
level_bound NoMatch = omega arith
level_bound Lt = omega arith
level_bound Le = omega arith
level_bound Gt = omega arith
level_bound Ge = omega arith
level_bound Add = omega arith
level_bound Sub = omega arith
level_bound Mul = omega arith
level_bound Div = omega arith
level_bound Rem = omega arith

pub below_more : (n m : ℕ) (stack : List Frame) → Below n stack → n ≤ m → Below m stack
below_more n m [] h le = tt
below_more n m (Minus at ∷ stack) h le = omega arith
below_more n m (Negation at ∷ stack) h le = omega arith
below_more n m (Left op left at ∷ stack) h le = omega arith
below_more n m (Paren at ∷ stack) h le = tt
below_more n m (Args name done at ∷ stack) h le = tt

not_leb : (n m : ℕ) → m < n → leb n m ≡ false
not_leb n m h = grind arith

pub stays : (n : ℕ) (stack : List Frame) (t : Tree) → Below n stack → n < 6 → reduce n stack t ≡ record { stack = stack; tree = t }
stays n [] t h lt = refl
stays n (Minus at ∷ stack) t h lt = absurd (omega arith)
stays n (Negation at ∷ stack) t h lt = absurd (omega arith)
stays n (Left op left at ∷ stack) t h lt =
    ap (λ (b : Bool). cond b (reduce n stack (BinTree op left t at)) (record { stack = Left op left at ∷ stack; tree = t })) (not_leb n (level op) h)
stays n (Paren at ∷ stack) t h lt = refl
stays n (Args name done at ∷ stack) t h lt = refl

both : {A B C : Type 0} (f : A → B → C) (a a' : A) (b b' : B) → a ≡ a' → b ≡ b' → f a b ≡ f a' b'
both f a a' b b' e g = ap (λ x. f x b) e ∙ ap (λ y. f a' y) g

opening_fits : (d : ℕ) (frame : Frame) (stack : List Frame) (n at : ℕ) → opens stack < d → opening d frame stack n at ≡ OperandNext (frame ∷ stack) n
opening_fits d frame stack n at h = ap (λ (b : Bool). cond b (OperandNext (frame ∷ stack) n) (Stopped (Deep at))) (lt-ltb (opens stack) d h)

-- from a state that wants an operand the tokens of a tree lead to one that holds it, up to what is closed later
pub record Reached (d w : ℕ) (t : Tree) (tokens : List Token) (from : List Frame) (n k : ℕ) : Type 0 where
  pub stack : List Frame
  pub tree : Tree
  pub reached : run d w tokens (OperandNext from n) ≡ OperandRead stack tree (n + binaries t)
  pub same : (m : ℕ) → m ≤ k → reduce m stack tree ≡ reduce m from t

-- where a call was opened, an operand is read as where one is wanted
opened_step : (d w n : ℕ) (stack : List Frame) (token : Token) (kind : Kind) → token.kind ≡ kind → (kind ≢ CloseParen) → step d w (CallOpened stack n) token ≡ step d w (OperandNext stack n) token
opened_step d w n stack token (Ident name) e ne = ap (λ (k : Kind). opened d stack n token.start k) e ∙ sym (ap (λ (k : Kind). operand d stack n token.start k) e)
opened_step d w n stack token (Literal lit) e ne = ap (λ (k : Kind). opened d stack n token.start k) e ∙ sym (ap (λ (k : Kind). operand d stack n token.start k) e)
opened_step d w n stack token (Reference name) e ne = ap (λ (k : Kind). opened d stack n token.start k) e ∙ sym (ap (λ (k : Kind). operand d stack n token.start k) e)
opened_step d w n stack token (Operator op) e ne = ap (λ (k : Kind). opened d stack n token.start k) e ∙ sym (ap (λ (k : Kind). operand d stack n token.start k) e)
opened_step d w n stack token Not e ne = ap (λ (k : Kind). opened d stack n token.start k) e ∙ sym (ap (λ (k : Kind). operand d stack n token.start k) e)
opened_step d w n stack token OpenParen e ne = ap (λ (k : Kind). opened d stack n token.start k) e ∙ sym (ap (λ (k : Kind). operand d stack n token.start k) e)
opened_step d w n stack token CloseParen e ne = absurd (ne refl)
opened_step d w n stack token Comma e ne = ap (λ (k : Kind). opened d stack n token.start k) e ∙ sym (ap (λ (k : Kind). operand d stack n token.start k) e)
opened_step d w n stack token Dot e ne = ap (λ (k : Kind). opened d stack n token.start k) e ∙ sym (ap (λ (k : Kind). operand d stack n token.start k) e)
opened_step d w n stack token Var e ne = ap (λ (k : Kind). opened d stack n token.start k) e ∙ sym (ap (λ (k : Kind). operand d stack n token.start k) e)
opened_step d w n stack token Lambda e ne = ap (λ (k : Kind). opened d stack n token.start k) e ∙ sym (ap (λ (k : Kind). operand d stack n token.start k) e)
opened_step d w n stack token Assign e ne = ap (λ (k : Kind). opened d stack n token.start k) e ∙ sym (ap (λ (k : Kind). operand d stack n token.start k) e)
opened_step d w n stack token Pipe e ne = ap (λ (k : Kind). opened d stack n token.start k) e ∙ sym (ap (λ (k : Kind). operand d stack n token.start k) e)

pub run_stopped : (d w : ℕ) (tokens : List Token) (f : ParseFault) → run d w tokens (Stopped f) ≡ Stopped f
run_stopped d w [] f = refl
run_stopped d w (t ∷ ts) f = run_stopped d w ts f

opened_run : (d w n : ℕ) (stack held : List Frame) (tree : Tree) (m : ℕ) (tokens : List Token) → run d w tokens (OperandNext stack n) ≡ OperandRead held tree m → run d w tokens (CallOpened stack n) ≡ OperandRead held tree m
opened_run d w n stack held tree m [] h = absurd (cc)
opened_run d w n stack held tree m (t ∷ ts) h =
    let not_close : t.kind ≢ CloseParen =
    λ (e : t.kind ≡ CloseParen).
    let stop : run d w ts (operand d stack n t.start t.kind) ≡ Stopped (Expected Operand t.start) =
    ap (λ (k : Kind). run d w ts (operand d stack n t.start k)) e ∙ run_stopped d w ts (Expected Operand t.start) in
    cc in
    ap (λ (s : State). run d w ts s) (opened_step d w n stack t t.kind refl not_close) ∙ h

mutual
  pub reads : (t : Tree) (d w n k : ℕ) (stack : List Frame) (tokens : List Token) → Agree tokens (spell t) → Fits k t → Below k stack → k ≤ 6 → opens stack + depth t ≤ d → n + binaries t ≤ w → Reached d w t tokens stack n k
  reads (LitTree lit at) d w n k stack tokens h fit below le deep wide =
      let o = first (At (Literal lit) at) [] tokens tt h in
      let s : step d w (OperandNext stack n) o.token ≡ OperandRead stack (LitTree lit at) n =
      both (λ (a : ℕ) (kind : Kind). operand d stack n a kind) o.token.start at o.token.kind (Literal lit) o.is.1 o.is.0 in
      record {
        stack = stack;
        tree = LitTree lit at;
        reached = run_one d w tokens o.token o.rest (OperandNext stack n) (OperandRead stack (LitTree lit at) n) o.joined (none_left o.rest o.rest_agrees) s ∙ ap (λ (c : ℕ). OperandRead stack (LitTree lit at) c) (omega arith);
        same = λ m lt. refl;
      }
  reads (RefTree name at) d w n k stack tokens h fit below le deep wide =
      let o = first (At (Reference name) at) [] tokens tt h in
      let s : step d w (OperandNext stack n) o.token ≡ OperandRead stack (RefTree name at) n =
      both (λ (a : ℕ) (kind : Kind). operand d stack n a kind) o.token.start at o.token.kind (Reference name) o.is.1 o.is.0 in
      record {
        stack = stack;
        tree = RefTree name at;
        reached = run_one d w tokens o.token o.rest (OperandNext stack n) (OperandRead stack (RefTree name at) n) o.joined (none_left o.rest o.rest_agrees) s ∙ ap (λ (c : ℕ). OperandRead stack (RefTree name at) c) (omega arith);
        same = λ m lt. refl;
      }
  reads (NameTree name at) d w n k stack tokens h fit below le deep wide =
      let o = first (At (Ident name) at) [] tokens tt h in
      let s : step d w (OperandNext stack n) o.token ≡ OperandRead stack (NameTree name at) n =
      both (λ (a : ℕ) (kind : Kind). operand d stack n a kind) o.token.start at o.token.kind (Ident name) o.is.1 o.is.0 in
      record {
        stack = stack;
        tree = NameTree name at;
        reached = run_one d w tokens o.token o.rest (OperandNext stack n) (OperandRead stack (NameTree name at) n) o.joined (none_left o.rest o.rest_agrees) s ∙ ap (λ (c : ℕ). OperandRead stack (NameTree name at) c) (omega arith);
        same = λ m lt. refl;
      }
  reads (CallTree name args at) d w n k stack tokens h fit below le deep wide =
      let o = first (At (Ident name) at) (Free OpenParen ∷ spell_args args) tokens tt h in
      let p = first (Free OpenParen) (spell_args args) o.rest tt o.rest_agrees in
      let s : step d w (OperandNext stack n) o.token ≡ OperandRead stack (NameTree name at) n =
      both (λ (a : ℕ) (kind : Kind). operand d stack n a kind) o.token.start at o.token.kind (Ident name) o.is.1 o.is.0 in
      let room : opens stack < d = omega arith in
      let q : step d w (OperandRead stack (NameTree name at) n) p.token ≡ CallOpened (Args name NoTrees at ∷ stack) n =
      ap (λ (kind : Kind). after d w stack (NameTree name at) n p.token.start kind) p.is
      ∙ ap (λ (b : Bool). cond b (CallOpened (Args name NoTrees at ∷ stack) n) (Stopped (Deep p.token.start))) (lt-ltb (opens stack) d room) in
      record {
        stack = stack;
        tree = CallTree name args at;
        reached =
            run_first d w tokens o.token o.rest (OperandNext stack n) (OperandRead stack (NameTree name at) n) o.joined s
            ∙ run_first d w o.rest p.token p.rest (OperandRead stack (NameTree name at) n) (CallOpened (Args name NoTrees at ∷ stack) n) p.joined q
            ∙ reads_args args d w n stack name at p.rest p.rest_agrees fit (omega arith) wide;
        same = λ m lt. refl;
      }
  reads (GroupTree inner at) d w n k stack tokens h fit below le deep wide =
      let o = first (At OpenParen at) (spell inner ++ Free CloseParen ∷ []) tokens tt h in
      let c = split (spell inner) (Free CloseParen ∷ []) o.rest o.rest_agrees in
      let p = first (Free CloseParen) [] c.back tt c.back_agrees in
      let s : step d w (OperandNext stack n) o.token ≡ OperandNext (Paren at ∷ stack) n =
      both (λ (a : ℕ) (kind : Kind). operand d stack n a kind) o.token.start at o.token.kind OpenParen o.is.1 o.is.0
      ∙ opening_fits d (Paren at) stack n at (omega arith) in
      let r = reads inner d w n 0 (Paren at ∷ stack) c.front c.front_agrees fit tt (omega arith) (omega arith) wide in
      let q : step d w (OperandRead r.stack r.tree (n + binaries inner)) p.token ≡ OperandRead stack (GroupTree inner at) (n + binaries inner) =
      ap (λ (kind : Kind). after d w r.stack r.tree (n + binaries inner) p.token.start kind) p.is
      ∙ ap (λ (x : HeldOperand). close_top x.stack x.tree (n + binaries inner) p.token.start) (r.same 0 (omega arith)) in
      record {
        stack = stack;
        tree = GroupTree inner at;
        reached =
            run_first d w tokens o.token o.rest (OperandNext stack n) (OperandNext (Paren at ∷ stack) n) o.joined s
            ∙ run_on d w o.rest c.front c.back (OperandNext (Paren at ∷ stack) n) (OperandRead r.stack r.tree (n + binaries inner)) c.joined r.reached
            ∙ run_one d w c.back p.token p.rest (OperandRead r.stack r.tree (n + binaries inner)) (OperandRead stack (GroupTree inner at) (n + binaries inner)) p.joined (none_left p.rest p.rest_agrees) q;
        same = λ m lt. refl;
      }
  reads (NegTree inner at) d w n k stack tokens h fit below le deep wide =
      let o = first (At (Operator Sub) at) (spell inner) tokens tt h in
      let s : step d w (OperandNext stack n) o.token ≡ OperandNext (Minus at ∷ stack) n =
      both (λ (a : ℕ) (kind : Kind). operand d stack n a kind) o.token.start at o.token.kind (Operator Sub) o.is.1 o.is.0
      ∙ opening_fits d (Minus at) stack n at (omega arith) in
      let r = reads inner d w n 6 (Minus at ∷ stack) o.rest o.rest_agrees fit (omega arith) (omega arith) (omega arith) wide in
      record {
        stack = r.stack;
        tree = r.tree;
        reached = run_first d w tokens o.token o.rest (OperandNext stack n) (OperandNext (Minus at ∷ stack) n) o.joined s ∙ r.reached;
        same = λ m lt. r.same m (omega arith);
      }
  reads (NotTree inner at) d w n k stack tokens h fit below le deep wide =
      let o = first (At Not at) (spell inner) tokens tt h in
      let s : step d w (OperandNext stack n) o.token ≡ OperandNext (Negation at ∷ stack) n =
      both (λ (a : ℕ) (kind : Kind). operand d stack n a kind) o.token.start at o.token.kind Not o.is.1 o.is.0
      ∙ opening_fits d (Negation at) stack n at (omega arith) in
      let r = reads inner d w n 6 (Negation at ∷ stack) o.rest o.rest_agrees fit (omega arith) (omega arith) (omega arith) wide in
      record {
        stack = r.stack;
        tree = r.tree;
        reached = run_first d w tokens o.token o.rest (OperandNext stack n) (OperandNext (Negation at ∷ stack) n) o.joined s ∙ r.reached;
        same = λ m lt. r.same m (omega arith);
      }
  reads (BinTree op left right at) d w n k stack tokens h fit below le deep wide =
      let c = split (spell left) (At (Operator op) at ∷ spell right) tokens h in
      let o = first (At (Operator op) at) (spell right) c.back tt c.back_agrees in
      let bound = level_bound op in
      let count = n + binaries left in
      let close = below_more k (level op) stack below fit.0 in
      let l = reads left d w n (level op) stack c.front c.front_agrees fit.1 close (omega arith) (omega arith) (omega arith) in
      let r = reads right d w (count + 1) (level op + 1) (Left op left at ∷ stack) o.rest o.rest_agrees fit.2 (omega arith) (omega arith) (omega arith) (omega arith) in
      let closed : reduce (level op) l.stack l.tree ≡ record { stack = stack; tree = left } =
      l.same (level op) (omega arith) ∙ stays (level op) stack left close bound in
      let s : step d w (OperandRead l.stack l.tree count) o.token ≡ OperandNext (Left op left at ∷ stack) (count + 1) =
      both (λ (a : ℕ) (kind : Kind). after d w l.stack l.tree count a kind) o.token.start at o.token.kind (Operator op) o.is.1 o.is.0
      ∙ ap (λ (x : HeldOperand). joining w op count at x) closed
      ∙ ap (λ (b : Bool). cond b (OperandNext (Left op left at ∷ stack) (count + 1)) (Stopped (Deep at))) (lt-ltb count w (omega arith)) in
      record {
        stack = r.stack;
        tree = r.tree;
        reached =
            run_on d w tokens c.front c.back (OperandNext stack n) (OperandRead l.stack l.tree count) c.joined l.reached
            ∙ run_first d w c.back o.token o.rest (OperandRead l.stack l.tree count) (OperandNext (Left op left at ∷ stack) (count + 1)) o.joined s
            ∙ r.reached
            ∙ ap (λ (x : ℕ). OperandRead r.stack r.tree x) (omega arith);
        same = λ m lt.
            r.same m (omega arith)
            ∙ ap (λ (b : Bool). cond b (reduce m stack (BinTree op left right at)) (record { stack = Left op left at ∷ stack; tree = right })) (le-leb m (level op) (omega arith));
      }

  reads_args : (args : Trees) (d w n : ℕ) (stack : List Frame) (name : List ℕ) (at : ℕ) (tokens : List Token) → Agree tokens (spell_args args) → AllFit args → opens stack + 1 + depth_all args ≤ d → n + binaries_all args ≤ w → run d w tokens (CallOpened (Args name NoTrees at ∷ stack) n) ≡ OperandRead stack (CallTree name args at) (n + binaries_all args)
  reads_args NoTrees d w n stack name at tokens h fit deep wide =
      let o = first (Free CloseParen) [] tokens tt h in
      let s : step d w (CallOpened (Args name NoTrees at ∷ stack) n) o.token ≡ OperandRead stack (CallTree name NoTrees at) n =
      ap (λ (kind : Kind). opened d (Args name NoTrees at ∷ stack) n o.token.start kind) o.is in
      run_one d w tokens o.token o.rest (CallOpened (Args name NoTrees at ∷ stack) n) (OperandRead stack (CallTree name NoTrees at) n) o.joined (none_left o.rest o.rest_agrees) s
      ∙ ap (λ (c : ℕ). OperandRead stack (CallTree name NoTrees at) c) (omega arith)
  reads_args (MoreTrees one rest) d w n stack name at tokens h fit deep wide =
      let c = split (spell one) (spell_rest rest) tokens h in
      let base = Args name NoTrees at ∷ stack in
      let count = n + binaries one in
      let r = reads one d w n 0 base c.front c.front_agrees fit.0 tt (omega arith) (omega arith) (omega arith) in
      run_on d w tokens c.front c.back (CallOpened base n) (OperandRead r.stack r.tree count) c.joined (opened_run d w n base r.stack r.tree count c.front r.reached)
      ∙ reads_rest rest d w count stack name at NoTrees one r.stack r.tree c.back (r.same 0 (omega arith)) c.back_agrees fit.1 (omega arith) (omega arith)
      ∙ ap (λ (x : ℕ). OperandRead stack (CallTree name (MoreTrees one rest) at) x) (omega arith)

  reads_rest : (rest : Trees) (d w n : ℕ) (stack : List Frame) (name : List ℕ) (at : ℕ) (done : Trees) (last : Tree) (held : List Frame) (tree : Tree) (tokens : List Token) → reduce 0 held tree ≡ record { stack = Args name done at ∷ stack; tree = last } → Agree tokens (spell_rest rest) → AllFit rest → opens stack + 1 + depth_all rest ≤ d → n + binaries_all rest ≤ w → run d w tokens (OperandRead held tree n) ≡ OperandRead stack (CallTree name (reversed_onto (MoreTrees last done) rest) at) (n + binaries_all rest)
  reads_rest NoTrees d w n stack name at done last held tree tokens closed h fit deep wide =
      let o = first (Free CloseParen) [] tokens tt h in
      let all = CallTree name (reversed_onto (MoreTrees last done) NoTrees) at in
      let s : step d w (OperandRead held tree n) o.token ≡ OperandRead stack all n =
      ap (λ (kind : Kind). after d w held tree n o.token.start kind) o.is
      ∙ ap (λ (x : HeldOperand). close_top x.stack x.tree n o.token.start) closed in
      run_one d w tokens o.token o.rest (OperandRead held tree n) (OperandRead stack all n) o.joined (none_left o.rest o.rest_agrees) s
      ∙ ap (λ (c : ℕ). OperandRead stack all c) (omega arith)
  reads_rest (MoreTrees one rest) d w n stack name at done last held tree tokens closed h fit deep wide =
      let o = first (Free Comma) (spell one ++ spell_rest rest) tokens tt h in
      let c = split (spell one) (spell_rest rest) o.rest o.rest_agrees in
      let base = Args name (MoreTrees last done) at ∷ stack in
      let count = n + binaries one in
      let s : step d w (OperandRead held tree n) o.token ≡ OperandNext base n =
      ap (λ (kind : Kind). after d w held tree n o.token.start kind) o.is
      ∙ ap (λ (x : HeldOperand). next_top x.stack x.tree n o.token.start) closed in
      let r = reads one d w n 0 base c.front c.front_agrees fit.0 tt (omega arith) (omega arith) (omega arith) in
      run_first d w tokens o.token o.rest (OperandRead held tree n) (OperandNext base n) o.joined s
      ∙ run_on d w o.rest c.front c.back (OperandNext base n) (OperandRead r.stack r.tree count) c.joined r.reached
      ∙ reads_rest rest d w count stack name at (MoreTrees last done) one r.stack r.tree c.back (r.same 0 (omega arith)) c.back_agrees fit.1 (omega arith) (omega arith)
      ∙ ap (λ (x : ℕ). OperandRead stack (CallTree name (reversed_onto (MoreTrees last done) (MoreTrees one rest)) at) x) (omega arith)
