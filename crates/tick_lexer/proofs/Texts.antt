-- Whole texts: what the lexer runs through is what a text reads as, and a text reads in one way.
use Rattle.std.proofs.Common.{◌≡◌, ◌≢◌, ◌⊎◌, inl, inr, ⊎_elim, ℕ, ◌+◌, ◌-◌, ◌<◌, ◌≤◌, zero, suc, Bool, true, false, cond, List, [], ◌∷◌, ◌++◌, length, drop, take, refl, sym, ap, ◌∙◌, subst, arith, append_assoc, length-append, codes}
use Rattle.std.proofs.lemmas.List.{append-nil}
use Rattle.std.proofs.Math.Seq.{drop-append_seam, take-append_seam}
use Rattle.kap_base.specs.declared.expr.Lit.TheVariants.{Int, Dur, Str, Bool as Truth, Regex}
use Rattle.kap_base.specs.declared.expr.Op.{Op}
use Rattle.kap_base.specs.declared.expr.Op.TheVariants.{Or, And, Eq, Ne, Match, NoMatch, Lt, Le, Gt, Ge, Add, Sub, Mul, Div, Rem}
use Rattle.tick_lexer.specs.declared.token.Kind.{Kind}
use Rattle.tick_lexer.specs.declared.token.Kind.TheVariants.{Ident, Var, Lambda, Literal, Reference, Operator, Not, Assign, OpenParen, CloseParen, Comma, Dot, Pipe}
use Rattle.tick_lexer.specs.declared.token.LexFault.{LexFault}
use Rattle.tick_lexer.specs.declared.token.Token.{Token}
use Rattle.tick_lexer.specs.Spelling.{IsName, operator_bytes, Quoted, Tripled, Spelled, takes_pattern}
use Rattle.tick_lexer.specs.Script.{Between, IsGap, Next, place_of, Ending, Whole, Fault, ContinuesWith, HasTokens, HasFirstFault, AreInPlace}
use Rattle.tick_lexer.specs.Front.{Found, Took, Bad, front}
use Rattle.tick_lexer.specs.Runs.{skipped, Runs}
use Rattle.tick_lexer.proofs.Signs.{in_quotes}
use Rattle.tick_lexer.proofs.Sound.{Failure}
use Rattle.tick_lexer.proofs.Words.{Lexeme}
use Rattle.tick_lexer.proofs.Fronts.{taken, failed, front_sound}
use Rattle.tick_lexer.proofs.Gaps.{Gap, gap_of, token_gap, fault_gap, skip_before, skip_last, skipped_quiet, skipped_white}

name_some : (name : List ℕ) → IsName name → 0 < length name
name_some [] h = elim h [ ]
name_some (b ∷ name) h = omega arith

operator_some : (op : Op) → 0 < length (operator_bytes op)
operator_some Or = omega arith
operator_some And = omega arith
operator_some Eq = omega arith
operator_some Ne = omega arith
operator_some Match = omega arith
operator_some NoMatch = omega arith
operator_some Lt = omega arith
operator_some Le = omega arith
operator_some Gt = omega arith
operator_some Ge = omega arith
operator_some Add = omega arith
operator_some Sub = omega arith
operator_some Mul = omega arith
operator_some Div = omega arith
operator_some Rem = omega arith

truth_some : (b : Bool) → 0 < length (cond b (codes "TRUE") (codes "FALSE"))
truth_some true = omega arith
truth_some false = omega arith

some_at : (s t : List ℕ) → s ≡ t → 0 < length t → 0 < length s
some_at s t e h = let k = ap (λ (l : List ℕ). length l) e in omega arith

-- a token has at least one byte
pub spelled_some : (kind : Kind) (s : List ℕ) → Spelled kind s → 0 < length s
spelled_some (Ident name) s h = some_at s name h.0 (name_some name h.1)
spelled_some Var s h = some_at s (codes "var") h (omega arith)
spelled_some Lambda s h = some_at s (codes "lambda:") h (omega arith)
spelled_some (Literal (Int n)) s h = let plain = h.0 in plain.0.0
spelled_some (Literal (Dur n)) s h =
    let d = h.2 in
    let some = d.plain.0.0 in
    let k = ap (λ (l : List ℕ). length l) d.joined in
    omega (arith, length-append {A = ℕ})
spelled_some (Literal (Str text)) s h =
    ⊎_elim
    (λ (q : Quoted 39 text s). some_at s (in_quotes 39 text) q.0 (omega arith))
    (λ (q : Tripled text s). some_at s (codes "'''" ++ (text ++ codes "'''")) q.0 (omega arith))
    h
spelled_some (Literal (Truth b)) s h = some_at s (cond b (codes "TRUE") (codes "FALSE")) h (truth_some b)
spelled_some (Literal (Regex text)) s h = some_at s (in_quotes 47 text) h.0.0 (omega arith)
spelled_some (Reference text) s h = some_at s (in_quotes 34 text) h.0 (omega arith)
spelled_some (Operator op) s h = some_at s (operator_bytes op) h (operator_some op)
spelled_some Not s h = some_at s (codes "!") h (omega arith)
spelled_some Assign s h = some_at s (codes "=") h (omega arith)
spelled_some OpenParen s h = some_at s (codes "(") h (omega arith)
spelled_some CloseParen s h = some_at s (codes ")") h (omega arith)
spelled_some Comma s h = some_at s (codes ",") h (omega arith)
spelled_some Dot s h = some_at s (codes ".") h (omega arith)
spelled_some Pipe s h = some_at s (codes "|") h (omega arith)

-- what is found behind the gap of a text
pub lexeme_of : (pattern : Bool) (at : ℕ) (text : List ℕ) (kind : Kind) (n : ℕ) → skipped text false ≢ [] → front pattern at (skipped text false) ≡ Took kind n → Lexeme pattern kind n (skipped text false)
lexeme_of pattern at text kind n some h =
    let s = front_sound pattern at (skipped text false) some (skipped_white text false) (skipped_quiet text false) in
    s.took kind n h

failure_of : (pattern : Bool) (at : ℕ) (text : List ℕ) (fault : LexFault) → skipped text false ≢ [] → front pattern at (skipped text false) ≡ Bad fault → Failure pattern at (skipped text false) fault
failure_of pattern at text fault some h =
    let s = front_sound pattern at (skipped text false) some (skipped_white text false) (skipped_quiet text false) in
    s.bad fault h

-- where nothing is left no token is found
took_some : (pattern : Bool) (at : ℕ) (l : List ℕ) (kind : Kind) (n : ℕ) → front pattern at l ≡ Took kind n → l ≢ []
took_some pattern at l kind n h = λ (z : l ≡ []).
    let there = sym (ap (λ (x : List ℕ). front pattern at x) z) ∙ h in
    cc

-- the place behind the gap
gap_place : (at : ℕ) (text : List ℕ) (g : Gap text Between false) → at + (length text - length (skipped text false)) ≡ at + length g.gap
gap_place at text g =
    let sizes = ap (λ (l : List ℕ). length l) g.joined ∙ length-append g.gap (skipped text false) in
    omega arith

reads_at : (ts : List Token) (ending : Ending) (pattern : Bool) (at : ℕ) (text other : List ℕ) → text ≡ other → ContinuesWith ts ending pattern at text → ContinuesWith ts ending pattern at other
reads_at ts ending pattern at text other e h = subst (λ (l : List ℕ). ContinuesWith ts ending pattern at l) e h

-- what the lexer runs through is what the text reads as
pub reads_of : (ts : List Token) (ending : Ending) (pattern : Bool) (at : ℕ) (text : List ℕ) → Runs ts ending pattern at text → ContinuesWith ts ending pattern at text
reads_of [] Whole pattern at text h =
    let g = gap_of text in
    subst (λ (l : List ℕ). IsGap true l Between) (sym (g.joined ∙ ap (λ (l : List ℕ). g.gap ++ l) h ∙ append-nil g.gap)) (g.is_end h)
reads_of [] (Fault fault) pattern at text h =
    let g = gap_of text in
    let f = failure_of pattern (at + (length text - length (skipped text false))) text fault h.0 h.1 in
    record { gap = g.gap; rest = skipped text false; joined = g.joined; is_gap = g.is_gap h.0; begins = f.begins; place = f.place ∙ gap_place at text g }
reads_of (t ∷ ts) ending pattern at text h =
    let g = gap_of text in
    let left = skipped text false in
    let some = took_some pattern t.start left t.kind h.0 h.1 in
    let l = lexeme_of pattern t.start text t.kind h.0 some h.1 in
    let size = l.size in
    let stop : t.«end» ≡ t.start + length l.bytes = let e = h.3 in omega arith in
    let rest : drop h.0 left ≡ l.rest =
    ap (λ (n : ℕ). drop n left) size ∙ ap (λ (x : List ℕ). drop (length l.bytes) x) l.joined ∙ drop-append_seam l.bytes l.rest in
    let next : Next pattern at text t l.rest = record {
      gap = g.gap;
      bytes = l.bytes;
      joined = g.joined ∙ ap (λ (x : List ℕ). g.gap ++ x) l.joined;
      is_gap = g.is_gap some;
      spelled = l.spelled;
      ends = l.ends;
      allowed = l.allowed;
      begins = h.2 ∙ gap_place at text g;
      stops = stop;
    } in
    (l.rest, next, reads_at ts ending (takes_pattern t.kind) t.«end» (drop h.0 left) l.rest rest (reads_of ts ending (takes_pattern t.kind) t.«end» (drop h.0 left) h.4))

runs_at : (ts : List Token) (ending : Ending) (pattern : Bool) (at : ℕ) (text other : List ℕ) → text ≡ other → Runs ts ending pattern at text → Runs ts ending pattern at other
runs_at ts ending pattern at text other e h = subst (λ (l : List ℕ). Runs ts ending pattern at l) e h

place_behind : (at : ℕ) (text gap rest : List ℕ) → text ≡ gap ++ rest → skipped text false ≡ rest → at + (length text - length (skipped text false)) ≡ at + length gap
place_behind at text gap rest e s =
    let sizes = ap (λ (l : List ℕ). length l) e ∙ length-append gap rest in
    let size = ap (λ (l : List ℕ). length l) s in
    omega arith

-- what a text reads as is what the lexer runs through
pub runs_of : (ts : List Token) (ending : Ending) (pattern : Bool) (at : ℕ) (text : List ℕ) → ContinuesWith ts ending pattern at text → Runs ts ending pattern at text
runs_of [] Whole pattern at text h = ap (λ (l : List ℕ). skipped l false) (sym (append-nil text)) ∙ skip_last text h
runs_of [] (Fault fault) pattern at text h =
    let quiet = fault_gap fault pattern h.rest h.begins in
    let left : skipped text false ≡ h.rest = ap (λ (l : List ℕ). skipped l false) h.joined ∙ skip_before h.gap h.rest h.is_gap quiet in
    let place : at + (length text - length (skipped text false)) ≡ place_of fault = place_behind at text h.gap h.rest h.joined left ∙ sym h.place in (
      λ (z : skipped text false ≡ []). quiet.some (sym left ∙ z),
      ap (λ (n : ℕ). front pattern n (skipped text false)) place ∙ ap (λ (l : List ℕ). front pattern (place_of fault) l) left ∙ failed fault pattern h.rest h.begins,
    )
runs_of (t ∷ ts) ending pattern at text h =
    let rest = h.0 in
    let n = h.1 in
    let body = n.bytes ++ rest in
    let quiet = token_gap t.kind n.bytes rest n.spelled n.ends in
    let left : skipped text false ≡ body = ap (λ (l : List ℕ). skipped l false) n.joined ∙ skip_before n.gap body n.is_gap quiet in
    let place = place_behind at text n.gap body n.joined left in (
      length n.bytes,
      ap (λ (l : List ℕ). front pattern t.start l) left ∙ taken t.kind pattern t.start n.bytes rest n.spelled n.ends n.allowed,
      n.begins ∙ sym place,
      n.stops,
      runs_at ts ending (takes_pattern t.kind) t.«end» rest (drop (length n.bytes) (skipped text false)) (sym (ap (λ (l : List ℕ). drop (length n.bytes) l) left ∙ drop-append_seam n.bytes rest))
          (runs_of ts ending (takes_pattern t.kind) t.«end» rest h.2),
    )

same_token : (t u : Token) → t.kind ≡ u.kind → t.start ≡ u.start → t.«end» ≡ u.«end» → t ≡ u
same_token t u a b c =
    let one : t ≡ record { kind = u.kind; start = t.start; «end» = t.«end» } = ap (λ (k : Kind). record { kind = k; start = t.start; «end» = t.«end» }) a in
    let two : record { kind = u.kind; start = t.start; «end» = t.«end» } ≡ record { kind = u.kind; start = u.start; «end» = t.«end» } = ap (λ (n : ℕ). record { kind = u.kind; start = n; «end» = t.«end» }) b in
    let three : record { kind = u.kind; start = u.start; «end» = t.«end» } ≡ u = ap (λ (n : ℕ). record { kind = u.kind; start = u.start; «end» = n }) c in
    one ∙ two ∙ three

-- the lexer runs in one way
record Same (ts us : List Token) (e f : Ending) : Type 0 where
  pub tokens : ts ≡ us
  pub ending : e ≡ f

same_end : (e f : Ending) (pattern : Bool) (at : ℕ) (text : List ℕ) → Runs [] e pattern at text → Runs [] f pattern at text → e ≡ f
same_end Whole Whole pattern at text h k = refl
same_end Whole (Fault b) pattern at text h k = absurd (k.0 h)
same_end (Fault a) Whole pattern at text h k = absurd (h.0 k)
same_end (Fault a) (Fault b) pattern at text h k =
    let bads : Bad a ≡ Bad b = sym h.1 ∙ k.1 in
    let same : a ≡ b = cc in
    ap (λ (x : LexFault). Fault x) same

no_token : (ending : Ending) (pattern : Bool) (at : ℕ) (text : List ℕ) (t : Token) (ts : List Token) (other : Ending) → Runs [] ending pattern at text → Runs (t ∷ ts) other pattern at text → ⊥
no_token Whole pattern at text t ts other h k = took_some pattern t.start (skipped text false) t.kind k.0 k.1 h
no_token (Fault fault) pattern at text t ts other h k =
    let place : front pattern t.start (skipped text false) ≡ Bad fault = ap (λ (n : ℕ). front pattern n (skipped text false)) k.2 ∙ h.1 in
    let both : Bad fault ≡ Took t.kind k.0 = sym place ∙ k.1 in
    cc

same_runs : (ts us : List Token) (e f : Ending) (pattern : Bool) (at : ℕ) (text : List ℕ) → Runs ts e pattern at text → Runs us f pattern at text → Same ts us e f
same_runs [] [] e f pattern at text h k = record { tokens = refl; ending = same_end e f pattern at text h k }
same_runs [] (u ∷ us) e f pattern at text h k = absurd (no_token e pattern at text u us f h k)
same_runs (t ∷ ts) [] e f pattern at text h k = absurd (no_token f pattern at text t ts e k h)
same_runs (t ∷ ts) (u ∷ us) e f pattern at text h k =
    let left = skipped text false in
    let starts_same : t.start ≡ u.start = h.2 ∙ sym k.2 in
    let fronts : Took t.kind h.0 ≡ Took u.kind k.0 = sym h.1 ∙ ap (λ (n : ℕ). front pattern n left) starts_same ∙ k.1 in
    let kinds : t.kind ≡ u.kind = cc in
    let sizes : h.0 ≡ k.0 = cc in
    let ends_same : t.«end» ≡ u.«end» = let a = h.3 in let b = k.3 in omega arith in
    let first : t ≡ u = same_token t u kinds starts_same ends_same in
    let P : Token → Type 0 = λ x. Runs us f (takes_pattern x.kind) x.«end» (drop k.0 left) in
    let moved : Runs us f (takes_pattern t.kind) t.«end» (drop k.0 left) = subst P (sym first) k.4 in
    let there = runs_at us f (takes_pattern t.kind) t.«end» (drop k.0 left) (drop h.0 left) (ap (λ (n : ℕ). drop n left) (sym sizes)) moved in
    let rest = same_runs ts us e f (takes_pattern t.kind) t.«end» (drop h.0 left) h.4 there in
    record { tokens = ap (λ (x : Token). x ∷ ts) first ∙ ap (λ (l : List Token). u ∷ l) rest.tokens; ending = rest.ending }

same_reads : (ts us : List Token) (e f : Ending) (text : List ℕ) → ContinuesWith ts e false 0 text → ContinuesWith us f false 0 text → Same ts us e f
same_reads ts us e f text h k = same_runs ts us e f false 0 text (runs_of ts e false 0 text h) (runs_of us f false 0 text k)

pub one_list : (text : List ℕ) (a b : List Token) → HasTokens text a → HasTokens text b → a ≡ b
one_list text a b h k = let s = same_reads a b Whole Whole text h k in s.tokens

pub one_fault : (text : List ℕ) (a b : LexFault) → HasFirstFault text a → HasFirstFault text b → a ≡ b
one_fault text a b h k = let s = same_reads h.0 k.0 (Fault a) (Fault b) text h.1 k.1 in let e = s.ending in cc

pub not_both : (text : List ℕ) (tokens : List Token) (fault : LexFault) → HasTokens text tokens → HasFirstFault text fault → ⊥
not_both text tokens fault h k = let s = same_reads tokens k.0 Whole (Fault fault) text h k.1 in let e = s.ending in cc

-- the lexer runs through each text
record Through (pattern : Bool) (at : ℕ) (text : List ℕ) : Type 0 where
  pub tokens : List Token
  pub ending : Ending
  pub runs : Runs tokens ending pattern at text

skipped_fits : (text : List ℕ) → length (skipped text false) ≤ length text
skipped_fits text =
    let g = gap_of text in
    let sizes = ap (λ (l : List ℕ). length l) g.joined ∙ length-append g.gap (skipped text false) in
    omega arith

through_on : (limit : ℕ) (text : List ℕ) (pattern : Bool) (at start : ℕ) (found : Found) → skipped text false ≢ [] → start ≡ at + (length text - length (skipped text false)) → front pattern start (skipped text false) ≡ found → length text ≤ suc limit
    → ((rest : List ℕ) (next : Bool) (place : ℕ) → length rest ≤ limit → Through next place rest) → Through pattern at text
through_on limit text pattern at start (Bad fault) some place h size more = record {
  tokens = [];
  ending = Fault fault;
  runs = (some, ap (λ (n : ℕ). front pattern n (skipped text false)) (sym place) ∙ h);
}
through_on limit text pattern at start (Took kind n) some place h size more =
    let left = skipped text false in
    let l = lexeme_of pattern start text kind n some h in
    let one = spelled_some kind l.bytes l.spelled in
    let sizes = ap (λ (x : List ℕ). length x) l.joined ∙ length-append l.bytes l.rest in
    let same : drop n left ≡ l.rest = ap (λ (k : ℕ). drop k left) l.size ∙ ap (λ (x : List ℕ). drop (length l.bytes) x) l.joined ∙ drop-append_seam l.bytes l.rest in
    let rest_size = ap (λ (x : List ℕ). length x) same in
    let fits = skipped_fits text in
    let token : Token = record { kind = kind; start = start; «end» = start + n } in
    let t = more (drop n left) (takes_pattern kind) (start + n) (omega arith) in
    record { tokens = token ∷ t.tokens; ending = t.ending; runs = (n, h, place, refl, t.runs) }

through : (limit : ℕ) (text : List ℕ) (pattern : Bool) (at : ℕ) → length text ≤ limit → Through pattern at text
through zero text pattern at size =
    let fits = skipped_fits text in
    let none : (l : List ℕ) → length l ≤ 0 → l ≡ [] = elim [ [] ↦ λ h. refl | b ∷ l ↦ λ h. absurd (omega arith) ] in
    record { tokens = []; ending = Whole; runs = none (skipped text false) (omega arith) }
through (suc limit) text pattern at size =
    let more = λ (rest : List ℕ) (next : Bool) (place : ℕ) (h : length rest ≤ limit). through limit rest next place h in
    let start = at + (length text - length (skipped text false)) in
    let go : (l : List ℕ) → skipped text false ≡ l → Through pattern at text =
    elim [
      | [] ↦ λ e. record { tokens = []; ending = Whole; runs = e }
      | b ∷ l ↦ λ e.
          let some : skipped text false ≢ [] = λ (z : skipped text false ≡ []). cc in
          through_on limit text pattern at start (front pattern start (skipped text false)) some refl refl size more
    ] in
    go (skipped text false) refl

has_one : (text : List ℕ) (tokens : List Token) (ending : Ending) → ContinuesWith tokens ending false 0 text → ((ts : List Token) × HasTokens text ts) ⊎ ((fault : LexFault) × HasFirstFault text fault)
has_one text tokens Whole h = inl (tokens, h)
has_one text tokens (Fault fault) h = inr (fault, (tokens, h))

pub some_answer : (text : List ℕ) → ((tokens : List Token) × HasTokens text tokens) ⊎ ((fault : LexFault) × HasFirstFault text fault)
some_answer text =
    let t = through (length text) text false 0 (omega arith) in
    has_one text t.tokens t.ending (reads_of t.tokens t.ending false 0 text t.runs)

-- the slice of a token that stands behind some text
slice_behind : (front bytes rest : List ℕ) → take (length front + length bytes - length front) (drop (length front) (front ++ (bytes ++ rest))) ≡ bytes
slice_behind front bytes rest =
    let size : length front + length bytes - length front ≡ length bytes = omega arith in
    ap (λ (n : ℕ). take n (drop (length front) (front ++ (bytes ++ rest)))) size
    ∙ ap (λ (l : List ℕ). take (length bytes) l) (drop-append_seam front (bytes ++ rest))
    ∙ take-append_seam bytes rest

-- a text's tokens stand in their places
pub in_place : (ts : List Token) (ending : Ending) (pattern : Bool) (at : ℕ) (text before rest : List ℕ) → text ≡ before ++ rest → at ≡ length before → ContinuesWith ts ending pattern at rest → AreInPlace text at ts
in_place [] ending pattern at text before rest e p h = tt
in_place (t ∷ ts) ending pattern at text before rest e p h =
    let back = h.0 in
    let n = h.1 in
    let front = before ++ n.gap in
    let whole : text ≡ front ++ (n.bytes ++ back) = e ∙ ap (λ (l : List ℕ). before ++ l) n.joined ∙ sym (append_assoc before n.gap (n.bytes ++ back)) in
    let all : text ≡ (front ++ n.bytes) ++ back = whole ∙ sym (append_assoc front n.bytes back) in
    let sizes = ap (λ (l : List ℕ). length l) whole ∙ length-append front (n.bytes ++ back) in
    let more = length-append n.bytes back in
    let wide = length-append before n.gap in
    let start : t.start ≡ length front = let b = n.begins in omega arith in
    let stop : t.«end» ≡ length front + length n.bytes = let s = n.stops in omega arith in
    let some = spelled_some t.kind n.bytes n.spelled in
    let is : take (t.«end» - t.start) (drop t.start text) ≡ n.bytes =
    ap (λ (k : ℕ). take (k - t.start) (drop t.start text)) stop
    ∙ ap (λ (k : ℕ). take (length front + length n.bytes - k) (drop k text)) start
    ∙ ap (λ (l : List ℕ). take (length front + length n.bytes - length front) (drop (length front) l)) whole
    ∙ slice_behind front n.bytes back in
    let ends : t.«end» ≡ length (front ++ n.bytes) = let k = length-append front n.bytes in omega arith in (
      omega arith,
      omega arith,
      omega arith,
      subst (λ (l : List ℕ). Spelled t.kind l) (sym is) n.spelled,
      in_place ts ending (takes_pattern t.kind) t.«end» text (front ++ n.bytes) back all ends h.2,
    )

pub tokens_in_place : (text : List ℕ) (tokens : List Token) → HasTokens text tokens → AreInPlace text 0 tokens
tokens_in_place text tokens h = in_place tokens Whole false 0 text [] text refl refl h
