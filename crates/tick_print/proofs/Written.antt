-- Texts that are read as the tokens of marks, and how they are put together.
use Rattle.std.proofs.Common.{◌≡◌, inl, ℕ, ◌+◌, Bool, true, false, List, [], ◌∷◌, ◌++◌, length, refl, sym, ap, subst, arith, append_assoc}
use Rattle.tick_lexer.specs.declared.token.Kind.{Kind}
use Rattle.tick_lexer.specs.declared.token.Kind.TheVariants.{Ident}
use Rattle.tick_lexer.specs.declared.token.Token.{Token}
use Rattle.tick_lexer.specs.Bytes.{is_word, is_white, NotFirst}
use Rattle.tick_lexer.specs.Spelling.{Spelled, EndsToken, IsAllowed, takes_pattern, is_colon}
use Rattle.tick_lexer.specs.Script.{Whole, ContinuesWith}
use Rattle.tick_parser.specs.Grammar.{Mark, At, Free, Is, Agree}
use Rattle.tick_parser.proofs.Agreeing.{join}
use Rattle.tick_print.proofs.Printable.{CanName}

abbrev pub token_at : Kind → ℕ → List ℕ → Token
token_at kind at s = record { kind = kind; start = at; «end» = at + length s }

-- Before this rest, and from a place on where a pattern may stand if the first flag is set, the text is read as tokens
-- of these marks; the second flag says whether a pattern may follow.
pub record Written (text : List ℕ) (marks : List Mark) (pattern after : Bool) (at : ℕ) (rest : List ℕ) : Type 0 where
  pub tokens : List Token
  pub stop : ℕ
  pub agrees : Agree tokens marks
  pub reads : (more : List Token) → ContinuesWith more Whole after stop rest → ContinuesWith (tokens ++ more) Whole pattern at (text ++ rest)

-- one token
pub one : (kind : Kind) (m : Mark) (s rest : List ℕ) (pattern : Bool) (at : ℕ) → Is (token_at kind at s ∷ []) m → Spelled kind s → EndsToken kind s rest → IsAllowed pattern kind → Written s (m ∷ []) pattern (takes_pattern kind) at rest
one kind m s rest pattern at is spelled ends allowed = record {
  tokens = token_at kind at s ∷ [];
  stop = at + length s;
  agrees = (token_at kind at s ∷ [], [], refl, is, refl);
  reads = λ more h. (rest, record { gap = []; bytes = s; joined = refl; is_gap = tt; spelled = spelled; ends = ends; allowed = allowed; begins = omega arith; stops = refl }, h);
}

pub at_one : (kind : Kind) (s rest : List ℕ) (pattern : Bool) (at : ℕ) → Spelled kind s → EndsToken kind s rest → IsAllowed pattern kind → Written s (At kind at ∷ []) pattern (takes_pattern kind) at rest
at_one kind s rest pattern at spelled ends allowed = one kind (At kind at) s rest pattern at (refl, refl) spelled ends allowed

pub free_one : (kind : Kind) (s rest : List ℕ) (pattern : Bool) (at : ℕ) → Spelled kind s → EndsToken kind s rest → IsAllowed pattern kind → Written s (Free kind ∷ []) pattern (takes_pattern kind) at rest
free_one kind s rest pattern at spelled ends allowed = one kind (Free kind) s rest pattern at refl spelled ends allowed

-- what may not stand behind a name
abbrev pub NameEnds : List ℕ → Type 0
NameEnds rest = NotFirst is_word rest × NotFirst is_colon rest

pub at_name : (name rest : List ℕ) (pattern : Bool) (at : ℕ) → CanName name → NameEnds rest → Written name (At (Ident name) at ∷ []) pattern false at rest
at_name name rest pattern at h e = at_one (Ident name) name rest pattern at (refl, h.0, h.1) (e.0, λ q. e.1) tt

pub free_name : (name rest : List ℕ) (pattern : Bool) (at : ℕ) → CanName name → NameEnds rest → Written name (Free (Ident name) ∷ []) pattern false at rest
free_name name rest pattern at h e = free_one (Ident name) name rest pattern at (refl, h.0, h.1) (e.0, λ q. e.1) tt

moved : (ts us : List Token) (s t : List ℕ) (pattern : Bool) (at : ℕ) → ts ≡ us → s ≡ t → ContinuesWith ts Whole pattern at s → ContinuesWith us Whole pattern at t
moved ts us s t pattern at e f h =
    subst (λ (l : List Token). ContinuesWith l Whole pattern at t) e (subst (λ (l : List ℕ). ContinuesWith ts Whole pattern at l) f h)

-- two texts, one behind the other
pub both : (a b : List ℕ) (ms ns : List Mark) (p q r : Bool) (at : ℕ) (rest : List ℕ) → (w : Written a ms p q at (b ++ rest)) → Written b ns q r w.stop rest → Written (a ++ b) (ms ++ ns) p r at rest
both a b ms ns p q r at rest w v = record {
  tokens = w.tokens ++ v.tokens;
  stop = v.stop;
  agrees = join ms ns w.tokens v.tokens w.agrees v.agrees;
  reads = λ more h.
      moved (w.tokens ++ (v.tokens ++ more)) ((w.tokens ++ v.tokens) ++ more) (a ++ (b ++ rest)) ((a ++ b) ++ rest) p at (sym (append_assoc w.tokens v.tokens more)) (sym (append_assoc a b rest))
      (w.reads (v.tokens ++ more) (v.reads more h));
}

white_reads : (ts : List Token) (pattern : Bool) (at b : ℕ) (text : List ℕ) → is_white b ≡ true → ContinuesWith ts Whole pattern (at + 1) text → ContinuesWith ts Whole pattern at (b ∷ text)
white_reads [] pattern at b text w h = inl (w, h)
white_reads (t ∷ ts) pattern at b text w h =
    let next = h.1 in
    let begins = next.begins in
    (h.0, record { gap = b ∷ next.gap; bytes = next.bytes; joined = ap (λ (l : List ℕ). b ∷ l) next.joined; is_gap = inl (w, next.is_gap); spelled = next.spelled; ends = next.ends; allowed = next.allowed; begins = omega arith; stops = next.stops }, h.2)

-- a text behind white space
pub white : (b : ℕ) (text : List ℕ) (ms : List Mark) (p q : Bool) (at : ℕ) (rest : List ℕ) → is_white b ≡ true → Written text ms p q (at + 1) rest → Written (b ∷ text) ms p q at rest
white b text ms p q at rest h w = record {
  tokens = w.tokens;
  stop = w.stop;
  agrees = w.agrees;
  reads = λ more r. white_reads (w.tokens ++ more) p at b (text ++ rest) h (w.reads more r);
}
