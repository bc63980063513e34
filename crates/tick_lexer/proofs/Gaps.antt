-- Gaps: what is skipped is one, and one is skipped whole.
use Rattle.std.proofs.Common.{◌≡◌, ◌≢◌, ◌⊎◌, inl, inr, ⊎_elim, ℕ, ◌<◌, Bool, true, false, cond, eqb, not, ◌&&◌, ◌||◌, List, [], ◌∷◌, ◌++◌, refl, sym, ap, ◌∙◌, subst, arith, append_assoc, codes}
use Rattle.std.proofs.lemmas.Bool.Decides.{nat_tests}
use Rattle.std.specs.Str.Parse.{IsNumeral}
use Rattle.std.specs.Char.{digit_value}
use Rattle.kap_base.specs.declared.expr.Lit.TheVariants.{Int, Dur, Str, Bool as Truth, Regex}
use Rattle.kap_base.specs.declared.expr.Op.{Op}
use Rattle.kap_base.specs.declared.expr.Op.TheVariants.{Or, And, Eq, Ne, Match, NoMatch, Lt, Le, Gt, Ge, Add, Sub, Mul, Div, Rem}
use Rattle.tick_lexer.specs.declared.token.Kind.{Kind}
use Rattle.tick_lexer.specs.declared.token.Kind.TheVariants.{Ident, Var, Lambda, Literal, Reference, Operator, Not, Assign, OpenParen, CloseParen, Comma, Dot, Pipe}
use Rattle.tick_lexer.specs.declared.token.LexFault.{LexFault}
use Rattle.tick_lexer.specs.declared.token.LexFault.TheVariants.{BadChar, OpenString, OpenRegex, BadNumber, FloatLiteral, OctalLiteral, WideInt, WideDuration, UserFunction, NoMemory}
use Rattle.tick_lexer.specs.Bytes.{is_letter, is_word, is_white, is_mark, starts, starts_three}
use Rattle.tick_lexer.specs.Spelling.{IsName, unit_bytes, operator_bytes, escaped, Quoted, Tripled, Spelled, is_slash, EndsToken}
use Rattle.tick_lexer.specs.Script.{Place, Between, Slash, Comment, IsGap, IsOpenThree, IsOpen, BeginsBadToken, BeginsBadNumber}
use Rattle.tick_lexer.specs.Runs.{begins_comment, skipped}
use Rattle.tick_lexer.proofs.Choices.{cond_true, cond_false, choose, or_false, and_true, and_left, is_same, other_test, not_same}
use Rattle.tick_lexer.proofs.Signs.{in_quotes}

-- no gap begins here, and something stands here
pub record NoGap (text : List ℕ) : Type 0 where
  pub stays : skipped text false ≡ text
  pub some : text ≢ []

cons_some : (b : ℕ) (bs : List ℕ) → (b ∷ bs) ≢ []
cons_some b bs = λ (h : (b ∷ bs) ≡ []). cc

first_gap : (b : ℕ) (bs : List ℕ) → is_white b ≡ false → begins_comment (b ∷ bs) ≡ false → NoGap (b ∷ bs)
first_gap b bs h k = record {
  stays =
      cond_false (is_white b) (skipped bs false) (cond (begins_comment (b ∷ bs)) (skipped bs true) (b ∷ bs)) h
      ∙ cond_false (begins_comment (b ∷ bs)) (skipped bs true) (b ∷ bs) k;
  some = cons_some b bs;
}

no_comment : (b : ℕ) (bs : List ℕ) → eqb b 47 ≡ false → begins_comment (b ∷ bs) ≡ false
no_comment b bs h = and_left (eqb b 47) (starts is_slash bs) h

other_gap : (b : ℕ) (bs : List ℕ) → is_white b ≡ false → eqb b 47 ≡ false → NoGap (b ∷ bs)
other_gap b bs h k = first_gap b bs h (no_comment b bs k)

letter_first : (b : ℕ) → is_letter b ≡ true → (is_white b ≡ false) × (eqb b 47 ≡ false)
letter_first b h = (grind (arith, nat_tests), grind (arith, nat_tests))

digit_first : (b : ℕ) → digit_value b < 10 → (is_white b ≡ false) × (eqb b 47 ≡ false)
digit_first b h = (grind (arith, nat_tests), grind (arith, nat_tests))

name_gap : (name rest : List ℕ) → IsName name → NoGap (name ++ rest)
name_gap [] rest h = elim h [ ]
name_gap (b ∷ bs) rest h = let f = letter_first b h.0 in other_gap b (bs ++ rest) f.0 f.1

numeral_gap : (s rest : List ℕ) → IsNumeral 10 s → NoGap (s ++ rest)
numeral_gap [] rest h = let e = h.0 in absurd (omega arith)
numeral_gap (b ∷ bs) rest h = let all = h.1 in let f = digit_first b all.0 in other_gap b (bs ++ rest) f.0 f.1

at_text : (s t : List ℕ) → s ≡ t → NoGap t → NoGap s
at_text s t e h = subst NoGap (sym e) h

at_bytes : (s t rest : List ℕ) → s ≡ t → NoGap (t ++ rest) → NoGap (s ++ rest)
at_bytes s t rest e h = subst (λ (l : List ℕ). NoGap (l ++ rest)) (sym e) h

truth_gap : (b : Bool) (rest : List ℕ) → NoGap (cond b (codes "TRUE") (codes "FALSE") ++ rest)
truth_gap true rest = other_gap 84 (82 ∷ 85 ∷ 69 ∷ rest) refl refl
truth_gap false rest = other_gap 70 (65 ∷ 76 ∷ 83 ∷ 69 ∷ rest) refl refl

pattern_gap : (text back : List ℕ) → text ≢ [] → starts is_slash ((escaped 47 text ++ 47 ∷ []) ++ back) ≡ false
pattern_gap [] back ne = absurd (ne refl)
pattern_gap (c ∷ text) back ne =
    let more = escaped 47 text in
    let P : List ℕ → Type 0 = λ l. starts is_slash ((l ++ 47 ∷ []) ++ back) ≡ false in
    choose P (eqb c 47) (92 ∷ c ∷ more) (c ∷ more) (λ e. refl) (λ e. e)

operator_gap : (op : Op) (s rest : List ℕ) → EndsToken (Operator op) s rest → NoGap (operator_bytes op ++ rest)
operator_gap Or s rest e = other_gap 79 (82 ∷ rest) refl refl
operator_gap And s rest e = other_gap 65 (78 ∷ 68 ∷ rest) refl refl
operator_gap Eq s rest e = other_gap 61 (61 ∷ rest) refl refl
operator_gap Ne s rest e = other_gap 33 (61 ∷ rest) refl refl
operator_gap Match s rest e = other_gap 61 (126 ∷ rest) refl refl
operator_gap NoMatch s rest e = other_gap 33 (126 ∷ rest) refl refl
operator_gap Lt s rest e = other_gap 60 rest refl refl
operator_gap Le s rest e = other_gap 60 (61 ∷ rest) refl refl
operator_gap Gt s rest e = other_gap 62 rest refl refl
operator_gap Ge s rest e = other_gap 62 (61 ∷ rest) refl refl
operator_gap Add s rest e = other_gap 43 rest refl refl
operator_gap Sub s rest e = other_gap 45 rest refl refl
operator_gap Mul s rest e = other_gap 42 rest refl refl
operator_gap Div s rest e = first_gap 47 rest refl e
operator_gap Rem s rest e = other_gap 37 rest refl refl

string_gap : (text s rest : List ℕ) → Quoted 39 text s ⊎ Tripled text s → NoGap (s ++ rest)
string_gap text s rest h =
    ⊎_elim
    (λ (q : Quoted 39 text s). at_bytes s (in_quotes 39 text) rest q.0 (other_gap 39 ((escaped 39 text ++ 39 ∷ []) ++ rest) refl refl))
    (λ (q : Tripled text s). at_bytes s (codes "'''" ++ (text ++ codes "'''")) rest q.0 (other_gap 39 (39 ∷ 39 ∷ ((text ++ codes "'''") ++ rest)) refl refl))
    h

-- no token begins a gap
pub token_gap : (kind : Kind) (s rest : List ℕ) → Spelled kind s → EndsToken kind s rest → NoGap (s ++ rest)
token_gap (Ident name) s rest h e = at_bytes s name rest h.0 (name_gap name rest h.1)
token_gap Var s rest h e = at_bytes s (codes "var") rest h (other_gap 118 (97 ∷ 114 ∷ rest) refl refl)
token_gap Lambda s rest h e = at_bytes s (codes "lambda:") rest h (name_gap (codes "lambda") (58 ∷ rest) (refl, (refl, (refl, (refl, (refl, (refl, tt)))))))
token_gap (Literal (Int n)) s rest h e = let plain = h.0 in numeral_gap s rest plain.0
token_gap (Literal (Dur n)) s rest h e =
    let d = h.2 in
    at_text (s ++ rest) (d.digits ++ (unit_bytes d.unit ++ rest)) (ap (λ (l : List ℕ). l ++ rest) d.joined ∙ append_assoc d.digits (unit_bytes d.unit) rest) (numeral_gap d.digits (unit_bytes d.unit ++ rest) d.plain.0)
token_gap (Literal (Str text)) s rest h e = string_gap text s rest h
token_gap (Literal (Truth b)) s rest h e = at_bytes s (cond b (codes "TRUE") (codes "FALSE")) rest h (truth_gap b rest)
token_gap (Literal (Regex text)) s rest h e =
    at_bytes s (in_quotes 47 text) rest h.0.0 (first_gap 47 ((escaped 47 text ++ 47 ∷ []) ++ rest) refl (pattern_gap text rest h.1))
token_gap (Reference text) s rest h e = at_bytes s (in_quotes 34 text) rest h.0 (other_gap 34 ((escaped 34 text ++ 34 ∷ []) ++ rest) refl refl)
token_gap (Operator op) s rest h e = at_bytes s (operator_bytes op) rest h (operator_gap op s rest e)
token_gap Not s rest h e = at_bytes s (codes "!") rest h (other_gap 33 rest refl refl)
token_gap Assign s rest h e = at_bytes s (codes "=") rest h (other_gap 61 rest refl refl)
token_gap OpenParen s rest h e = at_bytes s (codes "(") rest h (other_gap 40 rest refl refl)
token_gap CloseParen s rest h e = at_bytes s (codes ")") rest h (other_gap 41 rest refl refl)
token_gap Comma s rest h e = at_bytes s (codes ",") rest h (other_gap 44 rest refl refl)
token_gap Dot s rest h e = at_bytes s (codes ".") rest h (other_gap 46 rest refl refl)
token_gap Pipe s rest h e = at_bytes s (codes "|") rest h (other_gap 124 rest refl refl)

open_gap : (quote : ℕ) (text : List ℕ) → is_white quote ≡ false → eqb quote 47 ≡ false → IsOpen quote text → NoGap text
open_gap quote text h k o = at_text text (quote ∷ o.rest) o.begins (other_gap quote o.rest h k)

number_gap : (fault : LexFault) (text : List ℕ) → BeginsBadNumber fault text → NoGap text
number_gap fault text b = let d = b.number in at_text text (b.digits ++ b.tail) d.joined (numeral_gap b.digits b.tail d.numeral)

no_slash : (b : ℕ) → is_mark b ≡ false → eqb b 47 ≡ false
no_slash b h =
    let go : (t : Bool) → eqb b 47 ≡ t → t ≡ false = elim [ true ↦ λ e. let mark : is_mark b ≡ true = ap is_mark (is_same b 47 e) in absurd (cc) | false ↦ λ e. refl ] in
    go (eqb b 47) refl

-- no fault begins in a gap
pub fault_gap : (fault : LexFault) (pattern : Bool) (text : List ℕ) → BeginsBadToken pattern fault text → NoGap text
fault_gap (BadChar at) pattern text h =
    let b = h.0 in
    let one = or_false (is_word b) (is_mark b || is_white b) h.3 in
    let two = or_false (is_mark b) (is_white b) one.1 in
    at_text text (b ∷ h.1) h.2 (other_gap b h.1 two.1 (no_slash b two.0))
fault_gap (OpenString at) pattern text h =
    ⊎_elim
    (λ (q : IsOpenThree text). at_text text (39 ∷ 39 ∷ 39 ∷ q.rest) q.begins (other_gap 39 (39 ∷ 39 ∷ q.rest) refl refl))
    (λ (q : ((starts_three text ≡ false) × IsOpen 39 text) ⊎ IsOpen 34 text).
    ⊎_elim
    (λ (r : (starts_three text ≡ false) × IsOpen 39 text). open_gap 39 text refl refl r.1)
    (λ (r : IsOpen 34 text). open_gap 34 text refl refl r)
    q)
    h
fault_gap (OpenRegex at) pattern text h = let o = h.1 in at_text text (47 ∷ o.rest) o.begins (first_gap 47 o.rest refl (h.2 o.rest o.begins))
fault_gap (UserFunction at) pattern text h = at_text text (64 ∷ h.0) h.1 (other_gap 64 h.0 refl refl)
fault_gap NoMemory pattern text h = elim h [ ]
fault_gap (BadNumber at) pattern text h = number_gap (BadNumber at) text h
fault_gap (FloatLiteral at) pattern text h = number_gap (FloatLiteral at) text h
fault_gap (OctalLiteral at) pattern text h = number_gap (OctalLiteral at) text h
fault_gap (WideInt at) pattern text h = number_gap (WideInt at) text h
fault_gap (WideDuration at) pattern text h = number_gap (WideDuration at) text h

abbrev in_comment : Place → Bool
in_comment Between = false
in_comment Slash = true
in_comment Comment = true

second_slash : (gap body : List ℕ) (last : Bool) → IsGap last gap Slash → starts is_slash (gap ++ body) ≡ true
second_slash [] body last h = elim h [ ]
second_slash (c ∷ gap) body last h = ap (λ (x : ℕ). eqb x 47) h.0

-- a gap is skipped whole
skip_gap : (gap : List ℕ) (place : Place) (last : Bool) (body : List ℕ) → IsGap last gap place → skipped body false ≡ body → (last ≡ true → body ≡ []) → skipped (gap ++ body) (in_comment place) ≡ body
skip_gap [] Between last body h quiet all = quiet
skip_gap [] Slash last body h quiet all = elim h [ ]
skip_gap [] Comment last body h quiet all = ap (λ (l : List ℕ). skipped l true) (all h) ∙ sym (all h)
skip_gap (b ∷ gap) Between last body h quiet all =
    let more = gap ++ body in
    ⊎_elim
    (λ (q : (is_white b ≡ true) × IsGap last gap Between).
    cond_true (is_white b) (skipped more false) (cond (begins_comment (b ∷ more)) (skipped more true) (b ∷ more)) q.0
    ∙ skip_gap gap Between last body q.1 quiet all)
    (λ (q : (b ≡ 47) × IsGap last gap Slash).
    ap (λ (x : ℕ). skipped (x ∷ more) false) q.0
    ∙ cond_true (starts is_slash more) (skipped more true) (47 ∷ more) (second_slash gap body last q.1)
    ∙ skip_gap gap Slash last body q.1 quiet all)
    h
skip_gap (b ∷ gap) Slash last body h quiet all =
    ap (λ (x : ℕ). skipped (gap ++ body) (not (eqb x 10))) h.0 ∙ skip_gap gap Comment last body h.1 quiet all
skip_gap (b ∷ gap) Comment last body h quiet all =
    ⊎_elim
    (λ (q : (b ≡ 10) × IsGap last gap Between).
    ap (λ (x : ℕ). skipped (gap ++ body) (not (eqb x 10))) q.0 ∙ skip_gap gap Between last body q.1 quiet all)
    (λ (q : (b ≢ 10) × IsGap last gap Comment).
    ap (λ (t : Bool). skipped (gap ++ body) (not t)) (other_test 10 b (λ (e : 10 ≡ b). q.0 (sym e))) ∙ skip_gap gap Comment last body q.1 quiet all)
    h

-- the gap before a token or a fault, and the one at the end
pub skip_before : (gap body : List ℕ) → IsGap false gap Between → NoGap body → skipped (gap ++ body) false ≡ body
skip_before gap body h quiet = skip_gap gap Between false body h quiet.stays (λ (e : false ≡ true). absurd (cc))

pub skip_last : (gap : List ℕ) → IsGap true gap Between → skipped (gap ++ []) false ≡ []
skip_last gap h = skip_gap gap Between true [] h refl (λ e. refl)

-- the gap at the front of a text
pub record Gap (text : List ℕ) (place : Place) (comment : Bool) : Type 0 where
  pub gap : List ℕ
  pub joined : text ≡ gap ++ skipped text comment
  pub is_gap : (skipped text comment ≢ []) → IsGap false gap place
  pub is_end : skipped text comment ≡ [] → IsGap true gap place

wider : (text front rest : List ℕ) (b : ℕ) → text ≡ front ++ rest → (b ∷ text) ≡ (b ∷ front) ++ rest
wider text front rest b e = ap (λ (l : List ℕ). b ∷ l) e

gap_between : (b : ℕ) (bs : List ℕ) → Gap bs Between false → (starts is_slash bs ≡ true → Gap bs Slash true) → Gap (b ∷ bs) Between false
gap_between b bs g slash =
    let P : List ℕ → Type 0 = λ s. (gap : List ℕ) × ((b ∷ bs) ≡ gap ++ s) × ((s ≢ []) → IsGap false gap Between) × (s ≡ [] → IsGap true gap Between) in
    let go : (t u : Bool) → is_white b ≡ t → (eqb b 47 && starts is_slash bs) ≡ u → P (cond t (skipped bs false) (cond u (skipped bs true) (b ∷ bs))) =
    elim [
      | true ↦ λ u e f. (b ∷ g.gap, wider bs g.gap (skipped bs false) b g.joined, (λ h. inl (e, g.is_gap h)), (λ h. inl (e, g.is_end h)))
      | false ↦ elim [
        | true ↦ λ e f.
            let both = and_true (eqb b 47) (starts is_slash bs) f in
            let s = slash both.1 in
            (b ∷ s.gap, wider bs s.gap (skipped bs true) b s.joined, (λ h. inr (is_same b 47 both.0, s.is_gap h)), (λ h. inr (is_same b 47 both.0, s.is_end h)))
        | false ↦ λ e f. ([], refl, (λ h. tt), (λ (h : (b ∷ bs) ≡ []). absurd (cc)))
      ]
    ] in
    let it = go (is_white b) (begins_comment (b ∷ bs)) refl refl in
    record { gap = it.0; joined = it.1; is_gap = it.2; is_end = it.3 }

gap_comment : (b : ℕ) (bs : List ℕ) → Gap bs Between false → Gap bs Comment true → Gap (b ∷ bs) Comment true
gap_comment b bs g c =
    let P : Bool → Type 0 = λ t. (gap : List ℕ) × ((b ∷ bs) ≡ gap ++ skipped bs (not t)) × ((skipped bs (not t) ≢ []) → IsGap false gap Comment) × (skipped bs (not t) ≡ [] → IsGap true gap Comment) in
    let go : (t : Bool) → eqb b 10 ≡ t → P t =
    elim [
      | true ↦ λ e. (b ∷ g.gap, wider bs g.gap (skipped bs false) b g.joined, (λ h. inl (is_same b 10 e, g.is_gap h)), (λ h. inl (is_same b 10 e, g.is_end h)))
      | false ↦ λ e. (b ∷ c.gap, wider bs c.gap (skipped bs true) b c.joined, (λ h. inr (not_same b 10 e, c.is_gap h)), (λ h. inr (not_same b 10 e, c.is_end h)))
    ] in
    let it = go (eqb b 10) refl in
    record { gap = it.0; joined = it.1; is_gap = it.2; is_end = it.3 }

gap_slash : (b : ℕ) (bs : List ℕ) → Gap bs Comment true → eqb b 47 ≡ true → Gap (b ∷ bs) Slash true
gap_slash b bs c e =
    let b_is : b ≡ 47 = is_same b 47 e in
    let feed : eqb b 10 ≡ false = ap (λ (x : ℕ). eqb x 10) b_is in
    let P : Bool → Type 0 = λ t. (gap : List ℕ) × ((b ∷ bs) ≡ gap ++ skipped bs (not t)) × ((skipped bs (not t) ≢ []) → IsGap false gap Slash) × (skipped bs (not t) ≡ [] → IsGap true gap Slash) in
    let it : P (eqb b 10) = subst P (sym feed) (b ∷ c.gap, wider bs c.gap (skipped bs true) b c.joined, (λ h. (b_is, c.is_gap h)), (λ h. (b_is, c.is_end h))) in
    record { gap = it.0; joined = it.1; is_gap = it.2; is_end = it.3 }

record Gaps (text : List ℕ) : Type 0 where
  pub between : Gap text Between false
  pub comment : Gap text Comment true
  pub slash : starts is_slash text ≡ true → Gap text Slash true

gaps : (text : List ℕ) → Gaps text
gaps [] = record {
  between = record { gap = []; joined = refl; is_gap = λ h. tt; is_end = λ h. tt };
  comment = record { gap = []; joined = refl; is_gap = λ h. absurd (h refl); is_end = λ h. refl };
  slash = λ (h : false ≡ true). absurd (cc);
}
gaps (b ∷ bs) =
    let g = gaps bs in
    record { between = gap_between b bs g.between g.slash; comment = gap_comment b bs g.between g.comment; slash = λ h. gap_slash b bs g.comment h }

-- what is skipped is a gap
pub gap_of : (text : List ℕ) → Gap text Between false
gap_of text = let g = gaps text in g.between

-- what is left begins no comment and no white space
pub skipped_quiet : (text : List ℕ) (comment : Bool) → begins_comment (skipped text comment) ≡ false
skipped_quiet [] comment = refl
skipped_quiet (b ∷ bs) true = skipped_quiet bs (not (eqb b 10))
skipped_quiet (b ∷ bs) false =
    let go : (t u : Bool) → begins_comment (b ∷ bs) ≡ u → begins_comment (cond t (skipped bs false) (cond u (skipped bs true) (b ∷ bs))) ≡ false =
    elim [ true ↦ λ u e. skipped_quiet bs false | false ↦ elim [ true ↦ λ e. skipped_quiet bs true | false ↦ λ e. e ] ] in
    go (is_white b) (begins_comment (b ∷ bs)) refl

pub skipped_white : (text : List ℕ) (comment : Bool) → starts is_white (skipped text comment) ≡ false
skipped_white [] comment = refl
skipped_white (b ∷ bs) true = skipped_white bs (not (eqb b 10))
skipped_white (b ∷ bs) false =
    let go : (t u : Bool) → is_white b ≡ t → starts is_white (cond t (skipped bs false) (cond u (skipped bs true) (b ∷ bs))) ≡ false =
    elim [ true ↦ λ u e. skipped_white bs false | false ↦ elim [ true ↦ λ e. skipped_white bs true | false ↦ λ e. e ] ] in
    go (is_white b) (begins_comment (b ∷ bs)) refl
