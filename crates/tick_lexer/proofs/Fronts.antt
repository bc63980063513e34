-- The front of a text that begins no gap: each token and each fault that stands there is found, and what is found
-- stands there.
use Rattle.std.proofs.Common.{◌≡◌, ◌≢◌, ◌⊎◌, ⊎_elim, ℕ, Bool, true, false, cond, eqb, ◌&&◌, ◌||◌, List, [], ◌∷◌, ◌++◌, length, drop, refl, sym, ap, ◌∙◌, subst, arith, Option, codes}
use Rattle.kap_base.specs.declared.expr.Lit.TheVariants.{Int, Dur, Str, Bool as Truth, Regex}
use Rattle.kap_base.specs.declared.expr.Op.{Op}
use Rattle.kap_base.specs.declared.expr.Op.TheVariants.{Or, And, Eq, Ne, Match, NoMatch, Lt, Le, Gt, Ge, Add, Sub, Mul, Div, Rem}
use Rattle.tick_lexer.specs.declared.token.Kind.{Kind}
use Rattle.tick_lexer.specs.declared.token.Kind.TheVariants.{Ident, Var, Lambda, Literal, Reference, Operator, Not, Assign, OpenParen, CloseParen, Comma, Dot, Pipe}
use Rattle.tick_lexer.specs.declared.token.LexFault.{LexFault}
use Rattle.tick_lexer.specs.declared.token.LexFault.TheVariants.{BadChar, OpenString, OpenRegex, BadNumber, FloatLiteral, OctalLiteral, WideInt, WideDuration, UserFunction, NoMemory}
use Rattle.tick_lexer.specs.Bytes.{is_letter, is_digit, is_word, is_white, is_mark, starts, NotFirst, starts_three}
use Rattle.tick_lexer.specs.Spelling.{operator_bytes, Spelled, is_slash, is_equals, is_tilde, EndsToken, IsAllowed}
use Rattle.tick_lexer.specs.Script.{IsOpenThree, IsOpen, BeginsBadToken, place_of}
use Rattle.tick_lexer.specs.Front.{Found, Took, Bad, word, quoted, before_three, tripled, paired, mark, number, front}
use Rattle.tick_lexer.specs.Runs.{begins_comment}
use Rattle.tick_lexer.proofs.Choices.{cond_false, choose, or_false, both_false, and_left, and_rest, is_same, other_test}
use Rattle.tick_lexer.proofs.Three.{none_ends}
use Rattle.tick_lexer.proofs.Sound.{Sound}
use Rattle.tick_lexer.proofs.Words.{front_mark, front_name, ident_front, word_found, word_bad}
use Rattle.tick_lexer.proofs.Numbers.{int_front, duration_front, bad_number_front, number_sound}
use Rattle.tick_lexer.proofs.Signs.{in_quotes, quoted_front, open_front, string_front, mark_sound}

-- the spelling, put in place
at_spelling : (pattern : Bool) (at : ℕ) (s t rest : List ℕ) (kind : Kind) → s ≡ t → front pattern at (t ++ rest) ≡ Took kind (length t) → front pattern at (s ++ rest) ≡ Took kind (length s)
at_spelling pattern at s t rest kind e h = subst (λ (l : List ℕ). front pattern at (l ++ rest) ≡ Took kind (length l)) (sym e) h

operator_front : (pattern : Bool) (at : ℕ) (op : Op) (s rest : List ℕ) → EndsToken (Operator op) s rest → IsAllowed pattern (Operator op) → front pattern at (operator_bytes op ++ rest) ≡ Took (Operator op) (length (operator_bytes op))
operator_front pattern at Or s rest e a = front_name pattern at (codes "OR") rest (refl, (refl, tt)) e
operator_front pattern at And s rest e a = front_name pattern at (codes "AND") rest (refl, (refl, (refl, tt))) e
operator_front pattern at Eq s rest e a = refl
operator_front pattern at Ne s rest e a = refl
operator_front pattern at Match s rest e a = refl
operator_front pattern at NoMatch s rest e a = refl
operator_front pattern at Lt s rest e a = cond_false (starts is_equals rest) (Took (Operator Le) 2) (Took (Operator Lt) 1) e
operator_front pattern at Le s rest e a = refl
operator_front pattern at Gt s rest e a = cond_false (starts is_equals rest) (Took (Operator Ge) 2) (Took (Operator Gt) 1) e
operator_front pattern at Ge s rest e a = refl
operator_front pattern at Add s rest e a = refl
operator_front pattern at Sub s rest e a = refl
operator_front pattern at Mul s rest e a = refl
operator_front pattern at Div s rest e a = ap (λ (p : Bool). front p at (47 ∷ rest)) a
operator_front pattern at Rem s rest e a = refl

truth_front : (pattern : Bool) (at : ℕ) (b : Bool) (rest : List ℕ) → NotFirst is_word rest → front pattern at (cond b (codes "TRUE") (codes "FALSE") ++ rest) ≡ Took (Literal (Truth b)) (length (cond b (codes "TRUE") (codes "FALSE")))
truth_front pattern at true rest e = front_name pattern at (codes "TRUE") rest (refl, (refl, (refl, (refl, tt)))) e
truth_front pattern at false rest e = front_name pattern at (codes "FALSE") rest (refl, (refl, (refl, (refl, (refl, tt))))) e

alone : (first second kind : Kind) (rest : List ℕ) → NotFirst is_equals rest → NotFirst is_tilde rest → paired is_equals first is_tilde second kind rest ≡ Took kind 1
alone first second kind rest e f =
    cond_false (starts is_equals rest) (Took first 2) (cond (starts is_tilde rest) (Took second 2) (Took kind 1)) e
    ∙ cond_false (starts is_tilde rest) (Took second 2) (Took kind 1) f

-- a token that ends where it must is found
pub taken : (kind : Kind) (pattern : Bool) (at : ℕ) (s rest : List ℕ) → Spelled kind s → EndsToken kind s rest → IsAllowed pattern kind → front pattern at (s ++ rest) ≡ Took kind (length s)
taken (Ident name) pattern at s rest h e a = at_spelling pattern at s name rest (Ident name) h.0 (ident_front pattern at name rest h.1 h.2 e.0 e.1)
taken Var pattern at s rest h e a = at_spelling pattern at s (codes "var") rest Var h (front_name pattern at (codes "var") rest (refl, (refl, (refl, tt))) e)
taken Lambda pattern at s rest h e a =
    at_spelling pattern at s (codes "lambda:") rest Lambda h (front_name pattern at (codes "lambda") (58 ∷ rest) (refl, (refl, (refl, (refl, (refl, (refl, tt)))))) refl)
taken (Literal (Int n)) pattern at s rest h e a = int_front pattern at s rest h.0 e h.2 ∙ ap (λ x. Took (Literal (Int x)) (length s)) (sym h.1)
taken (Literal (Dur n)) pattern at s rest h e a = duration_front pattern at h.0 s rest h.2 h.3 e ∙ ap (λ x. Took (Literal (Dur x)) (length s)) (sym h.1)
taken (Literal (Str text)) pattern at s rest h e a = string_front pattern at text s rest h e
taken (Literal (Truth b)) pattern at s rest h e a = at_spelling pattern at s (cond b (codes "TRUE") (codes "FALSE")) rest (Literal (Truth b)) h (truth_front pattern at b rest e)
taken (Literal (Regex text)) pattern at s rest h e a =
    at_spelling pattern at s (in_quotes 47 text) rest (Literal (Regex text)) h.0.0
    (ap (λ (p : Bool). front p at (in_quotes 47 text ++ rest)) a
    ∙ quoted_front (λ t. Literal (Regex t)) (OpenRegex at) 47 text rest (omega arith) h.0.1)
taken (Reference text) pattern at s rest h e a = at_spelling pattern at s (in_quotes 34 text) rest (Reference text) h.0 (quoted_front Reference (OpenString at) 34 text rest (omega arith) h.1)
taken (Operator op) pattern at s rest h e a = at_spelling pattern at s (operator_bytes op) rest (Operator op) h (operator_front pattern at op s rest e a)
taken Not pattern at s rest h e a = at_spelling pattern at s (codes "!") rest Not h (alone (Operator Ne) (Operator NoMatch) Not rest e.0 e.1)
taken Assign pattern at s rest h e a = at_spelling pattern at s (codes "=") rest Assign h (alone (Operator Eq) (Operator Match) Assign rest e.0 e.1)
taken OpenParen pattern at s rest h e a = at_spelling pattern at s (codes "(") rest OpenParen h refl
taken CloseParen pattern at s rest h e a = at_spelling pattern at s (codes ")") rest CloseParen h refl
taken Comma pattern at s rest h e a = at_spelling pattern at s (codes ",") rest Comma h refl
taken Dot pattern at s rest h e a = at_spelling pattern at s (codes ".") rest Dot h refl
taken Pipe pattern at s rest h e a = at_spelling pattern at s (codes "|") rest Pipe h refl

-- no mark is another byte than a mark
other_mark : (b k : ℕ) → is_mark b ≡ false → is_mark k ≡ true → eqb b k ≡ false
other_mark b k h m =
    let go : (t : Bool) → eqb b k ≡ t → t ≡ false =
    elim [ true ↦ λ e. let same = ap is_mark (is_same b k e) in absurd (cc) | false ↦ λ e. refl ] in
    go (eqb b k) refl

skip : (P : Found → Type 0) (t : Bool) (x y : Found) → t ≡ false → P y → P (cond t x y)
skip P t x y h p = subst P (sym (cond_false t x y h)) p

bad_char : (pattern : Bool) (at b : ℕ) (rest : List ℕ) → is_word b ≡ false → is_mark b ≡ false → b ≢ 64 → front pattern at (b ∷ rest) ≡ Bad (BadChar at)
bad_char pattern at b rest w m u =
    let P : Found → Type 0 = λ f. f ≡ Bad (BadChar at) in
    let no = λ (k : ℕ) (h : is_mark k ≡ true). other_mark b k m h in
    front_mark pattern at b rest w
    ∙ skip P (eqb b 39) _ _ (no 39 refl)
    (skip P (eqb b 34) _ _ (no 34 refl)
    (skip P (eqb b 47 && pattern) _ _ (and_left (eqb b 47) pattern (no 47 refl))
    (skip P (eqb b 40) _ _ (no 40 refl)
    (skip P (eqb b 41) _ _ (no 41 refl)
    (skip P (eqb b 44) _ _ (no 44 refl)
    (skip P (eqb b 46) _ _ (no 46 refl)
    (skip P (eqb b 124) _ _ (no 124 refl)
    (skip P (eqb b 43) _ _ (no 43 refl)
    (skip P (eqb b 45) _ _ (no 45 refl)
    (skip P (eqb b 42) _ _ (no 42 refl)
    (skip P (eqb b 47) _ _ (no 47 refl)
    (skip P (eqb b 37) _ _ (no 37 refl)
    (skip P (eqb b 61) _ _ (no 61 refl)
    (skip P (eqb b 33) _ _ (no 33 refl)
    (skip P (eqb b 60) _ _ (no 60 refl)
    (skip P (eqb b 62) _ _ (no 62 refl)
    (skip P (eqb b 64) _ _ (other_test 64 b (λ (e : 64 ≡ b). u (sym e))) refl)))))))))))))))))

open_three : (pattern : Bool) (at : ℕ) (text : List ℕ) → IsOpenThree text → front pattern at text ≡ Bad (OpenString at)
open_three pattern at text h =
    ap (λ (l : List ℕ). front pattern at l) h.begins ∙ ap (λ (o : Option ℕ). tripled at h.rest o) (none_ends h.rest h.no_end)

open_single : (pattern : Bool) (at : ℕ) (text : List ℕ) → starts_three text ≡ false → IsOpen 39 text → front pattern at text ≡ Bad (OpenString at)
open_single pattern at text three h =
    let K : List ℕ → Kind = λ t. Literal (Str t) in
    let rest = h.rest in
    let single : starts_three (39 ∷ rest) ≡ false = sym (ap (λ (l : List ℕ). starts_three l) h.begins) ∙ three in
    ap (λ (l : List ℕ). front pattern at l) h.begins
    ∙ cond_false (starts_three (39 ∷ rest)) (tripled at (drop 2 rest) (before_three (drop 2 rest))) (quoted K (OpenString at) 39 rest) single
    ∙ open_front K (OpenString at) 39 rest (omega arith) (λ content s back e q. h.no_end content s back (h.begins ∙ e) q)

open_double : (pattern : Bool) (at : ℕ) (text : List ℕ) → IsOpen 34 text → front pattern at text ≡ Bad (OpenString at)
open_double pattern at text h =
    ap (λ (l : List ℕ). front pattern at l) h.begins ∙ open_front Reference (OpenString at) 34 h.rest (omega arith) (λ content s back e q. h.no_end content s back (h.begins ∙ e) q)

open_pattern : (pattern : Bool) (at : ℕ) (text : List ℕ) → pattern ≡ true → IsOpen 47 text → front pattern at text ≡ Bad (OpenRegex at)
open_pattern pattern at text p h =
    ap (λ (l : List ℕ). front pattern at l) h.begins
    ∙ ap (λ (t : Bool). front t at (47 ∷ h.rest)) p
    ∙ open_front (λ t. Literal (Regex t)) (OpenRegex at) 47 h.rest (omega arith) (λ content s back e q. h.no_end content s back (h.begins ∙ e) q)

-- a fault that begins is found
pub failed : (fault : LexFault) (pattern : Bool) (text : List ℕ) → BeginsBadToken pattern fault text → front pattern (place_of fault) text ≡ Bad fault
failed (BadChar at) pattern text h =
    let b = h.0 in
    let none = h.3 in
    let one = or_false (is_word b) (is_mark b || is_white b) none in
    let two = or_false (is_mark b) (is_white b) one.1 in
    ap (λ (l : List ℕ). front pattern at l) h.2 ∙ bad_char pattern at b h.1 one.0 two.0 h.4
failed (OpenString at) pattern text h =
    ⊎_elim
    (λ (q : IsOpenThree text). open_three pattern at text q)
    (λ (q : ((starts_three text ≡ false) × IsOpen 39 text) ⊎ IsOpen 34 text).
    ⊎_elim
    (λ (r : (starts_three text ≡ false) × IsOpen 39 text). open_single pattern at text r.0 r.1)
    (λ (r : IsOpen 34 text). open_double pattern at text r)
    q)
    h
failed (OpenRegex at) pattern text h = open_pattern pattern at text h.0 h.1
failed (UserFunction at) pattern text h = ap (λ (l : List ℕ). front pattern at l) h.1
failed NoMemory pattern text h = elim h [ ]
failed (BadNumber at) pattern text h = bad_number_front pattern (BadNumber at) text h
failed (FloatLiteral at) pattern text h = bad_number_front pattern (FloatLiteral at) text h
failed (OctalLiteral at) pattern text h = bad_number_front pattern (OctalLiteral at) text h
failed (WideInt at) pattern text h = bad_number_front pattern (WideInt at) text h
failed (WideDuration at) pattern text h = bad_number_front pattern (WideDuration at) text h

-- what is found stands there
pub front_sound : (pattern : Bool) (at : ℕ) (text : List ℕ) → text ≢ [] → starts is_white text ≡ false → begins_comment text ≡ false → Sound pattern at text (front pattern at text)
front_sound pattern at [] some white quiet = absurd (some refl)
front_sound pattern at (b ∷ rest) some white quiet =
    let P = Sound pattern at (b ∷ rest) in
    choose P (is_letter b) (word (b ∷ rest)) (cond (is_digit b) (number at (b ∷ rest)) (mark pattern at b rest))
    (λ e. record { took = λ kind n h. word_found pattern kind n b rest e h; bad = λ fault h. absurd (word_bad (b ∷ rest) fault h) })
    (λ e. choose P (is_digit b) (number at (b ∷ rest)) (mark pattern at b rest)
    (λ f. number_sound pattern at b rest f)
    (λ f. mark_sound pattern at b rest (both_false (is_letter b) (is_digit b) e f) white (λ g. and_rest (eqb b 47) (starts is_slash rest) g quiet)))
