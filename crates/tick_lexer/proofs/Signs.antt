-- Strings, references, patterns and signs: what is spelled as one is found, and what is found is spelled so;
-- likewise their faults.
use Rattle.std.proofs.Common.{◌≡◌, ◌≢◌, ◌⊎◌, inl, inr, ⊎_elim, ℕ, ◌+◌, Bool, true, false, eqb, ◌&&◌, ◌||◌, List, [], ◌∷◌, ◌++◌, length, drop, take, refl, sym, ap, ◌∙◌, subst, arith, append_assoc, length-append, Option, Some, None, codes}
use Rattle.std.proofs.Math.Seq.{take-append_seam}
use Rattle.kap_base.specs.declared.expr.Lit.TheVariants.{Str, Regex}
use Rattle.kap_base.specs.declared.expr.Op.TheVariants.{Eq, Ne, Match, NoMatch, Lt, Le, Gt, Ge, Add, Sub, Mul, Div, Rem}
use Rattle.tick_lexer.specs.declared.token.Kind.{Kind}
use Rattle.tick_lexer.specs.declared.token.Kind.TheVariants.{Literal, Reference, Operator, Not, Assign, OpenParen, CloseParen, Comma, Dot, Pipe}
use Rattle.tick_lexer.specs.declared.token.LexFault.{LexFault}
use Rattle.tick_lexer.specs.declared.token.LexFault.TheVariants.{BadChar, OpenString, OpenRegex, UserFunction}
use Rattle.tick_lexer.specs.Bytes.{is_word, is_white, is_mark, starts, NotFirst, starts_three}
use Rattle.tick_lexer.specs.Spelling.{escaped, EndsPlain, Quoted, Tripled, Spelled, is_single_quote, is_slash, is_equals, is_tilde, EndsToken, IsAllowed}
use Rattle.tick_lexer.specs.Script.{IsOpen}
use Rattle.tick_lexer.specs.Front.{Found, Took, Bad, Scan, Endless, Shut, scan, shut, quoted, before_three, tripled, string, sign, mark, front}
use Rattle.tick_lexer.proofs.Choices.{cond_false, choose, both_false, and_true, and_rest, is_same, not_same}
use Rattle.tick_lexer.proofs.Quotes.{shut_quoted, quoted_scan, endless_quoted}
use Rattle.tick_lexer.proofs.Three.{three_ends, ends_none, tripling, no_three}
use Rattle.tick_lexer.proofs.Sound.{Sound, sound_took, sound_bad}

-- the bytes of a quoted text
abbrev pub in_quotes : ℕ → List ℕ → List ℕ
in_quotes quote text = quote ∷ (escaped quote text ++ quote ∷ [])

-- a quoted text behind its first quote
pub quoted_front : (kind : List ℕ → Kind) (fault : LexFault) (quote : ℕ) (text rest : List ℕ) → quote ≢ 92 → EndsPlain text → quoted kind fault quote ((escaped quote text ++ quote ∷ []) ++ rest) ≡ Took (kind text) (length (in_quotes quote text))
quoted_front kind fault quote text rest ne h =
    ap (λ (x : Scan). shut kind fault x) (quoted_scan quote text rest ne h)
    ∙ ap (λ (n : ℕ). Took (kind text) n) (let k = length-append (escaped quote text) (quote ∷ []) in omega arith)

-- a quote without an end
pub open_front : (kind : List ℕ → Kind) (fault : LexFault) (quote : ℕ) (rest : List ℕ) → quote ≢ 92 → ((content s back : List ℕ) → (quote ∷ rest) ≡ s ++ back → Quoted quote content s → ⊥) → quoted kind fault quote rest ≡ Bad fault
open_front kind fault quote rest ne h =
    let go : (x : Scan) → scan quote rest false ≡ x → shut kind fault x ≡ Bad fault =
    elim [
      | Endless ↦ λ e. refl
      | Shut text n ↦ λ e.
          let s = shut_quoted quote rest text n ne e in
          absurd (h text (in_quotes quote text) s.rest (ap (λ (l : List ℕ). quote ∷ l) s.joined) (refl, s.plain))
    ] in
    go (scan quote rest false) refl

-- what is found at a quote
quoted_sound : (pattern : Bool) (at : ℕ) (kind : List ℕ → Kind) (fault : LexFault) (quote : ℕ) (rest : List ℕ) → quote ≢ 92
    → ((content back : List ℕ) → rest ≡ (escaped quote content ++ quote ∷ []) ++ back → Quoted quote content (in_quotes quote content) → Spelled (kind content) (in_quotes quote content) × EndsToken (kind content) (in_quotes quote content) back × IsAllowed pattern (kind content))
    → (IsOpen quote (quote ∷ rest) → Sound pattern at (quote ∷ rest) (Bad fault))
    → Sound pattern at (quote ∷ rest) (quoted kind fault quote rest)
quoted_sound pattern at kind fault quote rest ne good bad =
    let go : (x : Scan) → scan quote rest false ≡ x → Sound pattern at (quote ∷ rest) (shut kind fault x) =
    elim [
      | Endless ↦ λ e. bad (record { rest = rest; begins = refl; no_end = λ content s back f q. endless_quoted quote rest content s back ne e f q })
      | Shut text n ↦ λ e.
          let s = shut_quoted quote rest text n ne e in
          let it = good text s.rest s.joined (refl, s.plain) in
          sound_took pattern at (quote ∷ rest) (kind text) (n + 1) (record {
            bytes = in_quotes quote text;
            rest = s.rest;
            joined = ap (λ (l : List ℕ). quote ∷ l) s.joined;
            size = let k = length-append (escaped quote text) (quote ∷ []) in let z = s.size in omega arith;
            spelled = it.0;
            ends = it.1;
            allowed = it.2;
          })
    ] in
    go (scan quote rest false) refl

-- two single quotes before a third would be three
third_quote : (rest : List ℕ) → starts_three (39 ∷ 39 ∷ rest) ≡ starts is_single_quote rest
third_quote [] = refl
third_quote (c ∷ rest) = refl

-- a text in single quotes doesn't begin with three
single_three : (text rest : List ℕ) → (in_quotes 39 text ≡ codes "''" → NotFirst is_single_quote rest) → starts_three (39 ∷ ((escaped 39 text ++ 39 ∷ []) ++ rest)) ≡ false
single_three [] rest h = third_quote rest ∙ h refl
single_three (b ∷ text) rest h =
    let more = escaped 39 text in
    let P : List ℕ → Type 0 = λ l. starts_three (39 ∷ ((l ++ 39 ∷ []) ++ rest)) ≡ false in
    choose P (eqb b 39) (92 ∷ b ∷ more) (b ∷ more)
    (λ e. no_three 92 ((b ∷ (more ++ 39 ∷ [])) ++ rest) refl)
    (λ e. no_three b ((more ++ 39 ∷ []) ++ rest) e)

pub string_front : (pattern : Bool) (at : ℕ) (text s rest : List ℕ) → Quoted 39 text s ⊎ Tripled text s → (s ≡ codes "''" → NotFirst is_single_quote rest) → front pattern at (s ++ rest) ≡ Took (Literal (Str text)) (length s)
string_front pattern at text s rest h ends =
    let P : List ℕ → Type 0 = λ l. front pattern at (l ++ rest) ≡ Took (Literal (Str text)) (length l) in
    let single : Quoted 39 text s → P s = λ q.
    let body = (escaped 39 text ++ 39 ∷ []) ++ rest in
    let three = single_three text rest (λ e. ends (q.0 ∙ e)) in
    subst P (sym q.0)
    (cond_false (starts_three (39 ∷ body)) (tripled at (drop 2 body) (before_three (drop 2 body))) (quoted (λ t. Literal (Str t)) (OpenString at) 39 body) three
    ∙ quoted_front (λ t. Literal (Str t)) (OpenString at) 39 text rest (omega arith) q.1) in
    let triple : Tripled text s → P s = λ q.
    let body = text ++ (39 ∷ 39 ∷ 39 ∷ rest) in
    let flat : (text ++ codes "'''") ++ rest ≡ body = append_assoc text (codes "'''") rest in
    let size : length text + 6 ≡ length (codes "'''" ++ (text ++ codes "'''")) = let k = length-append text (codes "'''") in omega arith in
    let taken : take (length text) body ≡ text = take-append_seam text (39 ∷ 39 ∷ 39 ∷ rest) in
    subst P (sym q.0)
    (ap (λ (l : List ℕ). tripled at l (before_three l)) flat
    ∙ ap (λ (o : Option ℕ). tripled at body o) (three_ends text rest q.1)
    ∙ ap (λ (l : List ℕ). Took (Literal (Str l)) (length text + 6)) taken
    ∙ ap (λ (n : ℕ). Took (Literal (Str text)) n) size) in
    ⊎_elim single triple h

-- three quotes at the front
three_first : (b : ℕ) (rest : List ℕ) → starts_three (b ∷ rest) ≡ true → (back : List ℕ) × (rest ≡ 39 ∷ 39 ∷ back)
three_first b [] h = absurd (cc)
three_first b (c ∷ []) h = absurd (cc)
three_first b (c ∷ d ∷ back) h =
    let one = and_true (eqb b 39) (eqb c 39 && eqb d 39) h in
    let two = and_true (eqb c 39) (eqb d 39) one.1 in
    (back, ap (λ (x : ℕ). x ∷ d ∷ back) (is_same c 39 two.0) ∙ ap (λ (x : ℕ). 39 ∷ x ∷ back) (is_same d 39 two.1))

tripled_sound : (pattern : Bool) (at : ℕ) (back : List ℕ) (o : Option ℕ) → before_three back ≡ o → Sound pattern at (39 ∷ 39 ∷ 39 ∷ back) (tripled at back o)
tripled_sound pattern at back None e = sound_bad pattern at (39 ∷ 39 ∷ 39 ∷ back) (OpenString at) (inl (record { rest = back; begins = refl; no_end = ends_none back e })) refl
tripled_sound pattern at back (Some n) e =
    let t = tripling back n e in
    let is : take n back ≡ t.text = ap (λ (k : ℕ). take k back) t.size ∙ ap (λ (l : List ℕ). take (length t.text) l) t.joined ∙ take-append_seam t.text (39 ∷ 39 ∷ 39 ∷ t.rest) in
    let s = codes "'''" ++ (t.text ++ codes "'''") in
    let P : List ℕ → Type 0 = λ l. Sound pattern at (39 ∷ 39 ∷ 39 ∷ back) (Took (Literal (Str l)) (n + 6)) in
    subst P (sym is) (sound_took pattern at (39 ∷ 39 ∷ 39 ∷ back) (Literal (Str t.text)) (n + 6) (record {
      bytes = s;
      rest = t.rest;
      joined = ap (λ (l : List ℕ). 39 ∷ 39 ∷ 39 ∷ l) (t.joined ∙ sym (append_assoc t.text (codes "'''") t.rest));
      size = let k = length-append t.text (codes "'''") in let z = t.size in omega arith;
      spelled = inr (refl, t.plain);
      ends = λ (e : s ≡ codes "''"). let z = ap (λ (l : List ℕ). length l) e in absurd (omega arith);
      allowed = tt;
    }))

single_ends : (s back rest : List ℕ) → (39 ∷ rest) ≡ s ++ back → starts_three (39 ∷ rest) ≡ false → s ≡ codes "''" → NotFirst is_single_quote back
single_ends s back rest e h f =
    let whole : (39 ∷ rest) ≡ 39 ∷ 39 ∷ back = e ∙ ap (λ (l : List ℕ). l ++ back) f in
    sym (third_quote back) ∙ sym (ap (λ (l : List ℕ). starts_three l) whole) ∙ h

string_sound : (pattern : Bool) (at : ℕ) (rest : List ℕ) → Sound pattern at (39 ∷ rest) (string at 39 rest)
string_sound pattern at rest =
    let K : List ℕ → Kind = λ text. Literal (Str text) in
    choose (Sound pattern at (39 ∷ rest)) (starts_three (39 ∷ rest)) (tripled at (drop 2 rest) (before_three (drop 2 rest))) (quoted K (OpenString at) 39 rest)
    (λ e.
    let f = three_first 39 rest e in
    let P : List ℕ → Type 0 = λ l. Sound pattern at (39 ∷ l) (tripled at (drop 2 l) (before_three (drop 2 l))) in
    subst P (sym f.1) (tripled_sound pattern at f.0 (before_three f.0) refl))
    (λ e.
    quoted_sound pattern at K (OpenString at) 39 rest (omega arith)
    (λ content back g q. (inl q, single_ends (in_quotes 39 content) back rest (ap (λ (l : List ℕ). 39 ∷ l) g) e, tt))
    (λ o. sound_bad pattern at (39 ∷ rest) (OpenString at) (inr (inl (e, o))) refl))

reference_sound : (pattern : Bool) (at : ℕ) (rest : List ℕ) → Sound pattern at (34 ∷ rest) (quoted Reference (OpenString at) 34 rest)
reference_sound pattern at rest =
    quoted_sound pattern at Reference (OpenString at) 34 rest (omega arith)
    (λ content back g q. (q, tt, tt))
    (λ o. sound_bad pattern at (34 ∷ rest) (OpenString at) (inr (inr o)) refl)

-- a pattern isn't empty where no comment begins
some_pattern : (content back rest : List ℕ) → starts is_slash rest ≡ false → rest ≡ (escaped 47 content ++ 47 ∷ []) ++ back → content ≢ []
some_pattern content back rest quiet e = λ (z : content ≡ []).
    let began : rest ≡ 47 ∷ back = e ∙ ap (λ (l : List ℕ). (escaped 47 l ++ 47 ∷ []) ++ back) z in
    let started : starts is_slash rest ≡ true = ap (λ (l : List ℕ). starts is_slash l) began in
    cc

slash_rest : (rest other : List ℕ) → starts is_slash rest ≡ false → (47 ∷ rest) ≡ 47 ∷ other → NotFirst is_slash other
slash_rest rest other quiet e =
    let same : rest ≡ other = cc in
    sym (ap (λ (l : List ℕ). starts is_slash l) same) ∙ quiet

pattern_sound : (at : ℕ) (rest : List ℕ) (pattern : Bool) → pattern ≡ true → starts is_slash rest ≡ false → Sound pattern at (47 ∷ rest) (quoted (λ text. Literal (Regex text)) (OpenRegex at) 47 rest)
pattern_sound at rest pattern p quiet =
    quoted_sound pattern at (λ text. Literal (Regex text)) (OpenRegex at) 47 rest (omega arith)
    (λ content back g q. ((q, some_pattern content back rest quiet g), tt, p))
    (λ o. sound_bad pattern at (47 ∷ rest) (OpenRegex at) (p, o, (λ other e. slash_rest rest other quiet e)) refl)

-- a sign of one byte, or of two
one : (pattern : Bool) (at b : ℕ) (rest : List ℕ) (code : ℕ) (kind : Kind) → eqb b code ≡ true → Spelled kind (code ∷ []) → EndsToken kind (code ∷ []) rest → IsAllowed pattern kind → Sound pattern at (b ∷ rest) (Took kind 1)
one pattern at b rest code kind e sp en al = sound_took pattern at (b ∷ rest) kind 1 (record {
  bytes = code ∷ [];
  rest = rest;
  joined = ap (λ (x : ℕ). x ∷ rest) (is_same b code e);
  size = refl;
  spelled = sp;
  ends = en;
  allowed = al;
})

two : (pattern : Bool) (at b : ℕ) (rest : List ℕ) (code second : ℕ) (kind : Kind) → eqb b code ≡ true → starts (λ c. eqb c second) rest ≡ true → Spelled kind (code ∷ second ∷ []) → ((back : List ℕ) → EndsToken kind (code ∷ second ∷ []) back) → IsAllowed pattern kind → Sound pattern at (b ∷ rest) (Took kind 2)
two pattern at b [] code second kind e f sp en al = absurd (cc)
two pattern at b (c ∷ rest) code second kind e f sp en al = sound_took pattern at (b ∷ c ∷ rest) kind 2 (record {
  bytes = code ∷ second ∷ [];
  rest = rest;
  joined = ap (λ (x : ℕ). x ∷ c ∷ rest) (is_same b code e) ∙ ap (λ (x : ℕ). code ∷ x ∷ rest) (is_same c second f);
  size = refl;
  spelled = sp;
  ends = en rest;
  allowed = al;
})

-- what is left of a text that begins nothing
unmarked : (b : ℕ) (rest : List ℕ) → is_word b ≡ false → is_mark b ≡ false → is_white b ≡ false → eqb b 64 ≡ false → (c : ℕ) × (back : List ℕ) × ((b ∷ rest) ≡ c ∷ back) × ((is_word c || (is_mark c || is_white c)) ≡ false) × (c ≢ 64)
unmarked b rest w m s u = (b, rest, refl, both_false (is_word b) (is_mark b || is_white b) w (both_false (is_mark b) (is_white b) m s), not_same b 64 u)

sign_sound : (pattern : Bool) (at b : ℕ) (rest : List ℕ) → is_word b ≡ false → is_white b ≡ false → eqb b 39 ≡ false → eqb b 34 ≡ false → (eqb b 47 ≡ true → (pattern ≡ false) × NotFirst is_slash rest) → Sound pattern at (b ∷ rest) (sign at b rest)
sign_sound pattern at b rest word white single double slash =
    let P = Sound pattern at (b ∷ rest) in
    choose P (eqb b 40) _ _ (λ e. one pattern at b rest 40 OpenParen e refl tt tt)
    (λ n40. choose P (eqb b 41) _ _ (λ e. one pattern at b rest 41 CloseParen e refl tt tt)
    (λ n41. choose P (eqb b 44) _ _ (λ e. one pattern at b rest 44 Comma e refl tt tt)
    (λ n44. choose P (eqb b 46) _ _ (λ e. one pattern at b rest 46 Dot e refl tt tt)
    (λ n46. choose P (eqb b 124) _ _ (λ e. one pattern at b rest 124 Pipe e refl tt tt)
    (λ n124. choose P (eqb b 43) _ _ (λ e. one pattern at b rest 43 (Operator Add) e refl tt tt)
    (λ n43. choose P (eqb b 45) _ _ (λ e. one pattern at b rest 45 (Operator Sub) e refl tt tt)
    (λ n45. choose P (eqb b 42) _ _ (λ e. one pattern at b rest 42 (Operator Mul) e refl tt tt)
    (λ n42. choose P (eqb b 47) _ _ (λ e. let s = slash e in one pattern at b rest 47 (Operator Div) e refl s.1 s.0)
    (λ n47. choose P (eqb b 37) _ _ (λ e. one pattern at b rest 37 (Operator Rem) e refl tt tt)
    (λ n37. choose P (eqb b 61) _ _ (λ e.
    choose P (starts is_equals rest) _ _ (λ f. two pattern at b rest 61 61 (Operator Eq) e f refl (λ back. tt) tt)
    (λ f. choose P (starts is_tilde rest) _ _ (λ g. two pattern at b rest 61 126 (Operator Match) e g refl (λ back. tt) tt)
    (λ g. one pattern at b rest 61 Assign e refl (f, g) tt)))
    (λ n61. choose P (eqb b 33) _ _ (λ e.
    choose P (starts is_equals rest) _ _ (λ f. two pattern at b rest 33 61 (Operator Ne) e f refl (λ back. tt) tt)
    (λ f. choose P (starts is_tilde rest) _ _ (λ g. two pattern at b rest 33 126 (Operator NoMatch) e g refl (λ back. tt) tt)
    (λ g. one pattern at b rest 33 Not e refl (f, g) tt)))
    (λ n33. choose P (eqb b 60) _ _ (λ e.
    choose P (starts is_equals rest) _ _ (λ f. two pattern at b rest 60 61 (Operator Le) e f refl (λ back. tt) tt)
    (λ f. one pattern at b rest 60 (Operator Lt) e refl f tt))
    (λ n60. choose P (eqb b 62) _ _ (λ e.
    choose P (starts is_equals rest) _ _ (λ f. two pattern at b rest 62 61 (Operator Ge) e f refl (λ back. tt) tt)
    (λ f. one pattern at b rest 62 (Operator Gt) e refl f tt))
    (λ n62. choose P (eqb b 64) _ _ (λ e. sound_bad pattern at (b ∷ rest) (UserFunction at) (rest, ap (λ (x : ℕ). x ∷ rest) (is_same b 64 e)) refl)
    (λ n64. sound_bad pattern at (b ∷ rest) (BadChar at) (unmarked b rest word
    (both_false _ _
    (both_false _ _ single (both_false _ _ double (both_false _ _ n40 (both_false _ _ n41 (both_false _ _ n44 (both_false _ _ n46 (both_false _ _ n124 n43)))))))
    (both_false _ _ n45 (both_false _ _ n42 (both_false _ _ n47 (both_false _ _ n37 (both_false _ _ n61 (both_false _ _ n33 (both_false _ _ n60 n62))))))))
    white n64) refl)))))))))))))))

first_at : (pattern : Bool) (at b c : ℕ) (rest : List ℕ) (found : ℕ → Found) → b ≡ c → Sound pattern at (c ∷ rest) (found c) → Sound pattern at (b ∷ rest) (found b)
first_at pattern at b c rest found e h =
    let P : ℕ → Type 0 = λ x. Sound pattern at (x ∷ rest) (found x) in
    subst P (sym e) h

-- what is found where no word and no number begins
pub mark_sound : (pattern : Bool) (at b : ℕ) (rest : List ℕ) → is_word b ≡ false → is_white b ≡ false → (eqb b 47 ≡ true → starts is_slash rest ≡ false) → Sound pattern at (b ∷ rest) (mark pattern at b rest)
mark_sound pattern at b rest word white slash =
    let P = Sound pattern at (b ∷ rest) in
    choose P (eqb b 39) _ _
    (λ e. first_at pattern at b 39 rest (λ x. string at x rest) (is_same b 39 e) (string_sound pattern at rest))
    (λ n39. choose P (eqb b 34) _ _
    (λ e. first_at pattern at b 34 rest (λ x. quoted Reference (OpenString at) x rest) (is_same b 34 e) (reference_sound pattern at rest))
    (λ n34. choose P (eqb b 47 && pattern) _ _
    (λ e.
    let both = and_true (eqb b 47) pattern e in
    first_at pattern at b 47 rest (λ x. quoted (λ text. Literal (Regex text)) (OpenRegex at) x rest) (is_same b 47 both.0) (pattern_sound at rest pattern both.1 (slash both.0)))
    (λ n. sign_sound pattern at b rest word white n39 n34 (λ e. (and_rest (eqb b 47) pattern e n, slash e)))))
