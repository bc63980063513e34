-- Words: what is spelled as one is found, and what is found is spelled so.
use Rattle.std.proofs.Common.{◌≡◌, ℕ, ◌+◌, Bool, true, false, cond, ◌&&◌, ◌||◌, List, [], ◌∷◌, ◌++◌, length, drop, refl, sym, ap, ◌∙◌, subst, bytes_eq, codes}
use Rattle.std.proofs.lemmas.List.Sums.{take_while-cons}
use Rattle.std.proofs.Math.Seq.{drop-append_seam}
use Rattle.std.specs.List.{take_while}
use Rattle.std.specs.Cmp.Lexicographic.{bytes_decides}
use Rattle.kap_base.specs.declared.expr.Lit.TheVariants.{Bool as Truth}
use Rattle.kap_base.specs.declared.expr.Op.TheVariants.{Or, And}
use Rattle.tick_lexer.specs.declared.token.Kind.{Kind}
use Rattle.tick_lexer.specs.declared.token.Kind.TheVariants.{Ident, Var, Lambda, Literal, Operator}
use Rattle.tick_lexer.specs.declared.token.LexFault.{LexFault}
use Rattle.tick_lexer.specs.Bytes.{is_letter, is_digit, is_word, AllPass, starts, NotFirst}
use Rattle.tick_lexer.specs.Spelling.{is_reserved, IsName, Spelled, is_colon, EndsToken, IsAllowed}
use Rattle.tick_lexer.specs.Front.{Found, Took, Bad, word_kind, named, word, number, mark, front}
use Rattle.tick_lexer.proofs.Choices.{cond_true, cond_false, choose, or_false, both_false, or_left, and_true, and_rest, is_same}

-- a token of this kind and this many bytes stands at the front
pub record Lexeme (pattern : Bool) (kind : Kind) (n : ℕ) (text : List ℕ) : Type 0 where
  pub bytes : List ℕ
  pub rest : List ℕ
  pub joined : text ≡ bytes ++ rest
  pub size : n ≡ length bytes
  pub spelled : Spelled kind bytes
  pub ends : EndsToken kind bytes rest
  pub allowed : IsAllowed pattern kind

-- what is found is a token at the front
abbrev pub Finds : Bool → Kind → ℕ → List ℕ → Found → Type 0
Finds pattern kind n text found = found ≡ Took kind n → Lexeme pattern kind n text

pub lexeme_is : (pattern : Bool) (kind : Kind) (n : ℕ) (text : List ℕ) (k : Kind) (m : ℕ) → Lexeme pattern k m text → Finds pattern kind n text (Took k m)
lexeme_is pattern kind n text k m l h =
    let same : k ≡ kind = cc in
    let count : m ≡ n = cc in
    let P : Kind → Type 0 = λ x. Lexeme pattern x n text in
    let Q : ℕ → Type 0 = λ x. Lexeme pattern k x text in
    subst P same (subst Q count l)

-- what begins with a letter, a digit, or neither
pub front_letter : (pattern : Bool) (at b : ℕ) (bs : List ℕ) → is_letter b ≡ true → front pattern at (b ∷ bs) ≡ word (b ∷ bs)
front_letter pattern at b bs h = cond_true (is_letter b) (word (b ∷ bs)) (cond (is_digit b) (number at (b ∷ bs)) (mark pattern at b bs)) h

pub front_digit : (pattern : Bool) (at b : ℕ) (bs : List ℕ) → is_letter b ≡ false → is_digit b ≡ true → front pattern at (b ∷ bs) ≡ number at (b ∷ bs)
front_digit pattern at b bs h k =
    cond_false (is_letter b) (word (b ∷ bs)) (cond (is_digit b) (number at (b ∷ bs)) (mark pattern at b bs)) h
    ∙ cond_true (is_digit b) (number at (b ∷ bs)) (mark pattern at b bs) k

pub front_mark : (pattern : Bool) (at b : ℕ) (bs : List ℕ) → is_word b ≡ false → front pattern at (b ∷ bs) ≡ mark pattern at b bs
front_mark pattern at b bs h =
    let parts = or_false (is_letter b) (is_digit b) h in
    cond_false (is_letter b) (word (b ∷ bs)) (cond (is_digit b) (number at (b ∷ bs)) (mark pattern at b bs)) parts.0
    ∙ cond_false (is_digit b) (number at (b ∷ bs)) (mark pattern at b bs) parts.1

-- bytes that pass before one that doesn't are taken
pub pass_all : (p : ℕ → Bool) (name rest : List ℕ) → AllPass p name → NotFirst p rest → take_while p (name ++ rest) ≡ name
pass_all p [] [] h k = refl
pass_all p [] (b ∷ rest) h k = take_while-cons p b rest ∙ cond_false (p b) (b ∷ take_while p rest) [] k
pass_all p (b ∷ name) rest h k =
    take_while-cons p b (name ++ rest)
    ∙ cond_true (p b) (b ∷ take_while p (name ++ rest)) [] h.0
    ∙ ap (λ (l : List ℕ). b ∷ l) (pass_all p name rest h.1 k)

-- a name that no byte of a word follows
pub front_name : (pattern : Bool) (at : ℕ) (name rest : List ℕ) → IsName name → NotFirst is_word rest → front pattern at (name ++ rest) ≡ named name rest
front_name pattern at [] rest h k = elim h [ ]
front_name pattern at (b ∷ bs) rest h k =
    let name = b ∷ bs in
    front_letter pattern at b (bs ++ rest) h.0
    ∙ ap (λ (l : List ℕ). named l (drop (length l) (name ++ rest))) (pass_all is_word name rest (or_left (is_letter b) (is_digit b) h.0, h.1) k)
    ∙ ap (λ (l : List ℕ). named name l) (drop-append_seam name rest)

is_bytes : (a b : List ℕ) → bytes_eq a b ≡ true → a ≡ b
is_bytes a b h = let d = bytes_decides a b in d.0 h

pub ident_kind : (name : List ℕ) → is_reserved name ≡ false → word_kind name ≡ Ident name
ident_kind name h =
    let or = or_false (bytes_eq name (codes "OR")) (bytes_eq name (codes "AND") || (bytes_eq name (codes "TRUE") || (bytes_eq name (codes "FALSE") || bytes_eq name (codes "var")))) h in
    let and = or_false (bytes_eq name (codes "AND")) (bytes_eq name (codes "TRUE") || (bytes_eq name (codes "FALSE") || bytes_eq name (codes "var"))) or.1 in
    let yes = or_false (bytes_eq name (codes "TRUE")) (bytes_eq name (codes "FALSE") || bytes_eq name (codes "var")) and.1 in
    let not = or_false (bytes_eq name (codes "FALSE")) (bytes_eq name (codes "var")) yes.1 in
    ap (λ (t : Bool). cond t (Operator Or) (cond (bytes_eq name (codes "AND")) (Operator And) (cond (bytes_eq name (codes "TRUE")) (Literal (Truth true)) (cond (bytes_eq name (codes "FALSE")) (Literal (Truth false)) (cond (bytes_eq name (codes "var")) Var (Ident name)))))) or.0
    ∙ ap (λ (t : Bool). cond t (Operator And) (cond (bytes_eq name (codes "TRUE")) (Literal (Truth true)) (cond (bytes_eq name (codes "FALSE")) (Literal (Truth false)) (cond (bytes_eq name (codes "var")) Var (Ident name))))) and.0
    ∙ ap (λ (t : Bool). cond t (Literal (Truth true)) (cond (bytes_eq name (codes "FALSE")) (Literal (Truth false)) (cond (bytes_eq name (codes "var")) Var (Ident name)))) yes.0
    ∙ ap (λ (t : Bool). cond t (Literal (Truth false)) (cond (bytes_eq name (codes "var")) Var (Ident name))) not.0
    ∙ ap (λ (t : Bool). cond t Var (Ident name)) not.1

no_lambda : (name rest : List ℕ) → (name ≡ codes "lambda" → NotFirst is_colon rest) → (bytes_eq name (codes "lambda") && starts is_colon rest) ≡ false
no_lambda name rest h =
    let go : (t : Bool) → bytes_eq name (codes "lambda") ≡ t → (t && starts is_colon rest) ≡ false = elim [ true ↦ λ e. h (is_bytes name (codes "lambda") e) | false ↦ λ e. refl ] in
    go (bytes_eq name (codes "lambda")) refl

-- a name is at the front
pub ident_front : (pattern : Bool) (at : ℕ) (name rest : List ℕ) → IsName name → is_reserved name ≡ false → NotFirst is_word rest → (name ≡ codes "lambda" → NotFirst is_colon rest) → front pattern at (name ++ rest) ≡ Took (Ident name) (length name)
ident_front pattern at name rest h r k c =
    front_name pattern at name rest h k
    ∙ cond_false (bytes_eq name (codes "lambda") && starts is_colon rest) (Took Lambda (length name + 1)) (Took (word_kind name) (length name)) (no_lambda name rest c)
    ∙ ap (λ (x : Kind). Took x (length name)) (ident_kind name r)

-- a run of bytes that pass, and what follows it
pub record Run (p : ℕ → Bool) (text : List ℕ) : Type 0 where
  pub rest : List ℕ
  pub joined : text ≡ take_while p text ++ rest
  pub all : AllPass p (take_while p text)
  pub stop : NotFirst p rest
  pub is_rest : rest ≡ drop (length (take_while p text)) text

pub run_of : (p : ℕ → Bool) (text : List ℕ) → Run p text
run_of p [] = record { rest = []; joined = refl; all = tt; stop = refl; is_rest = refl }
run_of p (b ∷ bs) =
    let r = run_of p bs in
    let cons = take_while-cons p b bs in
    let P : List ℕ → Type 0 = λ l. (rest : List ℕ) × ((b ∷ bs) ≡ l ++ rest) × AllPass p l × NotFirst p rest × (rest ≡ drop (length l) (b ∷ bs)) in
    let go : (t : Bool) → p b ≡ t → P (cond t (b ∷ take_while p bs) []) =
    elim [
      | true ↦ λ e. (r.rest, ap (λ (l : List ℕ). b ∷ l) r.joined, (e, r.all), r.stop, r.is_rest)
      | false ↦ λ e. (b ∷ bs, refl, tt, e, refl)
    ] in
    let found = subst P (sym cons) (go (p b) refl) in
    record { rest = found.0; joined = found.1; all = found.2; stop = found.3; is_rest = found.4 }

-- a word that begins with a letter is a name
name_of : (b : ℕ) (bs : List ℕ) → is_letter b ≡ true → IsName (take_while is_word (b ∷ bs))
name_of b bs h =
    let r = run_of is_word bs in
    let passes : is_word b ≡ true = or_left (is_letter b) (is_digit b) h in
    subst IsName (sym (take_while-cons is_word b bs ∙ cond_true (is_word b) (b ∷ take_while is_word bs) [] passes)) (h, r.all)

-- what a word's kind is known by
word_cases : (P : Kind → Type 0) (name : List ℕ) → (name ≡ codes "OR" → P (Operator Or)) → (name ≡ codes "AND" → P (Operator And)) → (name ≡ codes "TRUE" → P (Literal (Truth true))) → (name ≡ codes "FALSE" → P (Literal (Truth false))) → (name ≡ codes "var" → P Var) → (is_reserved name ≡ false → P (Ident name)) → P (word_kind name)
word_cases P name a b c d v e =
    choose P (bytes_eq name (codes "OR")) _ _ (λ h. a (is_bytes name (codes "OR") h))
    (λ w. choose P (bytes_eq name (codes "AND")) _ _ (λ h. b (is_bytes name (codes "AND") h))
    (λ x. choose P (bytes_eq name (codes "TRUE")) _ _ (λ h. c (is_bytes name (codes "TRUE") h))
    (λ y. choose P (bytes_eq name (codes "FALSE")) _ _ (λ h. d (is_bytes name (codes "FALSE") h))
    (λ z. choose P (bytes_eq name (codes "var")) _ _ (λ h. v (is_bytes name (codes "var") h))
    (λ u. e (both_false _ _ w (both_false _ _ x (both_false _ _ y (both_false _ _ z u)))))))))

colon_first : (rest : List ℕ) → starts is_colon rest ≡ true → (back : List ℕ) × (rest ≡ 58 ∷ back)
colon_first [] h = absurd (cc)
colon_first (c ∷ back) h = (back, ap (λ (x : ℕ). x ∷ back) (is_same c 58 h))

lambda_ends : (name rest : List ℕ) → (bytes_eq name (codes "lambda") && starts is_colon rest) ≡ false → name ≡ codes "lambda" → NotFirst is_colon rest
lambda_ends name rest h e =
    let d = bytes_decides name (codes "lambda") in
    and_rest (bytes_eq name (codes "lambda")) (starts is_colon rest) (d.1 e) h

named_found : (pattern : Bool) (kind : Kind) (n : ℕ) (name rest : List ℕ) → IsName name → NotFirst is_word rest → Finds pattern kind n (name ++ rest) (named name rest)
named_found pattern kind n name rest named stop =
    let P = Finds pattern kind n (name ++ rest) in
    let Q : Kind → Type 0 = λ k. Lexeme pattern k (length name) (name ++ rest) in
    choose P (bytes_eq name (codes "lambda") && starts is_colon rest) _ _
    (λ e.
    let both = and_true (bytes_eq name (codes "lambda")) (starts is_colon rest) e in
    let is = is_bytes name (codes "lambda") both.0 in
    let back = colon_first rest both.1 in
    lexeme_is pattern kind n (name ++ rest) Lambda (length name + 1) (record {
      bytes = codes "lambda:";
      rest = back.0;
      joined = ap (λ (l : List ℕ). l ++ rest) is ∙ ap (λ (l : List ℕ). codes "lambda" ++ l) back.1;
      size = ap (λ (l : List ℕ). length l + 1) is;
      spelled = refl;
      ends = tt;
      allowed = tt;
    }))
    (λ e. lexeme_is pattern kind n (name ++ rest) (word_kind name) (length name)
    (word_cases Q name
    (λ w. record { bytes = name; rest = rest; joined = refl; size = refl; spelled = w; ends = stop; allowed = tt })
    (λ w. record { bytes = name; rest = rest; joined = refl; size = refl; spelled = w; ends = stop; allowed = tt })
    (λ w. record { bytes = name; rest = rest; joined = refl; size = refl; spelled = w; ends = stop; allowed = tt })
    (λ w. record { bytes = name; rest = rest; joined = refl; size = refl; spelled = w; ends = stop; allowed = tt })
    (λ w. record { bytes = name; rest = rest; joined = refl; size = refl; spelled = w; ends = stop; allowed = tt })
    (λ w. record { bytes = name; rest = rest; joined = refl; size = refl; spelled = (refl, named, w); ends = (stop, lambda_ends name rest e); allowed = tt })))

pub word_found : (pattern : Bool) (kind : Kind) (n b : ℕ) (bs : List ℕ) → is_letter b ≡ true → Finds pattern kind n (b ∷ bs) (word (b ∷ bs))
word_found pattern kind n b bs letter h =
    let text = b ∷ bs in
    let name = take_while is_word text in
    let r = run_of is_word text in
    let there : named name r.rest ≡ Took kind n = ap (λ (l : List ℕ). named name l) r.is_rest ∙ h in
    let P : List ℕ → Type 0 = λ l. Lexeme pattern kind n l in
    subst P (sym r.joined) (named_found pattern kind n name r.rest (name_of b bs letter) r.stop there)

-- a word has no fault
pub word_bad : (text : List ℕ) (fault : LexFault) → word text ≡ Bad fault → ⊥
word_bad text fault =
    let name = take_while is_word text in
    let P : Found → Type 0 = λ f. f ≡ Bad fault → ⊥ in
    choose P (bytes_eq name (codes "lambda") && starts is_colon (drop (length name) text)) (Took Lambda (length name + 1)) (Took (word_kind name) (length name)) (λ e h. cc) (λ e h. cc)
