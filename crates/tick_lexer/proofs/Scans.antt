-- Steps of the loops over bytes.
use Rattle.std.proofs.Common.{◌≡◌, ℕ, ◌+◌, ◌*◌, ◌-◌, ◌<◌, ◌≤◌, zero, suc, Bool, true, false, cond, eqb, ◌&&◌, List, [], ◌∷◌, length, take, drop, get_or, refl, sym, ap, ◌∙◌, subst, arith, drop-cons, Option, Some, None}
use Rattle.std.proofs.lemmas.Bool.Decides.{nat_tests}
use Rattle.std.proofs.lemmas.List.Sums.{take_while-cons}
use Rattle.std.proofs.lemmas.Str.{IsCharBoundary-start, IsCharBoundary-after_ascii}
use Rattle.std.specs.Str.{IsUtf8, IsCharBoundary}
use Rattle.std.specs.Str.Parse.{AllDigits, digits_value_after}
use Rattle.std.specs.List.{take_while, prefix_len}
use Rattle.std.specs.Char.{digit_value}
use Rattle.tick_lexer.specs.Bytes.{is_digit, is_word, starts_three}
use Rattle.tick_lexer.specs.Front.{plus, before_three}

pub value_grows : (n : ℕ) (ds : List ℕ) → n ≤ digits_value_after 10 n ds
value_grows n [] = omega arith
value_grows n (c ∷ cs) = let h = value_grows (n * 10 + digit_value c) cs in omega arith

pub is_digit_byte : (c : ℕ) → digit_value c < 10 → (48 ≤ c) × (c ≤ 57) × (digit_value c ≡ c - 48)
is_digit_byte c h = grind arith

pub too_large : (digits : List ℕ) (i n v limit : ℕ) → i < length digits → AllDigits 10 (drop i digits) → digits_value_after 10 n (drop i digits) ≡ v → limit ≤ n * 10 + (get_or digits i 0 - 48) → limit ≤ v
too_large digits i n v limit lt all e over =
    let next : drop i digits ≡ get_or digits i 0 ∷ drop (suc i) digits = drop-cons digits i 0 lt in
    let here = subst (λ (l : List ℕ). AllDigits 10 l) next all in
    let digit = is_digit_byte (get_or digits i 0) here.0 in
    let same : digits_value_after 10 (n * 10 + digit_value (get_or digits i 0)) (drop (suc i) digits) ≡ v = sym (ap (λ (l : List ℕ). digits_value_after 10 n l) next) ∙ e in
    let more = value_grows (n * 10 + digit_value (get_or digits i 0)) (drop (suc i) digits) in
    let is = digit.2 in
    omega arith

digit_value_of : (b : ℕ) → is_digit b ≡ true → digit_value b < 10
digit_value_of b h = grind arith

-- the digits at the front of a text are digits
pub digits_pass : (text : List ℕ) → AllDigits 10 (take_while is_digit text)
digits_pass [] = tt
digits_pass (b ∷ bs) =
    let P : Bool → Type 0 = λ t. AllDigits 10 (cond t (b ∷ take_while is_digit bs) []) in
    let go : (t : Bool) → is_digit b ≡ t → P t = elim [ true ↦ λ e. (digit_value_of b e, digits_pass bs) | false ↦ λ e. tt ] in
    subst (λ (l : List ℕ). AllDigits 10 l) (sym (take_while-cons is_digit b bs)) (go (is_digit b) refl)

front_again : (m : ℕ) (l : List ℕ) → take (length (take m l)) l ≡ take m l
front_again zero l = refl
front_again (suc m) [] = refl
front_again (suc m) (x ∷ xs) = ap (λ (t : List ℕ). x ∷ t) (front_again m xs)

pub digits_at : (text : List ℕ) (n : ℕ) → n ≡ length (take_while is_digit text) → AllDigits 10 (take n text)
digits_at text n e =
    let f : take n text ≡ take_while is_digit text = ap (λ (k : ℕ). take k text) e ∙ front_again (prefix_len is_digit text) text in
    subst (λ (l : List ℕ). AllDigits 10 l) (sym f) (digits_pass text)

word_ascii : (b : ℕ) → is_word b ≡ true → b < 128
word_ascii b h = grind arith

word_inside : (i b : ℕ) (bs name : List ℕ) → is_word b ≡ true → i < length (b ∷ name) → ((j : ℕ) → j < length name → (get_or bs j 0 < 128) × (j < length bs)) → (get_or (b ∷ bs) i 0 < 128) × (i < length (b ∷ bs))
word_inside zero b bs name e k more = (word_ascii b e, omega arith)
word_inside (suc j) b bs name e k more = let rest = more j (omega arith) in (rest.0, let r = rest.1 in omega arith)

-- the byte before the end of a word is ASCII
word_last : (text : List ℕ) (i : ℕ) → i < length (take_while is_word text) → (get_or text i 0 < 128) × (i < length text)
word_last [] i h = absurd (omega arith)
word_last (b ∷ bs) i h =
    let P : Bool → Type 0 = λ t. i < length (cond t (b ∷ take_while is_word bs) []) → (get_or (b ∷ bs) i 0 < 128) × (i < length (b ∷ bs)) in
    let more = λ (j : ℕ) (k : j < length (take_while is_word bs)). word_last bs j k in
    let go : (t : Bool) → is_word b ≡ t → P t = elim [ true ↦ λ e k. word_inside i b bs (take_while is_word bs) e k more | false ↦ λ e k. absurd (omega arith) ] in
    go (is_word b) refl (subst (λ (l : List ℕ). i < length l) (take_while-cons is_word b bs) h)

-- a text may be cut behind a word
pub word_cut : (text : List ℕ) (n : ℕ) → IsUtf8 text → n ≡ length (take_while is_word text) → IsCharBoundary text n
word_cut text zero u e = IsCharBoundary-start text u
word_cut text (suc n) u e =
    let last = word_last text n (omega arith) in
    let P : ℕ → Type 0 = λ k. IsCharBoundary text k in
    subst P (omega arith) (IsCharBoundary-after_ascii text n u last.1 last.0)

-- a text may be cut behind a byte that is ASCII
pub cut_behind : (text : List ℕ) (at byte : ℕ) → IsUtf8 text → at < length text → get_or text at 0 ≡ byte → byte < 128 → IsCharBoundary text (at + 1)
cut_behind text at byte u lt e small = IsCharBoundary-after_ascii text at u lt (omega arith)

-- a text may be cut behind a second byte that is ASCII
pub cut_second : (text : List ℕ) → IsUtf8 text → 2 ≤ length text → get_or text 1 0 < 128 → IsCharBoundary text 2
cut_second text u lt small = IsCharBoundary-after_ascii text 1 u (omega arith) small

plus_none : (n : ℕ) (o : Option ℕ) → plus n o ≡ None → o ≡ None
plus_none n None h = refl
plus_none n (Some m) h = absurd (cc)

pub plus_plus : (m n : ℕ) (o : Option ℕ) → plus m (plus n o) ≡ plus (m + n) o
plus_plus m n None = refl
plus_plus m n (Some k) = ap (λ (x : ℕ). Some x) (omega arith)

-- where three quotes don't stand first they stand behind the first byte
pub three_later : (text : List ℕ) (i : ℕ) → i < length text → starts_three (drop i text) ≡ false → plus i (before_three (drop i text)) ≡ plus (i + 1) (before_three (drop (i + 1) text))
three_later text i lt h =
    let e = drop-cons text i 0 lt in
    let next : suc i ≡ i + 1 = omega arith in
    let same : drop (suc i) text ≡ drop (i + 1) text = ap (λ (n : ℕ). drop n text) next in
    let first : starts_three (get_or text i 0 ∷ drop (suc i) text) ≡ false = sym (ap (λ (l : List ℕ). starts_three l) e) ∙ h in
    ap (λ (l : List ℕ). plus i (before_three l)) e
    ∙ ap (λ (t : Bool). plus i (cond t (Some 0) (plus 1 (before_three (drop (suc i) text))))) first
    ∙ plus_plus i 1 (before_three (drop (suc i) text))
    ∙ ap (λ (l : List ℕ). plus (i + 1) (before_three l)) same

starts_quote : (b : ℕ) (bs : List ℕ) → starts_three (b ∷ bs) ≡ true → b ≡ 39
starts_quote b [] h = absurd (cc)
starts_quote b (c ∷ []) h = absurd (cc)
starts_quote b (c ∷ d ∷ bs) h =
    let go : (t : Bool) → eqb b 39 ≡ t → (t && (eqb c 39 && eqb d 39)) ≡ true → b ≡ 39 = elim [ true ↦ λ e x. grind (arith, nat_tests) | false ↦ λ e x. absurd (cc) ] in
    go (eqb b 39) refl h

three_on : (b : ℕ) (bs : List ℕ) (n : ℕ) (o : Option ℕ) → plus 1 o ≡ Some n → ((m : ℕ) → o ≡ Some m → (m < length bs) × (get_or bs m 0 ≡ 39)) → (n < length (b ∷ bs)) × (get_or (b ∷ bs) n 0 ≡ 39)
three_on b bs n None h more = absurd (cc)
three_on b bs n (Some m) h more =
    let it = more m refl in
    let z : suc m ≡ n = let e : 1 + m ≡ n = cc in omega arith in
    let P : ℕ → Type 0 = λ k. (k < length (b ∷ bs)) × (get_or (b ∷ bs) k 0 ≡ 39) in
    subst P z (let l = it.0 in omega arith, it.1)

-- a text may be cut before three quotes
pub three_cut : (text : List ℕ) (n : ℕ) → before_three text ≡ Some n → (n < length text) × (get_or text n 0 ≡ 39)
three_cut [] n h = absurd (cc)
three_cut (b ∷ bs) n h =
    let more = three_cut bs in
    let go : (t : Bool) → starts_three (b ∷ bs) ≡ t → cond t (Some 0) (plus 1 (before_three bs)) ≡ Some n → (n < length (b ∷ bs)) × (get_or (b ∷ bs) n 0 ≡ 39) =
    elim [
      | true ↦ λ e x.
          let z : 0 ≡ n = cc in
          let P : ℕ → Type 0 = λ k. (k < length (b ∷ bs)) × (get_or (b ∷ bs) k 0 ≡ 39) in
          subst P z (omega arith, starts_quote b bs e)
      | false ↦ λ e x. three_on b bs n (before_three bs) x more
    ] in
    go (starts_three (b ∷ bs)) refl h
