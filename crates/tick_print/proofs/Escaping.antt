-- The loop that writes a text with a backslash before each quote.
use Rattle.std.proofs.Common.{◌≡◌, ℕ, ◌+◌, ◌-◌, ◌<◌, ◌≤◌, true, false, eqb, nat_eq, List, [], ◌∷◌, ◌++◌, length, take, drop, get_or, refl, sym, ap, ◌∙◌, subst, arith, append_assoc}
use Rattle.std.proofs.lemmas.Bool.Decides.{nat_tests}
use Rattle.std.proofs.lemmas.Str.{IsCharBoundary-before_ascii, IsCharBoundary-start}
use Rattle.std.specs.Str.{IsUtf8, IsCharBoundary}
use Rattle.kap_base.specs.Texts.{ends_with}
use Rattle.tick_lexer.specs.Spelling.{escaped}
use Rattle.tick_lexer.proofs.Quotes.{escaped_quote, escaped_other}
use Rattle.tick_lexer.proofs.Reading.{segment, segment_more, byte_at}

-- what stands last
pub ends_behind : (b x : ℕ) (front text : List ℕ) → text ≡ front ++ (x ∷ []) → nat_eq x b ≡ ends_with b text
ends_behind b x [] text e = sym (ap (λ (l : List ℕ). ends_with b l) e)
ends_behind b x (y ∷ []) text e = sym (ap (λ (l : List ℕ). ends_with b l) e)
ends_behind b x (y ∷ z ∷ front) text e = ends_behind b x (z ∷ front) ((z ∷ front) ++ (x ∷ [])) refl ∙ sym (ap (λ (l : List ℕ). ends_with b l) e)

-- What was written, the bytes that wait, and then the escaped rest are the whole text.
pub record Escaping (quote : ℕ) (s before out : List ℕ) (start index : ℕ) : Type 0 where
  pub ordered : start ≤ index
  pub cut : IsCharBoundary s start
  pub so_far : out ++ (segment s start index ++ escaped quote (drop index s)) ≡ before ++ escaped quote s

pub start_escaping : (quote : ℕ) (s before : List ℕ) → IsUtf8 s → Escaping quote s before before 0 0
start_escaping quote s before u = record { ordered = omega arith; cut = IsCharBoundary-start s u; so_far = refl }

same_test : (b quote : ℕ) → b ≡ quote → eqb b quote ≡ true
same_test b quote e = grind (arith, nat_tests)

other_test : (b quote : ℕ) → (b ≡ quote → ⊥) → eqb b quote ≡ false
other_test b quote e = grind (arith, nat_tests)

-- behind a byte that isn't the quote
pub past_other : (quote : ℕ) (s bytes before out : List ℕ) (start index : ℕ) → bytes ≡ s → Escaping quote s before out start index → index < length bytes → (get_or bytes index 0 ≡ quote → ⊥) → Escaping quote s before out start (index + 1)
past_other quote s bytes before out start index same r in_bytes other =
    let lt : index < length s = let size = ap (λ (l : List ℕ). length l) same in omega arith in
    let byte = ap (λ (l : List ℕ). get_or l index 0) same in
    let b = get_or s index 0 in
    let test : eqb b quote ≡ false = other_test b quote (λ (e : b ≡ quote). other (byte ∙ e)) in
    let rest = escaped quote (drop (index + 1) s) in
    record {
      ordered = let le = r.ordered in omega arith;
      cut = r.cut;
      so_far =
          ap (λ (l : List ℕ). out ++ (l ++ rest)) (segment_more s start index r.ordered lt)
          ∙ ap (λ (l : List ℕ). out ++ l) (append_assoc (segment s start index) (b ∷ []) rest)
          ∙ ap (λ (l : List ℕ). out ++ (segment s start index ++ l)) (sym (ap (λ (l : List ℕ). escaped quote l) (byte_at s index lt) ∙ escaped_other quote b (drop (index + 1) s) test))
          ∙ r.so_far;
    }

-- behind the quote, where what waited and a backslash are written
pub past_quote : (quote : ℕ) (s bytes before out now : List ℕ) (start index : ℕ) → bytes ≡ s → Escaping quote s before out start index → index < length bytes → get_or bytes index 0 ≡ quote → quote < 128 → now ≡ (out ++ segment s start index) ++ (92 ∷ []) → Escaping quote s before now index (index + 1)
past_quote quote s bytes before out now start index same r in_bytes is small grown =
    let lt : index < length s = let size = ap (λ (l : List ℕ). length l) same in omega arith in
    let b = get_or s index 0 in
    let here : b ≡ quote = sym (ap (λ (l : List ℕ). get_or l index 0) same) ∙ is in
    let after = drop (index + 1) s in
    let one : segment s index (index + 1) ≡ b ∷ [] =
    segment_more s index index (omega arith) lt ∙ ap (λ (n : ℕ). take n (drop index s) ++ (b ∷ [])) (let zero_size : index - index ≡ 0 = omega arith in zero_size) in
    let spelled : escaped quote (drop index s) ≡ 92 ∷ b ∷ escaped quote after =
    ap (λ (l : List ℕ). escaped quote l) (byte_at s index lt) ∙ escaped_quote quote b after (same_test b quote here) in
    record {
      ordered = omega arith;
      cut = IsCharBoundary-before_ascii s index lt (omega arith);
      so_far =
          ap (λ (l : List ℕ). now ++ (l ++ escaped quote after)) one
          ∙ ap (λ (l : List ℕ). l ++ (b ∷ escaped quote after)) grown
          ∙ append_assoc (out ++ segment s start index) (92 ∷ []) (b ∷ escaped quote after)
          ∙ append_assoc out (segment s start index) (92 ∷ b ∷ escaped quote after)
          ∙ ap (λ (l : List ℕ). out ++ (segment s start index ++ l)) (sym spelled)
          ∙ r.so_far;
    }

-- the same at equal places
pub at_equal : (quote : ℕ) (s before out now : List ℕ) (start from index : ℕ) → now ≡ out → from ≡ start → Escaping quote s before out start index → Escaping quote s before now from index
at_equal quote s before out now start from index e f r =
    subst (λ (l : List ℕ). Escaping quote s before l from index) (sym e) (subst (λ (n : ℕ). Escaping quote s before out n index) (sym f) r)
