-- Places in a text: the first byte that passes a test, and where a text may be cut.
use Rattle.std.proofs.Common.{◌≡◌, ℕ, ◌+◌, ◌<◌, Bool, true, false, not, List, [], ◌∷◌, ◌++◌, length, take, drop, refl, ap, subst, ◌∙◌, one-add, arith, ltb}
use Rattle.std.specs.Prelude.{IsUtf8}
use Rattle.std.specs.List.{list_all, before_first, position_or_len}
use Rattle.std.specs.Str.{IsCharBoundary}
use Rattle.std.proofs.lemmas.Bool.{ltb-true, ltb-false}
use Rattle.std.proofs.lemmas.Bool.Decides.{nat_tests}
use Rattle.std.proofs.lemmas.List.Sums.{passes_at_first}
use Rattle.std.proofs.lemmas.Str.{IsCharBoundary-end, IsCharBoundary-before_ascii, IsCharBoundary-after_ascii}
use Rattle.kap_base.specs.Texts.{begins_with}
use Rattle.line_points.specs.Parts.{is_separator}
use Rattle.kap_base.proofs.PositionLaws.{place_le}
use Rattle.kap_base.proofs.TestLaws.{first_of, second_of}

-- a text may be cut before the first byte that passes a test of ASCII bytes, or at its end
pub place_boundary : (p : ℕ → Bool) (xs : List ℕ) → ((b : ℕ) → p b ≡ true → b < 128) → IsCharBoundary xs (position_or_len p xs)
place_boundary p xs ascii =
    elim (ltb (position_or_len p xs) (length xs)) as (λ t. ltb (position_or_len p xs) (length xs) ≡ t → IsCharBoundary xs (position_or_len p xs)) [
      | true ↦ λ t. let lt = ltb-true _ _ t in IsCharBoundary-before_ascii xs (position_or_len p xs) lt (ascii _ (passes_at_first p xs 0 lt))
      | false ↦ λ t. let at_end : length xs ≡ position_or_len p xs = omega (arith, place_le p xs, ltb-false _ _ t) in subst (IsCharBoundary xs) at_end (IsCharBoundary-end xs)
    ] refl

-- a text may be cut behind a first ASCII byte
pub first_boundary : (b : ℕ) (xs : List ℕ) → IsUtf8 xs → b < 128 → begins_with b xs ≡ true → IsCharBoundary xs 1
first_boundary b [] text ascii found = absurd cc
first_boundary b (x ∷ xs) text ascii found = IsCharBoundary-after_ascii (x ∷ xs) 0 text (omega arith) (grind (arith, nat_tests))

pub separator-ascii : (b : ℕ) → is_separator b ≡ true → b < 128
separator-ascii b h = grind (arith, nat_tests)

-- ---- a word and what stands behind it

pub drop_more : (n b : ℕ) (bs : List ℕ) → drop (1 + n) (b ∷ bs) ≡ drop n bs
drop_more n b bs = rw one-add refl

pub take_more : (n b : ℕ) (bs : List ℕ) → take (1 + n) (b ∷ bs) ≡ b ∷ take n bs
take_more n b bs = rw one-add refl

-- the word ends where the rest begins
pub record WordEnds (p : ℕ → Bool) (word rest : List ℕ) : Type 0 where
  pub before : before_first p (word ++ rest) ≡ word
  pub behind : drop (position_or_len p (word ++ rest)) (word ++ rest) ≡ rest

pub word_ends : (p : ℕ → Bool) (word rest : List ℕ) → list_all (λ b. not (p b)) word ≡ true → position_or_len p rest ≡ 0 → WordEnds p word rest
word_ends p [] rest whole none = record { before = rw none refl; behind = rw none refl }
word_ends p (b ∷ word) rest whole none =
    let here : not (p b) ≡ true = first_of (not (p b)) _ whole in
    let more = word_ends p word rest (second_of (not (p b)) _ whole) none in
    record {
      before = rw here (take_more (position_or_len p (word ++ rest)) b (word ++ rest) ∙ ap (λ (x : List ℕ). b ∷ x) more.before);
      behind = rw here (drop_more (position_or_len p (word ++ rest)) b (word ++ rest) ∙ more.behind);
    }
