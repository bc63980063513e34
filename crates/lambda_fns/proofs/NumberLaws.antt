-- An optional `-` and digits are what std's `parse` reads where no `+` stands in front.
use Rattle.std.proofs.Common.{◌≡◌, ℕ, ◌<◌, Bool, true, false, cond, List, [], ◌∷◌, length, drop, None, Some, Result, Ok, Err, refl, sym, ap, arith, ℤ, pos, neg_ℤ, w64}
use Rattle.std.specs.Prelude.{◌==◌, slice_index, nat_lt, FitsSigned}
use Rattle.std.specs.Char.{digit_value, is_ascii_digit}
use Rattle.std.specs.Result.{OkIff, result_ok}
use Rattle.std.specs.Str.{all_ascii_digits}
use Rattle.std.specs.Str.Parse.{AllDigits, IsNumeral, ParsesSigned, starts_with_minus, digits_value}
use Rattle.std.proofs.lemmas.Bool.Decides.{nat_tests}
use Rattle.std.proofs.lemmas.Int.{ints}
use Rattle.lambda_fns.specs.Numbers.{are_digits, within_64_bits, number_in}
use Rattle.kap_base.proofs.TestLaws.{first_of, second_of}

digit_test : (c : ℕ) → digit_value c < 10 → is_ascii_digit c ≡ true
digit_test c h = grind (arith, nat_tests)

digit_fact : (c : ℕ) → is_ascii_digit c ≡ true → digit_value c < 10
digit_fact c h = grind (arith, nat_tests)

digits_test : (ds : List ℕ) → AllDigits 10 ds → all_ascii_digits ds ≡ true
digits_test [] all = refl
digits_test (c ∷ cs) all = rw (digit_test c all.0, digits_test cs all.1) refl

digits_fact : (ds : List ℕ) → all_ascii_digits ds ≡ true → AllDigits 10 ds
digits_fact [] e = tt
digits_fact (c ∷ cs) e = (digit_fact c (first_of (is_ascii_digit c) (all_ascii_digits cs) e), digits_fact cs (second_of (is_ascii_digit c) (all_ascii_digits cs) e))

numeral_test : (ds : List ℕ) → IsNumeral 10 ds → are_digits ds ≡ true
numeral_test ds h = let some : nat_lt 0 (length ds) ≡ true = grind (arith, nat_tests, h.0) in rw (some, digits_test ds h.1) refl

numeral_fact : (ds : List ℕ) → are_digits ds ≡ true → IsNumeral 10 ds
numeral_fact ds e =
    let some = first_of (nat_lt 0 (length ds)) (all_ascii_digits ds) e in
    (grind (arith, nat_tests, some), digits_fact ds (second_of (nat_lt 0 (length ds)) (all_ascii_digits ds) e))

fits_test : (z : ℤ) → FitsSigned w64 z → within_64_bits z ≡ Some z
fits_test z h = grind (arith, ints)

fits_not : (z : ℤ) → ¬ (FitsSigned w64 z) → within_64_bits z ≡ None
fits_not z h = grind (arith, ints)

module _ {E : Type 0} where
  reads : (r : Result ℤ E) (ds : List ℕ) (z : ℤ) → OkIff r (IsNumeral 10 ds × FitsSigned w64 z) z → result_ok r ≡ cond (are_digits ds) (within_64_bits z) None
  reads (Ok x) ds z h = rw (numeral_test ds h.0.0, fits_test z h.0.1) (ap Some h.1)
  reads (Err e) ds z h = go (are_digits ds) refl
    where
      go : (t : Bool) → are_digits ds ≡ t → None ≡ cond t (within_64_bits z) None
      go true numeral = sym (fits_not z (λ fits. h (numeral_fact ds numeral, fits)))
      go false numeral = refl

  pub number_is : (s : List ℕ) (r : Result ℤ E) → (slice_index s 0 == 43) ≡ false → ParsesSigned w64 10 s r → result_ok r ≡ number_in s
  number_is s r other h = go (starts_with_minus s) refl
    where
      go : (t : Bool) → starts_with_minus s ≡ t → result_ok r ≡ number_in s
      go true minus = rw minus (reads r (drop 1 s) (neg_ℤ (pos (digits_value 10 (drop 1 s)))) (rw minus at h))
      go false minus = rw minus (reads r s (pos (digits_value 10 s)) (rw (minus, other) at h))
