-- Digits without a sign or a leading zero are what std's `parse` reads where neither stands in front.
use Rattle.std.proofs.Common.{◌≡◌, ℕ, ◌<◌, ◌^◌, Bool, true, false, List, length, None, Some, Result, Ok, Err, refl, ap, arith}
use Rattle.std.specs.Prelude.{◌==◌, slice_index, nat_lt}
use Rattle.std.specs.Result.{OkIff, result_ok}
use Rattle.std.specs.Str.{all_ascii_digits}
use Rattle.std.specs.Str.Parse.{IsNumeral, ParsesUnsigned, digits_value}
use Rattle.std.proofs.lemmas.Bool.Decides.{nat_tests}
use Rattle.std.proofs.lemmas.Str.Parse.{IsNumeralModel, numerals_by_value, tells_all_ascii_digits}
use Rattle.kap_base.proofs.TestLaws.{first_of, second_of}
use Rattle.word_numbers.specs.Numbers.{are_digits, has_leading_zero, number_in}

are-all : IsNumeralModel (λ ds. all_ascii_digits ds ≡ true) (digits_value 10)
are-all = numerals_by_value (λ ds. all_ascii_digits ds ≡ true) tells_all_ascii_digits

numeral_test : (ds : List ℕ) → IsNumeral 10 ds → are_digits ds ≡ true
numeral_test ds h = let some : nat_lt 0 (length ds) ≡ true = grind (arith, nat_tests, h.0) in rw (some, are-all.from ds h.1) refl

numeral_fact : (ds : List ℕ) → are_digits ds ≡ true → IsNumeral 10 ds
numeral_fact ds e =
    let some = first_of (nat_lt 0 (length ds)) (all_ascii_digits ds) e in
    (grind (arith, nat_tests, some), are-all.to ds (second_of (nat_lt 0 (length ds)) (all_ascii_digits ds) e))

module _ {E : Type 0} where
  reads : (r : Result ℕ E) (s : List ℕ) → has_leading_zero s ≡ false → OkIff r (IsNumeral 10 s × (digits_value 10 s < 2 ^ 32)) (digits_value 10 s) → result_ok r ≡ number_in s
  reads (Ok x) s plain h =
      let few = h.0.1 in
      let low : nat_lt (digits_value 10 s) (2 ^ 32) ≡ true = grind (arith, nat_tests, few) in
      rw (numeral_test s h.0.0, plain, low) (ap Some h.1)
  reads (Err e) s plain h = go (are_digits s) refl (nat_lt (digits_value 10 s) (2 ^ 32)) refl
    where
      go : (t : Bool) → are_digits s ≡ t → (b : Bool) → nat_lt (digits_value 10 s) (2 ^ 32) ≡ b → None ≡ number_in s
      go false other b low = rw other refl
      go true numeral false low = rw (numeral, plain, low) refl
      go true numeral true low =
          let few : digits_value 10 s < 2 ^ 32 = grind (arith, nat_tests, low) in
          absurd (h (numeral_fact s numeral, few))

  -- what `parse` reads is the number
  pub number_is : (s : List ℕ) (r : Result ℕ E) → (slice_index s 0 == 43) ≡ false → has_leading_zero s ≡ false → ParsesUnsigned 32 10 s r → result_ok r ≡ number_in s
  number_is s r other plain h = reads r s plain (rw other at h)
