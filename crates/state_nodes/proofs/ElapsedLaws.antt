-- A number of units of a microsecond or more between two times is an integer of 64 bits.
use Rattle.std.proofs.Common.{◌≡◌, ℕ, zero, suc, ◌/◌, ◌<◌, ◌≤◌, ◌^◌, ℤ, pos, negsuc, neg_ℤ, true, nat_le, IsTrue, FitsSigned, int_div, unsigned_abs, to_z, of_z, refl, sym, ap, ◌∙◌, subst, arith}
use Rattle.std.specs.Int.{w64, w128}
use Rattle.std.proofs.Math.Nat.{div-lt_iff_lt-mul}
use Rattle.std.proofs.lemmas.Bool.Decides.{nat_tests}
use Rattle.std.proofs.lemmas.Int.{fits_signed_from_abs, quot_is, to_z-of_z}
use Rattle.kap_base.proofs.TestLaws.{first_of, second_of}
use Rattle.task_graph.specs.Sorts.{is_span, is_unit}
use Rattle.task_graph.specs.declared.sorts.TheConstants.{SPAN_LIMIT, UNIT_LIMIT}

abs_neg : (n : ℕ) → unsigned_abs (neg_ℤ (pos n)) ≡ n
abs_neg zero = refl
abs_neg (suc n) = refl

abs_quotient : (a : ℤ) (d : ℕ) → unsigned_abs (int_div a (pos d)) ≡ unsigned_abs a / d
abs_quotient (pos a) d = refl
abs_quotient (negsuc a) d = abs_neg (suc a / d)

below : (n d : ℕ) → n ≤ 2 ^ 64 → 1000 ≤ d → n / d < 2 ^ 63
below n d short long = (div-lt_iff_lt-mul {k = d} {x = n} {y = 2 ^ 63} (omega arith)).1 (omega arith)

quotient_below : (a : ℤ) (d : ℕ) → unsigned_abs a ≤ 2 ^ 64 → 1000 ≤ d → unsigned_abs (int_div a (pos d)) < 2 ^ 63
quotient_below a d short long = omega (arith, abs_quotient a d, below (unsigned_abs a) d short long)

quotient_fits : (a : ℤ) (d : ℕ) → unsigned_abs a ≤ 2 ^ 64 → 1000 ≤ d → FitsSigned w64 (int_div a (pos d))
quotient_fits a d short long = fits_signed_from_abs w64 (int_div a (pos d)) (quotient_below a d short long)

long_unit : (d : ℕ) → IsTrue (is_unit d) → 1000 ≤ d
long_unit d rule = let e : nat_le UNIT_LIMIT d ≡ true = first_of (nat_le UNIT_LIMIT d) (is_span d) rule in grind (arith, nat_tests)

short_unit : (d : ℕ) → IsTrue (is_unit d) → d < 2 ^ 63
short_unit d rule = let e : nat_le d SPAN_LIMIT ≡ true = second_of (nat_le UNIT_LIMIT d) (is_span d) rule in grind (arith, nat_tests)

-- what the code divides
abbrev pub divided : ℤ → ℤ → ℤ
divided a d = to_z w128 (of_z w128 (int_div (to_z w128 (of_z w128 a)) (to_z w128 (of_z w128 d))))

divided_is : (a d : ℤ) (u : ℕ) → unsigned_abs a ≤ 2 ^ 64 → d ≡ pos u → IsTrue (is_unit u) → divided a d ≡ int_div a (pos u)
divided_is a d u short is rule =
    let long = long_unit u rule in
    let f : FitsSigned w128 a = fits_signed_from_abs w128 a (omega arith) in
    let g : FitsSigned w128 (pos u) = fits_signed_from_abs w128 (pos u) (omega (arith, short_unit u rule)) in
    let h : FitsSigned w128 (int_div a (pos u)) = fits_signed_from_abs w128 (int_div a (pos u)) (omega (arith, quotient_below a u short long)) in
    ap (divided a) is ∙ quot_is w128 a (pos u) f g h

pub divided_fits : (a d : ℤ) (u : ℕ) → unsigned_abs a ≤ 2 ^ 64 → d ≡ pos u → IsTrue (is_unit u) → FitsSigned w64 (divided a d)
divided_fits a d u short is rule = subst (λ (z : ℤ). FitsSigned w64 z) (sym (divided_is a d u short is rule)) (quotient_fits a u short (long_unit u rule))

pub divided_shown : (a d : ℤ) (u : ℕ) → unsigned_abs a ≤ 2 ^ 64 → d ≡ pos u → IsTrue (is_unit u) → to_z w64 (of_z w64 (divided a d)) ≡ int_div a (pos u)
divided_shown a d u short is rule = to_z-of_z w64 (divided a d) (divided_fits a d u short is rule) ∙ divided_is a d u short is rule
