-- The greatest multiple of a duration not above a time.
use Rattle.std.proofs.Common.{◌≡◌, ℕ, ◌+◌, ◌-◌, ◌*◌, ◌/◌, ◌%◌, ◌<◌, sym, ap, ◌∙◌, arith, ℤ, pos, negsuc, ◌-ℤ◌, ◌*ℤ◌, neg_ℤ, ◌<ℤ◌, ◌≤ℤ◌}
use native.Mathlib.Omega.{div_any}
use Rattle.std.proofs.Math.Nat.{mul_comm, suc-mul}
use Rattle.std.specs.Int.{int_rem_euclid, int_div_euclid}
use Rattle.std.proofs.lemmas.Int.{ints}
use Rattle.kap_base.specs.Times.{year_one, trunc, IsGreatestMultiple}

-- a remainder is from 0 up to the divisor, and the rest is a multiple of it
record Remains (z d : ℤ) : Type 0 where
  low : pos 0 ≤ℤ int_rem_euclid z d
  high : int_rem_euclid z d <ℤ d
  rest : z -ℤ int_rem_euclid z d ≡ int_div_euclid z d *ℤ d

pos_rest : (a r m : ℕ) → m + r ≡ a → pos a -ℤ pos r ≡ pos m
pos_rest a r m e = omega (arith, ints)

neg_rest : (a r b m : ℕ) → m + r ≡ a → r < b → negsuc a -ℤ pos (b - 1 - r) ≡ neg_ℤ (pos (m + b))
neg_rest a r b m e lt = omega (arith, ints)

remains : (z d : ℤ) → pos 0 <ℤ d → Remains z d
remains (pos a) (pos b) h =
    let n : 0 < b = omega (arith, ints) in
    let lt : a % b < b = omega arith in
    let whole : b * (a / b) + a % b ≡ a = div_any a b in
    record { low = omega (arith, ints); high = omega (arith, ints); rest = pos_rest a (a % b) (a / b * b) (rw (mul_comm (a / b) b) whole) }
remains (negsuc a) (pos b) h =
    let n : 0 < b = omega (arith, ints) in
    let lt : a % b < b = omega arith in
    let whole : b * (a / b) + a % b ≡ a = div_any a b in
    record { low = omega (arith, ints); high = omega (arith, ints); rest = neg_rest a (a % b) b (a / b * b) (rw (mul_comm (a / b) b) whole) lt ∙ ap (λ k. neg_ℤ (pos k)) (sym (suc-mul (a / b) b)) }
remains z (negsuc b) h = absurd (omega (arith, ints))

pub trunc_is : (time duration : ℤ) → pos 0 <ℤ duration → IsGreatestMultiple time duration (trunc time duration)
unfolding trunc
trunc_is time duration h =
    let r = remains (time -ℤ year_one) duration h in
    record {
      multiple = (int_div_euclid (time -ℤ year_one) duration, omega (arith, ints, r.rest));
      not_above = omega (arith, ints, r.low, r.high);
      near = omega (arith, ints, r.low, r.high);
    }
