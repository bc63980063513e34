-- What no integer of 64 bits is no time.
use Rattle.std.proofs.Common.{◌≡◌, ℕ, ◌<◌, ◌^◌, ℤ, pos, negsuc, Bool, true, false, refl, arith}
use Rattle.std.specs.Prelude.{nat_le, nat_lt}
use Rattle.std.specs.Int.{w64}
use Rattle.std.proofs.lemmas.Bool.Decides.{nat_tests}
use mir.Val.{SFits}
use Rattle.kap_base.specs.Points.{is_time}
use Rattle.kap_base.specs.declared.limits.TheConstants.{TIME_LIMIT}

not_true : (b : Bool) → (b ≡ true → ⊥) → b ≡ false
not_true true h = absurd (h refl)
not_true false h = refl

up_to : (n : ℕ) → nat_le n TIME_LIMIT ≡ true → n < 2 ^ 63
up_to n e = grind (arith, nat_tests)

below : (n : ℕ) → nat_lt n TIME_LIMIT ≡ true → n < 2 ^ 63
below n e = grind (arith, nat_tests)

pub no_time : (z : ℤ) → ¬ (SFits w64 z) → is_time z ≡ false
no_time (pos n) h = not_true (nat_le n TIME_LIMIT) (λ e. h (record { sfits = up_to n e }))
no_time (negsuc n) h = not_true (nat_lt n TIME_LIMIT) (λ e. h (record { sfits = below n e }))
