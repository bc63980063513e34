-- Digits of a number, read from the front, where what they stand for is kept below 2^64.
use Rattle.std.proofs.Common.{◌≡◌, ℕ, ◌+◌, ◌-◌, ◌*◌, ◌<◌, true, List, length, get_or, take, min, arith}
use Rattle.std.specs.List.{list_all}
use Rattle.std.specs.Char.{is_ascii_digit, digit_value}
use Rattle.std.specs.Str.Parse.{digits_value}
use Rattle.std.proofs.lemmas.Int.Digits.{digits_value_more}
use Rattle.std.proofs.lemmas.Bool.Decides.{nat_tests}
use Rattle.std.proofs.lemmas.Grind.{common_steps}

pub digit_is : (b : ℕ) → is_ascii_digit b ≡ true → digit_value b ≡ b - 48
digit_is b h = grind (arith, nat_tests)

pub digit_at : (ds : List ℕ) (i : ℕ) → i < length ds → list_all is_ascii_digit ds ≡ true → is_ascii_digit (get_or ds i 0) ≡ true
digit_at ds i lt h = grind (arith, common_steps)

capped_step : (v d : ℕ) → min (min (min v 18446744073709551615 * 10) 18446744073709551615 + d) 18446744073709551615 ≡ min (v * 10 + d) 18446744073709551615
capped_step v d = omega arith

-- one digit more
pub capped_more : (ds : List ℕ) (i v : ℕ) → list_all is_ascii_digit ds ≡ true → i < length ds → v ≡ min (digits_value 10 (take i ds)) 18446744073709551615 → min (min (v * 10) 18446744073709551615 + (get_or ds i 0 - 48)) 18446744073709551615 ≡ min (digits_value 10 (take (i + 1) ds)) 18446744073709551615
capped_more ds i v digits lt is =
    let d : digit_value (get_or ds i 0) ≡ get_or ds i 0 - 48 = digit_is (get_or ds i 0) (digit_at ds i lt digits) in
    rw (digits_value_more 10 ds i lt, d, is) (capped_step (digits_value 10 (take i ds)) (get_or ds i 0 - 48))
