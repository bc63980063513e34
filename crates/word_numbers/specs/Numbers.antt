-- Numbers of a command line.
use Rattle.std.specs.Prelude.{ℕ, ◌^◌, Bool, not, ◌&&◌, ◌==◌, List, length, slice_index, Option, Some, None, nat_le, nat_lt, if◌then◌else◌}
use Rattle.std.specs.Str.{all_ascii_digits}
use Rattle.std.specs.Str.Parse.{digits_value}

-- a zero stands before other bytes
abbrev pub has_leading_zero : List ℕ → Bool
has_leading_zero word = slice_index word 0 == 48 && nat_lt 1 (length word)

-- one or more decimal digits
abbrev pub are_digits : List ℕ → Bool
are_digits word = nat_lt 0 (length word) && all_ascii_digits word

-- the number below 2^32 that decimal digits write without a sign or a leading zero
abbrev pub number_in : List ℕ → Option ℕ
number_in word =
    if are_digits word && not (has_leading_zero word) && nat_lt (digits_value 10 word) (2 ^ 32)
    then Some (digits_value 10 word) else None

-- the number, where it lies within limits
abbrev pub within : ℕ → ℕ → Option ℕ → Option ℕ
within low high None = None
within low high (Some n) = if nat_le low n && nat_le n high then Some n else None

-- the number that a word writes so, where it lies within limits
abbrev pub number_within : ℕ → ℕ → List ℕ → Option ℕ
number_within low high word = within low high (number_in word)
