-- What `int`, `bool` and `string` give of each other's values.
use Rattle.std.specs.Prelude.{ℕ, ℤ, pos, neg_ℤ, ◌^◌, ◌-◌, Bool, true, false, ◌&&◌, ◌==◌, List, [], ◌∷◌, length, drop, Option, Some, None, nat_lt, int_le, codes, bytes_eq, if◌then◌else◌}
use Rattle.std.specs.List.{list_any}
use Rattle.std.specs.Str.{all_ascii_digits}
use Rattle.std.specs.Str.Parse.{digits_value, starts_with_minus}

-- one decimal digit or more, and nothing else
abbrev pub are_digits : List ℕ → Bool
are_digits ds = nat_lt 0 (length ds) && all_ascii_digits ds

-- the number within 64 bits with sign, if it is
abbrev pub within_64_bits : ℤ → Option ℤ
within_64_bits n = if int_le (neg_ℤ (pos (2 ^ 63))) n && int_le n (pos (2 ^ 63 - 1)) then Some n else None

-- the number that an optional `-` and digits write
abbrev pub number_in : List ℕ → Option ℤ
number_in s = if starts_with_minus s
    then (if are_digits (drop 1 s) then within_64_bits (neg_ℤ (pos (digits_value 10 (drop 1 s)))) else None)
    else (if are_digits s then within_64_bits (pos (digits_value 10 s)) else None)

-- 1, and the spellings of true in the line protocol
abbrev pub is_true : List ℕ → Bool
is_true s = list_any (bytes_eq s) (codes "1" ∷ codes "t" ∷ codes "T" ∷ codes "true" ∷ codes "True" ∷ codes "TRUE" ∷ [])

-- 0, and the spellings of false in the line protocol
abbrev pub is_false : List ℕ → Bool
is_false s =
    list_any (bytes_eq s) (codes "0" ∷ codes "f" ∷ codes "F" ∷ codes "false" ∷ codes "False" ∷ codes "FALSE" ∷ [])

-- the truth value that a text spells
abbrev pub truth_in : List ℕ → Option Bool
truth_in s = if is_true s then Some true else (if is_false s then Some false else None)

-- the truth value that a number stands for
abbrev pub truth_of : ℤ → Option Bool
truth_of (pos n) = if n == 1 then Some true else (if n == 0 then Some false else None)
truth_of _ = None

-- how a truth value is written
abbrev pub truth_text : Bool → List ℕ
truth_text true = codes "true"
truth_text false = codes "false"
