-- Numbers of a line, and the words for true and false.
use Rattle.std.specs.Prelude.{ℕ, ℤ, pos, neg_ℤ, ◌^◌, Bool, true, false, not, ◌&&◌, ◌==◌, List, [], ◌∷◌, drop, Option, Some, None, nat_lt, nat_le, codes, bytes_eq, if◌then◌else◌}
use Rattle.std.specs.Char.{is_ascii_digit}
use Rattle.std.specs.List.{list_all, list_any}
use Rattle.std.specs.Option.{option_map}
use Rattle.std.specs.Str.Parse.{digits_value}
use Rattle.kap_base.specs.Texts.{is_empty}
use Rattle.line_points.specs.Parts.{begins}

-- one digit or more
abbrev pub is_digits : List ℕ → Bool
is_digits bytes = not (is_empty bytes) && list_all is_ascii_digit bytes

-- the byte of a minus
abbrev pub minus_sign : ℕ
minus_sign = 45

-- a minus
abbrev pub is_minus : ℕ → Bool
is_minus b = b == minus_sign

-- the number of digits: whether it is negative, and how large it is
abbrev pub number_from : Bool → List ℕ → Option (Bool × ℕ)
number_from negative bytes = if is_digits bytes then Some (negative, digits_value 10 bytes) else None

-- the number of an optional minus and digits
abbrev pub number_of : List ℕ → Option (Bool × ℕ)
number_of bytes = if begins is_minus bytes then number_from true (drop 1 bytes) else number_from false bytes

-- the number with its sign
abbrev pub with_sign : Bool × ℕ → ℤ
with_sign (true, n) = neg_ℤ (pos n)
with_sign (false, n) = pos n

-- within 64 bits signed
abbrev pub fits : Bool × ℕ → Bool
fits (true, n) = nat_le n (2 ^ 63)
fits (false, n) = nat_lt n (2 ^ 63)

-- the bytes before the last one, where that is b
abbrev pub before_last_byte : ℕ → List ℕ → Option (List ℕ)
before_last_byte b [] = None
before_last_byte b (x ∷ []) = if x == b then Some [] else None
before_last_byte b (x ∷ y ∷ xs) = option_map (λ front. x ∷ front) (before_last_byte b (y ∷ xs))

-- the words for true
abbrev pub true_words : List (List ℕ)
true_words = codes "t" ∷ codes "T" ∷ codes "true" ∷ codes "True" ∷ codes "TRUE" ∷ []

-- the words for false
abbrev pub false_words : List (List ℕ)
false_words = codes "f" ∷ codes "F" ∷ codes "false" ∷ codes "False" ∷ codes "FALSE" ∷ []

-- one of the words for true
abbrev pub is_true : List ℕ → Bool
is_true word = list_any (bytes_eq word) true_words

-- one of the words for false
abbrev pub is_false : List ℕ → Bool
is_false word = list_any (bytes_eq word) false_words
