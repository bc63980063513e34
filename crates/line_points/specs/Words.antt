-- The words without quotes that stand for a field's value, and those that stand for none.
use Rattle.std.specs.Prelude.{ℕ, ◌+◌, Bool, true, false, ◌&&◌, ◌||◌, ◌==◌, List, take, drop, Option, Result, Ok, Err, position, option_and_then, if◌then◌else◌}
use Rattle.std.specs.Option.{option_map, option_map_or}
use Rattle.kap_base.specs.Texts.{is_empty}
use Rattle.kap_base.specs.declared.value.Value.{Value}
use Rattle.kap_base.specs.declared.value.Value.TheVariants as values
use Rattle.line_points.specs.declared.fault.LineFault.{LineFault}
use Rattle.line_points.specs.declared.fault.LineFault.TheVariants.{Field, FloatField, UnsignedField}
use Rattle.line_points.specs.Parts.{begins}
use Rattle.line_points.specs.Numbers.{is_digits, minus_sign, is_minus, number_of, with_sign, fits, before_last_byte, is_true, is_false}

-- the byte of a plus
abbrev pub plus_sign : ℕ
plus_sign = 43

-- the byte of a decimal point
abbrev pub decimal_point : ℕ
decimal_point = 46

-- the bytes of e and of E
abbrev pub small_e : ℕ
small_e = 101

-- the byte of `E`
abbrev pub capital_e : ℕ
capital_e = 69

-- the byte of i, behind an integer
abbrev pub integer_mark : ℕ
integer_mark = 105

-- the byte of u, behind an unsigned integer
abbrev pub unsigned_mark : ℕ
unsigned_mark = 117

-- a minus or a plus
abbrev pub is_sign : ℕ → Bool
is_sign b = b == minus_sign || b == plus_sign

-- a decimal point
abbrev pub is_point : ℕ → Bool
is_point b = b == decimal_point

-- e or E
abbrev pub is_exponent_mark : ℕ → Bool
is_exponent_mark b = b == small_e || b == capital_e

-- the bytes without a first one that passes p
abbrev pub without : (ℕ → Bool) → List ℕ → List ℕ
without p bytes = if begins p bytes then drop 1 bytes else bytes

-- the bytes before and behind the first one that passes p
abbrev pub cut : (ℕ → Bool) → List ℕ → Option (List ℕ × List ℕ)
cut p bytes = option_map (λ i. (take i bytes, drop (i + 1) bytes)) (position p bytes)

-- digits; or digits or nothing, a point and digits
abbrev pub is_mantissa : List ℕ → Bool
is_mantissa bytes =
    option_map_or (λ p. (is_empty p.0 || is_digits p.0) && is_digits p.1) (cut is_point bytes) (is_digits bytes)

-- an optional minus, a mantissa, and optionally an exponent: its mark, an optional sign and digits
abbrev pub is_float : List ℕ → Bool
is_float word =
    let number = without is_minus word in
    option_map_or (λ p. is_mantissa p.0 && is_digits (without is_sign p.1)) (cut is_exponent_mark number)
    (is_mantissa number)

-- the number of a word that ends in 'i'
abbrev pub integer_of : List ℕ → Option (Bool × ℕ)
integer_of word = option_and_then number_of (before_last_byte integer_mark word)

-- digits and 'u'
abbrev pub is_unsigned : List ℕ → Bool
is_unsigned word = option_map_or is_digits (before_last_byte unsigned_mark word) false

-- an integer stands for a value within 64 bits signed
abbrev pub int_value : Bool × ℕ → Result Value LineFault
int_value n = if fits n then Ok (values.Int (with_sign n)) else Err Field

-- what a word that is no integer stands for
abbrev pub other_value : List ℕ → Result Value LineFault
other_value word =
    if is_true word then Ok (values.Bool true)
    else if is_false word then Ok (values.Bool false)
    else if is_float word then Err FloatField
    else if is_unsigned word then Err UnsignedField
    else Err Field

-- what a word stands for
abbrev pub word_value : List ℕ → Result Value LineFault
word_value word = option_map_or int_value (integer_of word) (other_value word)
