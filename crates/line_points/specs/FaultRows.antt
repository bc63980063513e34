-- Which fault a line has: the table of faults, row by row. Nothing here reads: a row says up to where the line is
-- spelled as the grammar has it, and what stands there in the place of what must. So it is the first fault from left to
-- right.
use Rattle.std.specs.Prelude.{◌≡◌, ◌≤◌, ◌<◌, ℕ, ◌*◌, Bool, true, false, not, ◌&&◌, ◌||◌, ◌==◌, List, [], ◌∷◌, ◌++◌, ◌⊎◌, length, nat_le, codes}
use Rattle.std.specs.Char.{is_ascii_digit}
use Rattle.std.specs.List.{list_all}
use Rattle.std.specs.Str.{is_utf8}
use Rattle.std.specs.Str.Parse.{digits_value}
use Rattle.kap_base.specs.declared.value.Value.{Value}
use Rattle.kap_base.specs.Texts.{backslash, begins_with, is_empty, number_sign}
use Rattle.kap_base.specs.declared.limits.TheConstants.{TIME_LIMIT}
use Rattle.line_points.specs.declared.line.TheConstants.{LINE_LIMIT}
use Rattle.line_points.specs.declared.fault.LineFault.{LineFault}
use Rattle.line_points.specs.declared.fault.LineFault.TheVariants as faults
use Rattle.line_points.specs.declared.part.Part.{Part}
use Rattle.line_points.specs.declared.part.Part.TheVariants as parts
use Rattle.line_points.specs.declared.mode.Mode.{Mode}
use Rattle.line_points.specs.declared.mode.Mode.TheVariants.{Recording}
use Rattle.line_points.specs.Parts.{begins, comma, equals, space, escapes, stops, is_at_separator}
use Rattle.line_points.specs.Numbers.{is_digits}
use Rattle.line_points.specs.Words.{is_exponent_mark, is_sign}
use Rattle.line_points.specs.Line.{Tag, Field, differ, nanoseconds, unit_of}
use Rattle.line_points.specs.Grammar.{Spells, SpellsFields, SpellsValue, IsBlank, minus, spaces}

-- ---- what is spelled before the fault

-- A byte of a text may stand for itself before these bytes of the line: it doesn't end the part, and it is no backslash
-- before a byte that it escapes. A backslash at the end of the line is itself.
abbrev pub stands_before : Part → ℕ → List ℕ → Bool
stands_before part b bytes = not (stops part b) && not (b == backslash && begins (escapes part) bytes)

-- A spelling of a text that stands before `rest`.
pub data SpellsBefore (part : Part) (rest : List ℕ) : List ℕ → List ℕ → Type 0 where
  none_before : SpellsBefore part rest [] []
  byte_before : (b : ℕ) (text bytes : List ℕ) → stands_before part b (bytes ++ rest) ≡ true →
      SpellsBefore part rest text bytes → SpellsBefore part rest (b ∷ text) (b ∷ bytes)
  escape_before : (b : ℕ) (text bytes : List ℕ) → escapes part b ≡ true →
      SpellsBefore part rest text bytes →
      SpellsBefore part rest (b ∷ text) (backslash ∷ b ∷ bytes)

-- A spelling of tags that stands before `rest`: each a comma, its key, '=' and its value, neither of them empty.
pub data TagsBefore (rest : List ℕ) : List Tag → List ℕ → Type 0 where
  no_tag_before : TagsBefore rest [] []
  tag_before : (k v key value : List ℕ) (ts : List Tag) (more : List ℕ) → is_empty k ≡ false →
      is_empty v ≡ false → Spells parts.Key k key → SpellsBefore parts.Key (more ++ rest) v value →
      TagsBefore rest ts more →
      TagsBefore rest ((k, v) ∷ ts) (comma ∷ (key ++ (equals ∷ (value ++ more))))

-- The line is spelled up to `rest`: spaces, the measurement, and these tags under different keys. There a comma, a
-- space or nothing follows.
pub record SpelledUpTo (line : List ℕ) (ts : List Tag) (rest : List ℕ) : Type 0 where
  pub before : ℕ
  pub text : List ℕ
  pub name : List ℕ
  pub tags : List ℕ
  pub line_is : line ≡ spaces before ++ (name ++ (tags ++ rest))
  -- the measurement is not empty, and begins no comment
  pub some_name : is_empty text ≡ false
  pub no_comment : begins_with number_sign text ≡ false
  pub name_spelled : SpellsBefore parts.Measurement (tags ++ rest) text name
  pub tags_spelled : TagsBefore rest ts tags
  pub keys_differ : differ ts ≡ true
  pub ends : is_at_separator rest ≡ true

-- ---- what stands there

-- Where a measurement must begin, the line ends, or a comma or a comment stands.
pub record NoMeasurement (line : List ℕ) : Type 0 where
  pub before : ℕ
  pub rest : List ℕ
  pub line_is : line ≡ spaces before ++ rest
  pub none : (is_empty rest || begins_with comma rest || begins_with number_sign rest) ≡ true

-- a tag: a key, '=' and a value, neither empty, before a comma, a space or the end; its key isn't one of the tags `ts`
pub record NewTag (ts : List Tag) (bytes : List ℕ) : Type 0 where
  pub k : List ℕ
  pub v : List ℕ
  pub key : List ℕ
  pub value : List ℕ
  pub rest : List ℕ
  pub is : bytes ≡ key ++ (equals ∷ (value ++ rest))
  pub some_key : is_empty k ≡ false
  pub some_value : is_empty v ≡ false
  pub key_spelled : Spells parts.Key k key
  pub value_spelled : SpellsBefore parts.Key rest v value
  pub ends : is_at_separator rest ≡ true
  pub new : differ (ts ++ (k, v) ∷ []) ≡ true

-- digits; or digits or nothing, a point and digits
pub data SpellsMantissa : List ℕ → Type 0 where
  whole_mantissa : (digits : List ℕ) → is_digits digits ≡ true → SpellsMantissa digits
  pointed_mantissa : (whole fraction : List ℕ) → list_all is_ascii_digit whole ≡ true →
      is_digits fraction ≡ true → SpellsMantissa (whole ++ (codes "." ++ fraction))

-- e or E, a minus or a plus or none, and digits
pub data SpellsExponent : List ℕ → Type 0 where
  bare_exponent : (mark : ℕ) (digits : List ℕ) → is_exponent_mark mark ≡ true →
      is_digits digits ≡ true → SpellsExponent (mark ∷ digits)
  signed_exponent : (mark sign : ℕ) (digits : List ℕ) → is_exponent_mark mark ≡ true →
      is_sign sign ≡ true → is_digits digits ≡ true → SpellsExponent (mark ∷ sign ∷ digits)

-- A spelling of a floating-point number: a minus or none, a mantissa, and an exponent or none.
pub data SpellsFloat : List ℕ → Type 0 where
  without_exponent : (negative : Bool) (mantissa : List ℕ) → SpellsMantissa mantissa →
      SpellsFloat (minus negative ++ mantissa)
  with_exponent : (negative : Bool) (mantissa exponent : List ℕ) → SpellsMantissa mantissa →
      SpellsExponent exponent → SpellsFloat (minus negative ++ (mantissa ++ exponent))

-- A spelling of an unsigned integer: digits and 'u'.
pub data SpellsUnsigned : List ℕ → Type 0 where
  unsigned_word : (digits : List ℕ) → is_digits digits ≡ true → SpellsUnsigned (digits ++ codes "u")

-- a spelling of a value that a field can have, of a floating-point number, or of an unsigned integer
abbrev pub SpellsSome : List ℕ → Type 0
SpellsSome word = ((v : Value) × SpellsValue v word) ⊎ (SpellsFloat word ⊎ SpellsUnsigned word)

-- a field: a key that isn't empty, '=' and a value of this form, before a comma, a space or the end
pub record FieldOf (Form : List ℕ → Type 0) (bytes : List ℕ) : Type 0 where
  pub k : List ℕ
  pub key : List ℕ
  pub value : List ℕ
  pub rest : List ℕ
  pub is : bytes ≡ key ++ (equals ∷ (value ++ rest))
  pub some_key : is_empty k ≡ false
  pub key_spelled : Spells parts.Key k key
  pub value_spelled : Form value
  pub ends : is_at_separator rest ≡ true

-- Where a field must begin: at the first byte behind the spaces, or behind some fields and a comma.
pub data FieldPlace : List ℕ → List ℕ → Type 0 where
  first_place : (rest : List ℕ) → is_empty rest ≡ false → begins_with space rest ≡ false →
      FieldPlace rest rest
  later_place : (fs : List Field) (fields rest : List ℕ) → SpellsFields fs fields →
      FieldPlace (fields ++ (comma ∷ rest)) rest

-- What stands there: a floating-point number, an unsigned integer, or no field of any form.
pub data FieldFault (bytes : List ℕ) : LineFault → Type 0 where
  float_value : FieldOf SpellsFloat bytes → FieldFault bytes faults.FloatField
  unsigned_value : FieldOf SpellsUnsigned bytes → FieldFault bytes faults.UnsignedField
  no_field : (FieldOf SpellsSome bytes → ⊥) → FieldFault bytes faults.Field

-- one space or more, a minus or none, digits, and spaces
pub record TimeWord (bytes : List ℕ) : Type 0 where
  pub more : ℕ
  pub negative : Bool
  pub digits : List ℕ
  pub behind : ℕ
  pub is : bytes ≡ space ∷ (spaces more ++ ((minus negative ++ digits) ++ spaces behind))
  pub all : is_digits digits ≡ true

-- What stands behind the fields: no time, in Recording mode; a time out of range; or something else.
pub data TimeFault (mode : Mode) (bytes : List ℕ) : LineFault → Type 0 where
  missing_time : (n : ℕ) → mode ≡ Recording → bytes ≡ spaces n → TimeFault mode bytes faults.NoTime
  far_time : (t : TimeWord bytes) →
      nat_le (digits_value 10 t.digits * nanoseconds (unit_of mode)) TIME_LIMIT ≡ false →
      TimeFault mode bytes faults.TimeRange
  no_time : ((n : ℕ) → bytes ≡ spaces n → ⊥) → (TimeWord bytes → ⊥) →
      TimeFault mode bytes faults.Time

-- ---- the rows

-- The rows of a line that is a text: the line is spelled up to a place, and there stands what the row says.
pub data FaultOfText (mode : Mode) (line : List ℕ) : LineFault → Type 0 where
  measurement_row : NoMeasurement line → FaultOfText mode line faults.Measurement
  tag_row : (ts : List Tag) (rest : List ℕ) → SpelledUpTo line ts (comma ∷ rest) → (NewTag ts rest →
      ⊥) → FaultOfText mode line faults.Tag
  no_field_row : (ts : List Tag) (n : ℕ) → SpelledUpTo line ts (spaces n) →
      FaultOfText mode line faults.NoField
  field_row : (f : LineFault) (ts : List Tag) (more : ℕ) (fields rest : List ℕ) →
      SpelledUpTo line ts (space ∷ (spaces more ++ fields)) → FieldPlace fields rest →
      FieldFault rest f → FaultOfText mode line f
  time_row : (f : LineFault) (ts : List Tag) (more : ℕ) (fs : List Field) (fields rest : List ℕ) →
      SpelledUpTo line ts (space ∷ (spaces more ++ (fields ++ rest))) → SpellsFields fs fields →
      is_at_separator rest ≡ true → begins_with comma rest ≡ false → TimeFault mode rest f →
      FaultOfText mode line f

-- The rows of a line of any length: first whether it is a text.
pub data FaultOfStored (mode : Mode) (line : List ℕ) : LineFault → Type 0 where
  utf8_row : is_utf8 line ≡ false → FaultOfStored mode line faults.NotUtf8
  text_row : (f : LineFault) → is_utf8 line ≡ true → FaultOfText mode line f →
      FaultOfStored mode line f

-- The rows of a line: first whether it is too long. A blank line of Live mode has no fault.
pub data FaultOfLine (mode : Mode) (line : List ℕ) : LineFault → Type 0 where
  long_row : (IsBlank mode line → ⊥) → LINE_LIMIT < length line → FaultOfLine mode line faults.Long
  short_row : (f : LineFault) → (IsBlank mode line → ⊥) → length line ≤ LINE_LIMIT →
      FaultOfStored mode line f → FaultOfLine mode line f
