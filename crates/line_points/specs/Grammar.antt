-- The grammar of a line (InfluxDB 1.8 line protocol reference): which bytes spell a point. Nothing here reads: a line
-- is put together from spellings of the parts of a point, whatever spelling is chosen for each.
use Rattle.std.specs.Prelude.{◌≡◌, ℕ, ℤ, ◌*◌, Bool, true, false, not, ◌&&◌, ◌||◌, ◌==◌, List, [], ◌∷◌, ◌++◌, nat_le, codes, replicate, if◌then◌else◌}
use Rattle.std.specs.Str.Parse.{digits_value}
use Rattle.std.specs.FinMap.{empty}
use Rattle.kap_base.specs.declared.value.Value.{Value}
use Rattle.kap_base.specs.declared.value.Value.TheVariants as values
use Rattle.kap_base.specs.Texts.{backslash, begins_with, number_sign, is_empty}
use Rattle.kap_base.specs.Maps.{with_entries}
use Rattle.kap_base.specs.Points.{PointValue}
use Rattle.kap_base.specs.declared.limits.TheConstants.{TIME_LIMIT}
use Rattle.line_points.specs.declared.part.Part.{Part}
use Rattle.line_points.specs.declared.part.Part.TheVariants as parts
use Rattle.line_points.specs.declared.mode.Unit.{Unit}
use Rattle.line_points.specs.declared.mode.Mode.{Mode}
use Rattle.line_points.specs.declared.mode.Mode.TheVariants.{Live}
use Rattle.line_points.specs.Parts.{begins, comma, equals, quote, space, escapes, stops}
use Rattle.line_points.specs.Numbers.{is_digits, is_true, is_false, with_sign, fits}
use Rattle.line_points.specs.Line.{Tag, Field, differ, nanoseconds, unit_of}

-- A byte of a text may stand for itself before these bytes of its spelling: it doesn't end the part, and where it
-- is a backslash, another byte of the spelling follows, one that it doesn't escape.
abbrev pub stands_alone : Part → ℕ → List ℕ → Bool
stands_alone part b bytes = not (stops part b) && (not (b == backslash) || begins (λ c. not (escapes part c)) bytes)

-- A spelling of a text: its bytes in order, each as itself or, where the part escapes it, behind a backslash.
pub data Spells (part : Part) : List ℕ → List ℕ → Type 0 where
  no_bytes : Spells part [] []
  plain : (b : ℕ) (text bytes : List ℕ) → stands_alone part b bytes ≡ true →
      Spells part text bytes → Spells part (b ∷ text) (b ∷ bytes)
  behind_backslash : (b : ℕ) (text bytes : List ℕ) → escapes part b ≡ true →
      Spells part text bytes → Spells part (b ∷ text) (backslash ∷ b ∷ bytes)

-- a minus, or nothing
abbrev pub minus : Bool → List ℕ
minus negative = if negative then codes "-" else []

-- A spelling of a value: digits, perhaps behind a minus, and 'i'; a word for true or for false; a text between quotes.
pub data SpellsValue : Value → List ℕ → Type 0 where
  integer_word : (negative : Bool) (digits : List ℕ) → is_digits digits ≡ true →
      fits (negative, digits_value 10 digits) ≡ true →
      SpellsValue (values.Int (with_sign (negative, digits_value 10 digits))) (minus negative ++ (digits ++ codes "i"))
  true_word : (word : List ℕ) → is_true word ≡ true → SpellsValue (values.Bool true) word
  false_word : (word : List ℕ) → is_false word ≡ true → SpellsValue (values.Bool false) word
  quoted_text : (text bytes : List ℕ) → Spells parts.Quoted text bytes →
      SpellsValue (values.Str text) (quote ∷ (bytes ++ quote ∷ []))

-- A spelling of tags: each a comma, its key, '=' and its value, neither of them empty.
pub data SpellsTags : List Tag → List ℕ → Type 0 where
  no_tags : SpellsTags [] []
  more_tags : (k v key value : List ℕ) (ts : List Tag) (rest : List ℕ) → is_empty k ≡ false →
      is_empty v ≡ false → Spells parts.Key k key → Spells parts.Key v value → SpellsTags ts rest →
      SpellsTags ((k, v) ∷ ts) (comma ∷ (key ++ (equals ∷ (value ++ rest))))

-- A spelling of fields: each its key, which isn't empty, '=' and its value, with commas between them.
pub data SpellsFields : List Field → List ℕ → Type 0 where
  one_field : (k : List ℕ) (v : Value) (key value : List ℕ) → is_empty k ≡ false →
      Spells parts.Key k key → SpellsValue v value →
      SpellsFields ((k, v) ∷ []) (key ++ (equals ∷ value))
  more_fields : (k : List ℕ) (v : Value) (key value : List ℕ) (fs : List Field) (rest : List ℕ) →
      is_empty k ≡ false → Spells parts.Key k key → SpellsValue v value → SpellsFields fs rest →
      SpellsFields ((k, v) ∷ fs) (key ++ (equals ∷ (value ++ (comma ∷ rest))))

-- n spaces
abbrev pub spaces : ℕ → List ℕ
spaces n = replicate n space

-- A spelling of a time behind the fields: one space or more and a number of the mode's unit, within the range of times;
-- nothing, where the mode is Live, for its `now`.
pub data SpellsTime : Mode → ℤ → List ℕ → Type 0 where
  no_time : (unit : Unit) (now : ℤ) → SpellsTime (Live unit now) now []
  some_time : (mode : Mode) (n : ℕ) (negative : Bool) (digits : List ℕ) → is_digits digits ≡ true →
      nat_le (digits_value 10 digits * nanoseconds (unit_of mode)) TIME_LIMIT ≡ true →
      SpellsTime mode (with_sign (negative, digits_value 10 digits * nanoseconds (unit_of mode)))
      (space ∷ (spaces n ++ (minus negative ++ digits)))

-- A line spells a point: spaces, the measurement, the tags, one space or more, the fields, the time, spaces. Each part
-- is a spelling of the point's part.
pub record Spelled (mode : Mode) (p : PointValue) (line : List ℕ) : Type 0 where
  pub before : ℕ
  pub name : List ℕ
  pub tags : List ℕ
  pub between : ℕ
  pub fields : List ℕ
  pub time : List ℕ
  pub behind : ℕ
  pub line_is : line ≡ spaces before
      ++ (name ++ (tags ++ (space ∷ (spaces between ++ (fields ++ (time ++ spaces behind))))))
  -- the measurement is not empty, and begins no comment
  pub some_name : is_empty p.name ≡ false
  pub no_comment : begins_with number_sign p.name ≡ false
  pub name_spelled : Spells parts.Measurement p.name name
  -- the tags in the order of the line, under different keys
  pub ts : List Tag
  pub tags_spelled : SpellsTags ts tags
  pub keys_differ : differ ts ≡ true
  pub tags_are : p.tags ≡ with_entries empty ts
  -- the fields in the order of the line; of equal keys the last one counts
  pub fs : List Field
  pub fields_spelled : SpellsFields fs fields
  pub fields_are : p.fields ≡ with_entries empty fs
  pub time_spelled : SpellsTime mode p.time time

-- a point that is grouped by nothing, of this database and policy
pub record IsOf (database policy : List ℕ) (p : PointValue) : Type 0 where
  pub db : p.db ≡ database
  pub rp : p.rp ≡ policy
  pub dims : p.dims ≡ []
  pub by_name : p.by_name ≡ false

-- the mode is Live, and the line is spaces, or spaces and behind them a number sign and what may follow it
pub data IsBlank : Mode → List ℕ → Type 0 where
  only_spaces : (unit : Unit) (now : ℤ) (n : ℕ) → IsBlank (Live unit now) (spaces n)
  comment : (unit : Unit) (now : ℤ) (n : ℕ) (rest : List ℕ) →
      IsBlank (Live unit now) (spaces n ++ number_sign ∷ rest)
