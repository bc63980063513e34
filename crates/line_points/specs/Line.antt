-- What a line of the line protocol means: a point, nothing, or a fault, the first from left to right.
use Rattle.std.specs.Prelude.{◌≡◌, ℕ, zero, suc, ℤ, ◌*◌, Bool, true, false, not, ◌&&◌, ◌||◌, List, [], ◌∷◌, length, drop, Option, Some, None, Result, Ok, Err, bytes_eq, nat_lt, nat_le, if◌then◌else◌, IsTrue}
use Rattle.std.specs.List.{list_all, list_any, before_first, position_or_len}
use Rattle.std.specs.Option.{option_map_or}
use Rattle.std.specs.Str.{is_utf8}
use Rattle.std.specs.FinMap.{empty}
use Rattle.kap_base.specs.declared.value.Value.{Value}
use Rattle.kap_base.specs.declared.value.Value.TheVariants as values
use Rattle.kap_base.specs.Words.{◌>>=◌}
use Rattle.kap_base.specs.Texts.{is_empty, begins_with, number_sign, has_line_feed}
use Rattle.kap_base.specs.Maps.{KeyMap, with_entries}
use Rattle.kap_base.specs.Points.{PointValue, is_time}
use Rattle.kap_base.specs.declared.limits.TheConstants.{TIME_LIMIT}
use Rattle.line_points.specs.declared.line.TheConstants.{LINE_LIMIT}
use Rattle.line_points.specs.declared.fault.LineFault.{LineFault}
use Rattle.line_points.specs.declared.fault.LineFault.TheVariants as faults
use Rattle.line_points.specs.declared.part.Part.TheVariants as parts
use Rattle.line_points.specs.declared.mode.Unit.{Unit}
use Rattle.line_points.specs.declared.mode.Unit.TheVariants as units
use Rattle.line_points.specs.declared.mode.Mode.{Mode}
use Rattle.line_points.specs.declared.mode.Mode.TheVariants.{Live, Recording}
use Rattle.line_points.specs.Parts.{comma, equals, quote, is_space, is_separator, is_at_separator, without_spaces, text_at}
use Rattle.line_points.specs.Numbers.{number_of, with_sign}
use Rattle.line_points.specs.Words.{word_value}

-- a tag: a key and a value
abbrev pub Tag : Type 0
Tag = List ℕ × List ℕ

-- a field: a key and a value
abbrev pub Field : Type 0
Field = List ℕ × Value

-- ---- the parts, each with the bytes behind it

-- the measurement: not empty, and no comment
unfoldable pub measurement_at : List ℕ → Result (List ℕ × List ℕ) LineFault
measurement_at bytes =
    if begins_with number_sign bytes || is_empty (text_at parts.Measurement bytes).0
    then Err faults.Measurement else Ok (text_at parts.Measurement bytes)

-- a key and a value, neither empty, with no further '='
unfoldable pub tag_at : List ℕ → Result (Tag × List ℕ) LineFault
tag_at bytes =
    let key = text_at parts.Key bytes in
    let value = text_at parts.Key (drop 1 key.1) in
    if begins_with equals key.1 && not (is_empty key.0) && not (is_empty value.0) && not (begins_with equals value.1)
    then Ok ((key.0, value.0), value.1) else Err faults.Tag

-- the tags in their order, each behind a comma; at most n of them
unfoldable pub tags_from : ℕ → List ℕ → Result (List Tag × List ℕ) LineFault
tags_from zero bytes = Ok ([], bytes)
tags_from (suc n) bytes =
    if begins_with comma bytes
    then (do
      tag ← tag_at (drop 1 bytes)
      tags ← tags_from n tag.1
      Ok (tag.0 ∷ tags.0, tags.1))
    else Ok ([], bytes)

-- no key stands twice
abbrev pub differ : List Tag → Bool
differ [] = true
differ (t ∷ ts) = not (list_any (λ u. bytes_eq u.0 t.0) ts) && differ ts

-- the tags behind a measurement, under different keys
unfoldable pub tags_at : List ℕ → Result (KeyMap (List ℕ) × List ℕ) LineFault
tags_at bytes = do
  tags ← tags_from (length bytes) bytes
  if differ tags.0 then Ok (with_entries empty tags.0, tags.1) else Err faults.Tag

-- what stands behind an opening quote: a text, the closing quote, and behind it a comma, a space or nothing
unfoldable pub quoted_at : List ℕ → Result (Value × List ℕ) LineFault
quoted_at bytes =
    let text = text_at parts.Quoted bytes in
    let rest = drop 1 text.1 in
    if begins_with quote text.1 && is_at_separator rest then Ok (values.Str text.0, rest) else Err faults.Field

-- a value without quotes runs to the next comma or space
unfoldable pub word_at : List ℕ → Result (Value × List ℕ) LineFault
word_at bytes = do
  value ← word_value (before_first is_separator bytes)
  Ok (value, drop (position_or_len is_separator bytes) bytes)

-- the value of a field
abbrev pub value_at : List ℕ → Result (Value × List ℕ) LineFault
value_at bytes = if begins_with quote bytes then quoted_at (drop 1 bytes) else word_at bytes

-- a key that is not empty, '=', and a value
unfoldable pub field_at : List ℕ → Result (Field × List ℕ) LineFault
field_at bytes =
    let key = text_at parts.Key bytes in
    if begins_with equals key.1 && not (is_empty key.0)
    then (do
      value ← value_at (drop 1 key.1)
      Ok ((key.0, value.0), value.1))
    else Err faults.Field

-- the fields in their order, with commas between them; at most n of them
unfoldable pub fields_from : ℕ → List ℕ → Result (List Field × List ℕ) LineFault
fields_from zero bytes = Err faults.Field
fields_from (suc n) bytes = do
  field ← field_at bytes
  fields ← (if begins_with comma field.1 then fields_from n (drop 1 field.1) else Ok ([], field.1))
  Ok (field.0 ∷ fields.0, fields.1)

-- the fields behind measurement, tags and spaces; of equal keys the last one counts
unfoldable pub fields_at : List ℕ → Result (KeyMap Value × List ℕ) LineFault
fields_at bytes =
    let behind = without_spaces bytes in
    if is_empty behind then Err faults.NoField
    else (do
      fields ← fields_from (length behind) behind
      Ok (with_entries empty fields.0, fields.1))

-- ---- the time

-- the nanoseconds of a unit
abbrev pub nanoseconds : Unit → ℕ
nanoseconds units.Ns = 1
nanoseconds units.Us = 1000
nanoseconds units.Ms = 1000000
nanoseconds units.S = 1000000000
nanoseconds units.M = 60000000000
nanoseconds units.H = 3600000000000

-- what a time of a line counts
abbrev pub unit_of : Mode → Unit
unit_of (Live unit now) = unit
unit_of Recording = units.Ns

-- the time of a line without one
abbrev pub missing_time : Mode → Result ℤ LineFault
missing_time (Live unit now) = Ok now
missing_time Recording = Err faults.NoTime

-- a number of units, within the range of times
abbrev pub time_of_units : Unit → Bool × ℕ → Result ℤ LineFault
time_of_units unit n = if nat_le (n.1 * nanoseconds unit) TIME_LIMIT then Ok (with_sign (n.0, n.1 * nanoseconds unit))
    else Err faults.TimeRange

-- the time that a word spells
abbrev pub word_time : Mode → List ℕ → Result ℤ LineFault
word_time mode word = option_map_or (time_of_units (unit_of mode)) (number_of word) (Err faults.Time)

-- the time, and behind it nothing but spaces
unfoldable pub time_of : Mode → List ℕ → Result ℤ LineFault
time_of mode bytes =
    if is_empty bytes then missing_time mode
    else if list_all is_space (drop (position_or_len is_space bytes) bytes)
    then word_time mode (before_first is_space bytes)
    else Err faults.Time

-- ---- the whole line

-- the point of a line that begins with no space: ungrouped, of this database and policy
unfoldable pub point_of : List ℕ → List ℕ → Mode → List ℕ → Result PointValue LineFault
point_of db rp mode bytes = do
  name ← measurement_at bytes
  tags ← tags_at name.1
  fields ← fields_at tags.1
  time ← time_of mode (without_spaces fields.1)
  Ok (record {
    db = db;
    rp = rp;
    name = name.0;
    tags = tags.0;
    fields = fields.0;
    dims = [];
    by_name = false;
    time = time;
  })

-- the point of a line of any length
unfoldable pub stored_of : List ℕ → List ℕ → Mode → List ℕ → Result PointValue LineFault
stored_of db rp mode line = if not (is_utf8 line) then Err faults.NotUtf8 else point_of db rp mode (without_spaces line)

-- nothing, or a comment
abbrev pub is_blank : List ℕ → Bool
is_blank bytes = is_empty bytes || begins_with number_sign bytes

-- lines as clients write them
abbrev pub is_live : Mode → Bool
is_live (Live unit now) = true
is_live Recording = false

-- the point of a line, or none where a Live line holds nothing or a comment
unfoldable pub line_of : List ℕ → List ℕ → Mode → List ℕ → Result (Option PointValue) LineFault
line_of db rp mode line =
    if is_live mode && is_blank (without_spaces line) then Ok None
    else if nat_lt LINE_LIMIT (length line) then Err faults.Long
    else (do
      point ← stored_of db rp mode line
      Ok (Some point))

-- ---- the three answers

-- the line reads as the point
abbrev pub Reads : List ℕ → List ℕ → Mode → List ℕ → PointValue → Type 0
Reads db rp mode line point = line_of db rp mode line ≡ Ok (Some point)

-- the line holds no point, and no fault
abbrev pub Blank : List ℕ → List ℕ → Mode → List ℕ → Type 0
Blank db rp mode line = line_of db rp mode line ≡ Ok None

-- the line has this fault, the first one
abbrev pub Faulty : List ℕ → List ℕ → Mode → List ℕ → LineFault → Type 0
Faulty db rp mode line fault = line_of db rp mode line ≡ Err fault

-- the moment of a Live mode lies in the range of times
abbrev pub has_time : Mode → Bool
has_time (Live unit now) = is_time now
has_time Recording = true

-- The line, the database and the policy hold no line feed, and the moment of a Live mode lies in the range of times.
pub record IsReadable (database policy : List ℕ) (mode : Mode) (bytes : List ℕ) : Type 0 where
  pub line : IsTrue (not (has_line_feed bytes))
  pub db : IsTrue (not (has_line_feed database))
  pub rp : IsTrue (not (has_line_feed policy))
  pub time : IsTrue (has_time mode)
