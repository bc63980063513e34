-- The one canonical spelling of a point.
use Rattle.std.specs.Prelude.{ℕ, true, false, List, [], ◌∷◌, ◌++◌, codes, if◌then◌else◌}
use Rattle.std.specs.List.{flat_map}
use Rattle.std.specs.Fmt.{signed_decimal}
use Rattle.std.specs.FinMap.{entries}
use Rattle.kap_base.specs.declared.value.Value.{Value}
use Rattle.kap_base.specs.declared.value.Value.TheVariants as values
use Rattle.kap_base.specs.Texts.{backslash}
use Rattle.kap_base.specs.Points.{PointValue}
use Rattle.line_points.specs.declared.part.Part.{Part}
use Rattle.line_points.specs.declared.part.Part.TheVariants as parts
use Rattle.line_points.specs.Parts.{escapes, space, quote, comma, equals}
use Rattle.line_points.specs.Line.{Tag, Field}

-- a byte, behind a backslash where the part escapes it
abbrev pub byte_text : Part → ℕ → List ℕ
byte_text part b = if escapes part b then backslash ∷ b ∷ [] else b ∷ []

-- a text with each such byte behind a backslash
abbrev pub part_text : Part → List ℕ → List ℕ
part_text part text = flat_map (byte_text part) text

-- an integer in decimal with 'i', a truth value as its word, a text between quotes
unfoldable pub value_text : Value → List ℕ
value_text (values.Int n) = signed_decimal n ++ codes "i"
value_text (values.Bool true) = codes "true"
value_text (values.Bool false) = codes "false"
value_text (values.Str text) = quote ∷ (part_text parts.Quoted text ++ quote ∷ [])

-- a tag behind its comma
abbrev pub tag_text : Tag → List ℕ
tag_text tag = comma ∷ (part_text parts.Key tag.0 ++ equals ∷ part_text parts.Key tag.1)

-- a field: its key, an equals sign and its value
abbrev pub field_text : Field → List ℕ
field_text field = part_text parts.Key field.0 ++ equals ∷ value_text field.1

-- the fields, with commas between them
abbrev pub fields_text : List Field → List ℕ
fields_text [] = []
fields_text (f ∷ fs) = field_text f ++ flat_map (λ g. comma ∷ field_text g) fs

-- the measurement, the tags and the fields in byte order of their keys, one space before the fields and one before the
-- time
abbrev pub Print : PointValue → List ℕ
Print p = part_text parts.Measurement p.name
    ++ (flat_map tag_text (entries p.tags)
    ++ (space ∷ (fields_text (entries p.fields) ++ (space ∷ signed_decimal p.time))))

-- the point without what it is grouped by
abbrev pub without_grouping : PointValue → PointValue
without_grouping p = record p { dims = []; by_name = false }
