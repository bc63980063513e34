-- How a point is spelled: its texts, tags, fields, dimensions, whether it is grouped by name, and its time.
use Rattle.std.specs.Prelude.{ℕ, ℤ, Bool, ◌&&◌, nat_lt, List, IsTrue, FitsSigned, ⊤, refl}
use Rattle.std.specs.Int.{w64}
use Rattle.std.specs.List.{list_all}
use Rattle.std.specs.FinMap.{entries, len}
use Rattle.kap_base.specs.Maps.{KeyMap, byte_order}
use Rattle.kap_base.specs.Points.{PointValue, is_time, are_dimensions, are_fields}
use Rattle.kap_base.specs.Texts.{is_line, is_name, is_measurement}
use Rattle.kap_base.specs.declared.value.Value.{Value}
use Rattle.state_code.specs.Spelling.{Reading, IsSpelling, FitsPair, FitsList, spell_pair, read_pair, spell_list, read_list, spell_bytes, spell_bool, read_bool, read_as, read_where}
use Rattle.state_code.specs.Laws.{bool_spelled, pair_spelled, list_spelled, as_parts, tested_by}
use Rattle.state_code.specs.Maps.{FitsMap, spell_map, read_map, map_spelled}
use Rattle.state_code.specs.Numbers.{spell_i64, read_i64, i64_spelled}
use Rattle.state_code.specs.Texts.{FitsText, read_text, text_spelled}
use Rattle.state_code.specs.Values.{FitsValue, spell_value, read_value, value_spelled}

-- names of tags, and their values
abbrev pub are_tags : KeyMap (List ℕ) → Bool
are_tags tags = list_all (λ e. is_name e.0 && is_name e.1) (entries tags)

-- a database, a policy and a measurement
abbrev pub are_named : List ℕ → List ℕ → List ℕ → Bool
are_named db rp name = is_line db && (is_line rp && is_measurement name)

-- tags, some fields, dimensions, and a time
abbrev pub are_held : KeyMap (List ℕ) → KeyMap Value → List (List ℕ) → ℤ → Bool
are_held tags fields dims time =
    are_tags tags && (are_fields fields && (nat_lt 0 (len fields) && (are_dimensions dims && is_time time)))

-- what holds of each point, as a test
abbrev pub is_point : PointValue → Bool
is_point p = are_named p.db p.rp p.name && are_held p.tags p.fields p.dims p.time

-- its names; its maps; its dimensions, whether it is grouped by name, and its time
abbrev pub Parts : Type 0
Parts = (List ℕ × (List ℕ × List ℕ)) × ((KeyMap (List ℕ) × KeyMap Value) × (List (List ℕ) × (Bool × ℤ)))

-- a point as a tuple of its parts
abbrev pub point_parts : PointValue → Parts
point_parts p = ((p.db, (p.rp, p.name)), ((p.tags, p.fields), (p.dims, (p.by_name, p.time))))

-- and the point of such a tuple
abbrev pub point_of : Parts → PointValue
point_of x =
    record {
      db = x.0.0;
      rp = x.0.1.0;
      name = x.0.1.1;
      tags = x.1.0.0;
      fields = x.1.0.1;
      dims = x.1.1.0;
      by_name = x.1.1.1.0;
      time = x.1.1.1.1;
    }

-- texts of fewer than 2^32 bytes
abbrev pub FitsNamed : List ℕ × (List ℕ × List ℕ) → Type 0
FitsNamed = FitsPair FitsText (FitsPair FitsText FitsText)

-- fewer than 2^32 tags and fields, and each can be spelled
abbrev pub FitsMaps : KeyMap (List ℕ) × KeyMap Value → Type 0
FitsMaps = FitsPair (FitsMap FitsText FitsText) (FitsMap FitsText FitsValue)

-- fewer than 2^32 dimensions, and a time of 64 bits
abbrev pub FitsRest : List (List ℕ) × (Bool × ℤ) → Type 0
FitsRest = FitsPair (FitsList FitsText) (FitsPair (λ b. ⊤) (FitsSigned w64))

-- texts of fewer than 2^32 bytes, fewer than 2^32 tags, fields and dimensions; and it is a point
abbrev pub FitsPoint : PointValue → Type 0
FitsPoint p = FitsPair FitsNamed (FitsPair FitsMaps FitsRest) (point_parts p) × IsTrue (is_point p)

-- database, policy and measurement, one behind the other
abbrev pub spell_named : List ℕ × (List ℕ × List ℕ) → List ℕ
spell_named = spell_pair spell_bytes (spell_pair spell_bytes spell_bytes)

-- the tags, and then the fields
abbrev pub spell_maps : KeyMap (List ℕ) × KeyMap Value → List ℕ
spell_maps = spell_pair (spell_map spell_bytes spell_bytes) (spell_map spell_bytes spell_value)

-- the dimensions, whether it is grouped by name, and the time
abbrev pub spell_rest : List (List ℕ) × (Bool × ℤ) → List ℕ
spell_rest = spell_pair (spell_list spell_bytes) (spell_pair spell_bool spell_i64)

-- its parts one behind the other
abbrev pub spell_point : PointValue → List ℕ
spell_point p = spell_pair spell_named (spell_pair spell_maps spell_rest) (point_parts p)

-- the names that stand there
abbrev pub read_named : Reading (List ℕ × (List ℕ × List ℕ))
read_named = read_pair read_text (read_pair read_text read_text)

-- the tags and fields that stand there
abbrev pub read_maps : Reading (KeyMap (List ℕ) × KeyMap Value)
read_maps = read_pair (read_map byte_order read_text read_text) (read_map byte_order read_text read_value)

-- the dimensions, whether it is grouped by name, and the time that stand there
abbrev pub read_rest : Reading (List (List ℕ) × (Bool × ℤ))
read_rest = read_pair (read_list read_text) (read_pair read_bool read_i64)

-- the parts that stand there, where they make a point
abbrev pub read_point : Reading PointValue
read_point = read_where is_point (read_as point_of (read_pair read_named (read_pair read_maps read_rest)))

-- what is spelled is read again, and only that
pub point_spelled : IsSpelling FitsPoint spell_point read_point
point_spelled = tested_by (as_parts
    (pair_spelled (pair_spelled text_spelled (pair_spelled text_spelled text_spelled))
    (pair_spelled
    (pair_spelled (map_spelled byte_order text_spelled text_spelled)
    (map_spelled byte_order text_spelled value_spelled))
    (pair_spelled (list_spelled text_spelled) (pair_spelled bool_spelled i64_spelled))))
    point_of point_parts (λ p. refl) (λ x. refl)) is_point
