-- How a group is spelled: its measurement, where points are grouped by it, its dimensions, and their values.
use Rattle.std.specs.Prelude.{ℕ, Bool, true, ◌&&◌, List, Option, IsTrue, refl}
use Rattle.std.specs.Option.{option_map_or}
use Rattle.kap_base.specs.Groups.{GroupValue, are_tag_values}
use Rattle.kap_base.specs.Points.{are_dimensions}
use Rattle.kap_base.specs.Texts.{is_measurement}
use Rattle.state_code.specs.Spelling.{Reading, IsSpelling, FitsPair, FitsList, FitsOption, spell_pair, read_pair, spell_list, read_list, spell_option, read_option, spell_bytes, read_as, read_where}
use Rattle.state_code.specs.Laws.{pair_spelled, list_spelled, option_spelled, as_parts, tested_by}
use Rattle.state_code.specs.Texts.{FitsText, read_text, text_spelled}

-- what holds of each group, as a test
abbrev pub are_group : Option (List ℕ) → List (List ℕ) → List (List ℕ) → Bool
are_group name dims values =
    option_map_or is_measurement name true && (are_dimensions dims && are_tag_values dims values)

-- the same of a whole group
abbrev pub is_group : GroupValue → Bool
is_group g = are_group g.name g.dims g.values

-- a group as a tuple of its parts
abbrev pub group_parts : GroupValue → Option (List ℕ) × (List (List ℕ) × List (List ℕ))
group_parts g = (g.name, (g.dims, g.values))

-- and the group of such a tuple
abbrev pub group_with : Option (List ℕ) × (List (List ℕ) × List (List ℕ)) → GroupValue
group_with x = record { name = x.0; dims = x.1.0; values = x.1.1 }

-- texts of fewer than 2^32 bytes, fewer than 2^32 dimensions; and it is a group
abbrev pub FitsGroup : GroupValue → Type 0
FitsGroup g = FitsPair (FitsOption FitsText) (FitsPair (FitsList FitsText) (FitsList FitsText)) (group_parts g)
    × IsTrue (is_group g)

-- its parts one behind the other
abbrev pub spell_group : GroupValue → List ℕ
spell_group g =
    spell_pair (spell_option spell_bytes) (spell_pair (spell_list spell_bytes) (spell_list spell_bytes)) (group_parts g)

-- the parts that stand there, where they make a group
abbrev pub read_group : Reading GroupValue
read_group =
    read_where is_group
    (read_as group_with (read_pair (read_option read_text) (read_pair (read_list read_text) (read_list read_text))))

-- what is spelled is read again, and only that
pub group_spelled : IsSpelling FitsGroup spell_group read_group
group_spelled =
    tested_by (as_parts
    (pair_spelled (option_spelled text_spelled)
    (pair_spelled (list_spelled text_spelled) (list_spelled text_spelled))) group_with group_parts (λ g. refl)
    (λ x. refl)) is_group
