-- By what points are grouped, as one text.
use Rattle.std.specs.Prelude.{ℕ, if◌then◌else◌, List, [], ◌∷◌, ◌++◌}
use Rattle.std.specs.List.{flat_map}
use Rattle.kap_base.specs.Groups.{tag_value}
use Rattle.kap_base.specs.Maps.{KeyMap}
use Rattle.kap_base.specs.Points.{PointValue}

-- a byte that stands in no text
abbrev pub mark : ℕ
mark = 255

-- a text, and its end
abbrev pub ended : List ℕ → List ℕ
ended text = text ++ mark ∷ []

-- the measurement, which is never empty, where points are grouped by it
abbrev pub name_part : PointValue → List ℕ
name_part p = if p.by_name then p.name else []

-- a dimension and its value
abbrev pub dim_part : KeyMap (List ℕ) → List ℕ → List ℕ
dim_part tags dim = ended dim ++ ended (tag_value tags dim)

-- the group of a point, as one text
abbrev pub group_key : PointValue → List ℕ
group_key p = ended (name_part p) ++ flat_map (dim_part p.tags) p.dims
