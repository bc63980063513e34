-- By what points are grouped, and points that are given together.
use Rattle.std.specs.Prelude.{ℕ, ℤ, Bool, true, false, ◌&&◌, ◌||◌, if◌then◌else◌, List, [], ◌∷◌, map, Option, Some, None, IsTrue, unwrap_or}
use Rattle.std.specs.FinMap.{get}
use Rattle.std.specs.Option.{option_map_or}
use Rattle.kap_base.specs.Texts.{is_empty, is_name, is_measurement}
use Rattle.kap_base.specs.Maps.{KeyMap}
use Rattle.kap_base.specs.Points.{PointValue, are_dimensions, is_time}

-- the measurement, where points are grouped by it, the dimensions, and the value of each
pub record GroupValue : Type 0 where
  pub name : Option (List ℕ)
  pub dims : List (List ℕ)
  pub values : List (List ℕ)

-- points of one group that are given together
pub record BatchValue : Type 0 where
  pub name : List ℕ
  pub group : GroupValue
  pub tmax : ℤ
  pub points : List PointValue

-- the value of a tag, empty where it is missing
abbrev pub tag_value : KeyMap (List ℕ) → List ℕ → List ℕ
tag_value tags dim = unwrap_or (get tags dim) []

-- the group of a point
abbrev pub group_of : PointValue → GroupValue
group_of p =
    record { name = (if p.by_name then Some p.name else None); dims = p.dims; values = map (tag_value p.tags) p.dims }

-- the value of a dimension: empty, or both are name texts
abbrev pub is_tag_value : List ℕ → List ℕ → Bool
is_tag_value dim value = is_empty value || (is_name dim && is_name value)

-- one value for each dimension
abbrev pub are_tag_values : List (List ℕ) → List (List ℕ) → Bool
are_tag_values [] [] = true
are_tag_values [] (value ∷ values) = false
are_tag_values (dim ∷ dims) [] = false
are_tag_values (dim ∷ dims) (value ∷ values) = is_tag_value dim value && are_tag_values dims values

-- what holds of each group
pub record IsGroup (g : GroupValue) : Type 0 where
  pub name : IsTrue (option_map_or is_measurement g.name true)
  pub dims : IsTrue (are_dimensions g.dims)
  pub values : IsTrue (are_tag_values g.dims g.values)

-- what holds of each batch
pub record IsBatch (b : BatchValue) : Type 0 where
  pub name : IsTrue (is_measurement b.name)
  pub tmax : IsTrue (is_time b.tmax)
