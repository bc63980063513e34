-- By what a node groups points.
use Rattle.std.specs.Prelude.{ℕ, Bool, ◌||◌, List, map}
use Rattle.std.specs.FinMap.{empty, keys}
use Rattle.kap_base.specs.Maps.{KeyMap, with_entries}
use Rattle.kap_base.specs.Points.{PointValue}
use Rattle.node_core.specs.declared.said.Said.{Said}
use Rattle.basic_nodes.specs.declared.dimensions.Grouping.{Grouping}
use Rattle.basic_nodes.specs.declared.dimensions.Grouping.TheVariants.{By, ByAll}
use Rattle.basic_nodes.specs.declared.dimensions.Regrouping.{Regrouping}
use Rattle.node_core.specs.Meaning.{passed}

-- a map that has these keys
abbrev pub map_of : List (List ℕ) → KeyMap (Unit {0})
map_of names = with_entries empty (map (λ name. (name, tt)) names)

-- names in byte order, each once
abbrev pub in_order : List (List ℕ) → List (List ℕ)
in_order names = keys (map_of names)

-- the dimensions of a point: these, or all its tags
abbrev pub dims_of : Grouping → PointValue → List (List ℕ)
dims_of (By dims) p = dims
dims_of ByAll p = keys p.tags

-- the point, grouped anew
abbrev pub grouped : Grouping → Bool → PointValue → PointValue
grouped grouping by_name p = record p { dims = dims_of grouping p; by_name = by_name }

-- `groupBy`: the dimensions are set; grouping by name is turned on, or stays as it was
abbrev pub group_by_says : Regrouping → PointValue → Said
group_by_says r p = passed (grouped r.grouping (p.by_name || r.by_measurement) p)
