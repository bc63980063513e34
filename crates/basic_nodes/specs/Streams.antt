-- The stream: the points of the databases and policies that a task sees.
use Rattle.std.specs.Prelude.{Bool, ◌&&◌, ◌||◌, ◌==◌, List, length, bytes_eq}
use Rattle.std.specs.List.{list_any}
use Rattle.kap_base.specs.Points.{PointValue}
use Rattle.kap_base.specs.declared.dbrp.Dbrp.{Dbrp}
use Rattle.node_core.specs.declared.said.Said.{Said}
use Rattle.node_core.specs.Meaning.{passed_if}

-- the point is of this database and policy
abbrev pub is_of : PointValue → Dbrp → Bool
is_of p d = bytes_eq d.db p.db && bytes_eq d.rp p.rp

-- the task sees the point: there are none of these, or it is of one of them
abbrev pub sees : List Dbrp → PointValue → Bool
sees dbrps p = length dbrps == 0 || list_any (is_of p) dbrps

-- the points of these databases and policies, and all points where none are named
abbrev pub stream_says : List Dbrp → PointValue → Said
stream_says dbrps p = passed_if (sees dbrps p) p
