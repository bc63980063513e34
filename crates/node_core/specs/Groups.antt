-- Nodes that treat each group by itself.
use Rattle.std.specs.Prelude.{ℕ, Bool, true, false, List, [], ◌∷◌, ◌++◌, filter, Option, Some, None, bytes_eq}
use Rattle.std.specs.FinMap.{get}
use Rattle.kap_base.specs.Maps.{KeyMap}
use Rattle.kap_base.specs.Points.{PointValue}
use Rattle.kap_base.specs.declared.items.Body.{Body}
use Rattle.kap_base.specs.declared.items.Body.TheVariants as bodies
use Rattle.node_core.specs.declared.said.Said.{Said}
use Rattle.node_core.specs.Keys.{group_key}
use Rattle.node_core.specs.Meaning.{Arrival, Saying, Turn, silence}

-- a point, and no batch
abbrev pub is_point : Body → Bool
is_point (bodies.Point p) = true
is_point (bodies.Batch b) = false

-- a point at a port
abbrev pub Came : Type 0
Came = ℕ × PointValue

-- the point that a body is
abbrev pub point_in : ℕ → Body → List Came
point_in port (bodies.Point p) = (port, p) ∷ []
point_in port (bodies.Batch b) = []

-- the points among the arrivals
abbrev pub points : List Arrival → List Came
points [] = []
points (x ∷ xs) = point_in x.0 x.1 ++ points xs

-- those whose group has this key
abbrev pub points_of : List ℕ → List Arrival → List Came
points_of key xs = filter (λ c. bytes_eq key (group_key c.1)) (points xs)

-- what is said of a group's point, by the points of the group before it: those points, the port, the point
abbrev pub GroupAnswer : Type 0
GroupAnswer = List Came → ℕ → PointValue → Said

-- a batch is said nothing of
abbrev pub answer_to : GroupAnswer → List Arrival → ℕ → Body → Said
answer_to answer before port (bodies.Point p) = answer (points_of (group_key p) before) port p
answer_to answer before port (bodies.Batch b) = silence

-- what a node says that treats each group by itself
abbrev pub in_groups : GroupAnswer → Saying
in_groups answer before x = answer_to answer before x.0 x.1

-- what is kept of a group, or the first cell where nothing is
abbrev pub cell_or : {C : Type 0} → C → Option C → C
cell_or first None = first
cell_or first (Some c) = c

-- the step of a point's group
abbrev pub turn_of : {C : Type 0} → C → (C → ℕ → PointValue → Turn C) → KeyMap C → ℕ → PointValue → Turn C
turn_of first step cells port p = step (cell_or first (get cells (group_key p))) port p
