-- The machine of all groups, from the machine of one.
use Rattle.std.specs.Prelude.{◌≡◌, ℕ, List, [], ◌∷◌, Option, Some, None}
use Rattle.std.specs.FinMap.{get, insert, empty}
use Rattle.kap_base.specs.Maps.{KeyMap}
use Rattle.kap_base.specs.Points.{PointValue}
use Rattle.kap_base.specs.declared.items.Body.{Body}
use Rattle.kap_base.specs.declared.items.Body.TheVariants as bodies
use Rattle.node_core.specs.Meaning.{Arrival, Turn, silence}
use Rattle.node_core.specs.Groups.{Came, points_of, turn_of}
use Rattle.node_core.specs.Keys.{group_key}

-- a batch changes nothing
abbrev pub step_of : {C : Type 0} → C → (C → ℕ → PointValue → Turn C) → KeyMap C → ℕ → Body → Turn (KeyMap C)
step_of first step cells port (bodies.Point p) =
    let turn = turn_of first step cells port p in
    record { state = insert cells (group_key p) turn.state; said = turn.said }
step_of first step cells port (bodies.Batch b) = record { state = cells; said = silence }

-- a step of all groups, on an arrival
abbrev pub group_step : {C : Type 0} → C → (C → ℕ → PointValue → Turn C) → KeyMap C → Arrival → Turn (KeyMap C)
group_step first step cells x = step_of first step cells x.0 x.1

-- before the first point there is no group
abbrev pub no_groups : {C : Type 0} → KeyMap C
no_groups = empty

-- a group has a cell from its first point on
abbrev pub kept_at : {C : Type 0} → (List Came → C) → List Came → Option C
kept_at kept [] = None
kept_at kept (c ∷ cs) = Some (kept (c ∷ cs))

-- the cell of each group is what its points so far make of it
abbrev pub KeptCells : {C : Type 0} → (List Came → C) → List Arrival → KeyMap C → Type 0
KeptCells kept before cells = (key : List ℕ) → get cells key ≡ kept_at kept (points_of key before)
