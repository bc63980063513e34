-- How many messages the edges to the children of a cell have room for.
use Rattle.std.specs.Prelude.{◌≡◌, ℕ, List, map}
use Rattle.std.specs.List.{AllByRecursion as Each}
use Rattle.edge_queue.specs.Edges.{edge_capacity}
use Rattle.flow_cells.specs.declared.parts.CellParts.{CellParts}

-- of each out how many messages its edge has room for
abbrev pub rooms : {N : Type 0} → CellParts N → List ℕ
rooms c = map (λ o. edge_capacity o.tail) c.core.outs.items

-- the edge of each out has room for just so many
abbrev pub HasRoom : {N : Type 0} → ℕ → CellParts N → Type 0
HasRoom capacity c = Each (λ o. edge_capacity o.tail ≡ capacity) c.core.outs.items
