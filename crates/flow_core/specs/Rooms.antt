-- How many messages the edges of lives have room for.
use Rattle.std.specs.Prelude.{ℕ, List, map}
use Rattle.std.specs.List.{AllByRecursion as Each}
use Rattle.flow_cells.specs.Rooms.{HasRoom}
use Rattle.flow_life.specs.Rooms.{rooms_of}
use Rattle.flow_core.specs.Nets.{NumberedLife}

-- of each life and cell how many messages the edge of each out has room for
abbrev pub rooms_in : {N : Type 0} → List (NumberedLife N) → List (List (List ℕ))
rooms_in lives = map (λ l. rooms_of l.life.cells) lives

-- each edge of a life has room for just so many messages
abbrev pub HasRoomIn : {N : Type 0} → ℕ → NumberedLife N → Type 0
HasRoomIn capacity l = Each (HasRoom capacity) l.life.cells
