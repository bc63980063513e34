-- Moves, looks, loads and gathering leave the edges of a life the room that they have.
use Rattle.std.proofs.Common.{◌≡◌, ℕ, Bool, List, [], ◌∷◌, ap, map, refl, ◌∙◌}
use Rattle.std.specs.List.{AllZip}
use Rattle.kap_base.specs.declared.items.Msg.{Msg}
use Rattle.flow_cells.specs.declared.parts.CellParts.{CellParts}
use Rattle.flow_cells.specs.Gathers.{Gathers}
use Rattle.flow_cells.specs.Moved.{HasMoved}
use Rattle.flow_cells.specs.Rooms.{rooms}
use Rattle.flow_cells.proofs.RoomLaws.{room, rooms_begun, rooms_eased, rooms_moved}
use Rattle.flow_life.specs.Loads.{LoadsFrom}
use Rattle.flow_life.specs.Loose.{HasLooked}
use Rattle.flow_life.specs.Rooms.{rooms_of}

module _ {N : Type 0} where
  same-rooms : (R : CellParts N → CellParts N → Type 0) → ((c d : CellParts N) → R c d → rooms d ≡ rooms c) → (cells cells' : List (CellParts N)) → AllZip R cells cells' → rooms_of cells' ≡ rooms_of cells
  same-rooms R same [] [] z = refl
  same-rooms R same [] (d ∷ ds) z = absurd z
  same-rooms R same (c ∷ cs) [] z = absurd z
  same-rooms R same (c ∷ cs) (d ∷ ds) z = ap (λ (l : List ℕ). l ∷ rooms_of ds) (same c d z.0) ∙ ap (λ (l : List (List ℕ)). rooms c ∷ l) (same-rooms R same cs ds z.1)

  -- cells that moved
  pub rooms_went : (cells cells' : List (CellParts N)) → AllZip HasMoved cells cells' → rooms_of cells' ≡ rooms_of cells
  rooms_went cells cells' z = same-rooms HasMoved rooms_moved cells cells' z

  -- cells that may know more
  pub rooms_looked : (cells cells' : List (CellParts N)) → AllZip HasLooked cells cells' → rooms_of cells' ≡ rooms_of cells
  rooms_looked cells cells' z = same-rooms HasLooked (λ c d l. rooms_eased c.core.outs.items d.core.outs.items l.outs) cells cells' z

  -- cells from which effects were gathered
  pub rooms_gathered : (cells cells' : List (CellParts N)) → AllZip Gathers cells cells' → rooms_of cells' ≡ rooms_of cells
  rooms_gathered cells cells' z = same-rooms Gathers (λ c d h. ap (λ outs. map room outs.items) h.outs) cells cells' z

  -- cells whose load began
  pub rooms_loaded : (keeps : Bool) (source : List Msg) (cells cells' : List (CellParts N)) → AllZip (LoadsFrom keeps source) cells cells' → rooms_of cells' ≡ rooms_of cells
  rooms_loaded keeps source cells cells' z = same-rooms (LoadsFrom keeps source) (λ c d b. rooms_begun _ keeps c d b) cells cells' z
