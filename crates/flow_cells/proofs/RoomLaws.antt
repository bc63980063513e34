-- Moves, looks and loads leave the edges of a cell the room that they have.
use Rattle.std.proofs.Common.{◌≡◌, ℕ, Bool, List, [], ◌∷◌, ap, map, refl, ◌∙◌}
use Rattle.std.specs.List.{AllZip}
use Rattle.kap_base.specs.declared.items.Msg.{Msg}
use Rattle.edge_queue.proofs.EdgeLaws.{SameTail-capacity, TailLoads-capacity}
use Rattle.edge_queue.specs.Edges.{edge_capacity}
use Rattle.flow_cells.specs.declared.parts.CellParts.{CellParts}
use Rattle.flow_cells.specs.declared.parts.OutEdge.{OutEdge}
use Rattle.flow_cells.specs.Loads.{Begins, OutLoads}
use Rattle.flow_cells.specs.Moved.{HasMoved, Went}
use Rattle.flow_cells.specs.Moves.{Eases}
use Rattle.flow_cells.specs.Rooms.{rooms}

-- the room of one out
abbrev pub room : OutEdge → ℕ
room o = edge_capacity o.tail

same-rooms : (R : OutEdge → OutEdge → Type 0) → ((a b : OutEdge) → R a b → room b ≡ room a) → (xs ys : List OutEdge) → AllZip R xs ys → map room ys ≡ map room xs
same-rooms R same [] [] z = refl
same-rooms R same [] (y ∷ ys) z = absurd z
same-rooms R same (x ∷ xs) [] z = absurd z
same-rooms R same (x ∷ xs) (y ∷ ys) z = ap (λ (n : ℕ). n ∷ map room ys) (same x y z.0) ∙ ap (λ (ns : List ℕ). room x ∷ ns) (same-rooms R same xs ys z.1)

-- outs that may know more have the same room
pub rooms_eased : (xs ys : List OutEdge) → AllZip Eases xs ys → map room ys ≡ map room xs
rooms_eased xs ys z = same-rooms Eases (λ a b e. SameTail-capacity e.tail.same) xs ys z

module _ {N : Type 0} where
  -- and so have those of a cell that moved
  pub rooms_moved : (c d : CellParts N) → HasMoved c d → rooms d ≡ rooms c
  rooms_moved c d m = same-rooms Went (λ a b w. SameTail-capacity w.tail) c.core.outs.items d.core.outs.items m.outs

  -- and of one whose load began
  pub rooms_begun : (msgs : List Msg) (keeps : Bool) (c d : CellParts N) → Begins msgs keeps c d → rooms d ≡ rooms c
  rooms_begun msgs keeps c d b = same-rooms OutLoads (λ x y l. TailLoads-capacity x.tail y.tail l.tail) c.core.outs.items d.core.outs.items b.outs
