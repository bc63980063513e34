-- Where edges keep their room they have the room that they had.
use Rattle.std.proofs.Common.{◌≡◌, ℕ, List, [], ◌∷◌, map, subst, sym}
use Rattle.std.specs.List.{AllByRecursion as Each}
use Rattle.flow_cells.specs.declared.parts.CellParts.{CellParts}
use Rattle.flow_cells.specs.Rooms.{HasRoom, rooms}
use Rattle.flow_cells.proofs.RoomLaws.{room}
use Rattle.flow_life.specs.Rooms.{rooms_of}
use Rattle.flow_core.specs.Nets.{NumberedLife}
use Rattle.flow_core.specs.Rooms.{HasRoomIn, rooms_in}

-- what holds of each number that a function makes
each-made : {A : Type 0} (f : A → ℕ) (n : ℕ) (xs : List A) → Each (λ (m : ℕ). m ≡ n) (map f xs) → Each (λ (x : A). f x ≡ n) xs
each-made f n [] e = tt
each-made f n (x ∷ xs) e = (e.0, each-made f n xs e.1)

each-made-of : {A : Type 0} (f : A → ℕ) (n : ℕ) (xs : List A) → Each (λ (x : A). f x ≡ n) xs → Each (λ (m : ℕ). m ≡ n) (map f xs)
each-made-of f n [] e = tt
each-made-of f n (x ∷ xs) e = (e.0, each-made-of f n xs e.1)

module _ {N : Type 0} where
  cell-room : (n : ℕ) (c d : CellParts N) → rooms d ≡ rooms c → HasRoom n c → HasRoom n d
  cell-room n c d same has =
      each-made room n d.core.outs.items (subst (λ (l : List ℕ). Each (λ (m : ℕ). m ≡ n) l) (sym same) (each-made-of room n c.core.outs.items has))

  cells-room : (n : ℕ) (cells cells' : List (CellParts N)) → rooms_of cells' ≡ rooms_of cells → Each (HasRoom n) cells → Each (HasRoom n) cells'
  cells-room n [] [] same has = tt
  cells-room n [] (d ∷ ds) same has = absurd cc
  cells-room n (c ∷ cs) [] same has = absurd cc
  cells-room n (c ∷ cs) (d ∷ ds) same has =
      let first : rooms d ≡ rooms c = cc in
      let others : rooms_of ds ≡ rooms_of cs = cc in
      (cell-room n c d first has.0, cells-room n cs ds others has.1)

  -- lives whose edges keep their room
  pub same_room : (n : ℕ) (lives lives' : List (NumberedLife N)) → rooms_in lives' ≡ rooms_in lives → Each (HasRoomIn n) lives → Each (HasRoomIn n) lives'
  same_room n [] [] same has = tt
  same_room n [] (l ∷ ls) same has = absurd cc
  same_room n (l ∷ ls) [] same has = absurd cc
  same_room n (l ∷ ls) (m ∷ ms) same has =
      let first : rooms_of m.life.cells ≡ rooms_of l.life.cells = cc in
      let others : rooms_in ms ≡ rooms_in ls = cc in
      (cells-room n l.life.cells m.life.cells first has.0, same_room n ls ms others has.1)
