-- Turns, one after the other, and chunks, side by side, leave the same cells.
use Rattle.std.proofs.Common.{◌≡◌, ℕ, zero, suc, ◌<◌, List, [], ◌∷◌, get_or, length, sym, subst, ◌∙◌, arith}
use Rattle.std.specs.List.{AllByRecursion as Each, AllZip}
use Rattle.flow_cells.specs.declared.parts.CellParts.{CellParts}
use Rattle.flow_cells.specs.Moved.{HasMoved}
use Rattle.flow_cells.proofs.MovedLaws.{HasMoved-refl, HasMoved-trans}
use Rattle.flow_cells.proofs.OutLaws.{zip-refl, zip-trans}
use Rattle.flow_life.specs.Wired.{IsUnspent}
use Rattle.flow_core.specs.Away.{HasMovedLife, HasUnspentCells, IsBack}
use Rattle.flow_core.specs.Nets.{IsLifeIn, IsSound, NumberedLife}
use Rattle.node_core.specs.declared.node.Node.{Ghosts}
use Rattle.node_workers.specs.Workers.{HasStood, HasStoodLife}

-- ---- places

-- two lists are related place by place where they are so at each
pub zip_by : {A : Type 0} (R : A → A → Type 0) (xs ys : List A) → length ys ≡ length xs → ((i : ℕ) (d : A) → i < length xs → R (get_or xs i d) (get_or ys i d)) → AllZip R xs ys
zip_by R [] [] e h = tt
zip_by R [] (y ∷ ys) e h = absurd (omega (arith, e))
zip_by R (x ∷ xs) [] e h = absurd (omega (arith, e))
zip_by R (x ∷ xs) (y ∷ ys) e h = (h 0 x (omega arith), zip_by R xs ys (omega (arith, e)) (λ i d lt. h (suc i) d (omega (arith, lt))))

-- and so they are at each
pub zip_at : {A : Type 0} (R : A → A → Type 0) (xs ys : List A) (i : ℕ) (d : A) → i < length xs → AllZip R xs ys → R (get_or xs i d) (get_or ys i d)
zip_at R [] ys i d lt z = absurd (omega (arith, lt))
zip_at R (x ∷ xs) [] i d lt z = absurd z
zip_at R (x ∷ xs) (y ∷ ys) zero d lt z = z.0
zip_at R (x ∷ xs) (y ∷ ys) (suc i) d lt z = zip_at R xs ys i d (omega (arith, lt)) z.1

module _ {N : Type 0} where
  -- ---- turns

  pub HasStood-refl : (c : CellParts N) → HasStood c c
  HasStood-refl c = λ _. HasMoved-refl c

  HasStood-trans : (c d e : CellParts N) → HasStood c d → HasStood d e → HasStood c e
  HasStood-trans c d e p q = λ unspent.
      let m : HasMoved d e = q unspent in
      HasMoved-trans c d e (p (sym m.spent ∙ unspent)) m

  -- no turn leaves the same cells
  pub stood_none : (cells : List (CellParts N)) → AllZip HasStood cells cells
  stood_none cells = zip-refl HasStood HasStood-refl cells

  -- and so does one turn more
  pub stood_more : (a b c : List (CellParts N)) → AllZip HasStood a b → AllZip HasStood b c → AllZip HasStood a c
  stood_more a b c p q = zip-trans HasStood HasStood-trans a b c p q

  -- the first cell had its part, and the others none
  pub stood_first : (cells : List (CellParts N)) (c d : CellParts N) (others : List (CellParts N)) → cells ≡ c ∷ others → HasStood c d → AllZip HasStood cells (d ∷ others)
  stood_first cells c d others is h = subst (λ (l : List (CellParts N)). AllZip HasStood l (d ∷ others)) (sym is) (h, stood_none others)

  -- ---- back

  all-moved : (cells cells' : List (CellParts N)) → AllZip HasStood cells cells' → Each IsUnspent cells' → AllZip HasMoved cells cells'
  all-moved [] [] z e = tt
  all-moved [] (d ∷ ds) z e = absurd z
  all-moved (c ∷ cs) [] z e = absurd z
  all-moved (c ∷ cs) (d ∷ ds) z e = (z.0 e.0, all-moved cs ds z.1 e.1)

module _ {N P S : Type 0} (g : Ghosts N P S) where
  -- where no call on a cell failed, each made moves of its own
  stood-moved : (lives lives' : List (NumberedLife N)) → AllZip (HasStoodLife g) lives lives' → Each HasUnspentCells lives' → AllZip HasMovedLife lives lives'
  stood-moved [] [] z e = tt
  stood-moved [] (l ∷ ls) z e = absurd z
  stood-moved (l ∷ ls) [] z e = absurd z
  stood-moved (l ∷ ls) (m ∷ ms) z e = (record { number = z.0.number; cells = all-moved l.life.cells m.life.cells z.0.cells e.0; unspent = e.0 }, stood-moved ls ms z.1 e.1)

  -- and those of sound lives kept what those of lives keep
  stood-lives : (lives lives' : List (NumberedLife N)) → AllZip (HasStoodLife g) lives lives' → Each IsSound lives → Each (IsLifeIn g) lives
  stood-lives [] [] z sound = tt
  stood-lives [] (l ∷ ls) z sound = absurd z
  stood-lives (l ∷ ls) [] z sound = absurd z
  stood-lives (l ∷ ls) (m ∷ ms) z sound = (z.0.was sound.0.unspent, stood-lives ls ms z.1 sound.1)

  -- and then the cells that a net had are back
  pub stood_back : (lives lives' : List (NumberedLife N)) → Each IsSound lives → AllZip (HasStoodLife g) lives lives' → Each HasUnspentCells lives' → IsBack g lives lives'
  stood_back lives lives' sound stood unspent = record { sound = sound; lives = stood-lives lives lives' stood sound; moved = stood-moved lives lives' stood unspent }
