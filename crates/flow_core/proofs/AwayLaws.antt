-- What cells make of a net that get their moves by themselves and are given back.
use Rattle.std.proofs.Common.{◌≡◌, ℕ, List, [], ◌∷◌, ◌++◌, ap, arith, length, refl, subst, ◌∙◌}
use Rattle.std.specs.List.{AllByRecursion as Each, AllZip}
use Rattle.kap_base.specs.declared.items.Effect.{Effect}
use Rattle.node_core.specs.declared.node.Node.{Ghosts}
use Rattle.flow_cells.specs.declared.parts.CellParts.{CellParts}
use Rattle.flow_cells.specs.Gathers.{Gathers}
use Rattle.flow_life.specs.Gathers.{effects_of as left_of}
use Rattle.flow_life.proofs.RoomLaws.{rooms_gathered, rooms_looked, rooms_went}
use Rattle.flow_life.specs.Listing.{ends_of}
use Rattle.flow_life.proofs.ListingLaws.{ends-gathered, ends-planned}
use Rattle.flow_life.specs.Lives.{IsLife}
use Rattle.flow_life.specs.Loose.{HasLooked}
use Rattle.flow_life.proofs.LooseLaws.{back_specs, looked_gathered, looked_plans, moved_gathered, moved_loose, moved_plans}
use Rattle.flow_life.specs.Nodes.{specs_of}
use Rattle.flow_life.specs.Rooms.{rooms_of}
use Rattle.flow_life.specs.Streams.{Plan, plans_of}
use Rattle.flow_core.specs.Away.{AreGivenBack, HasMovedLife, IsBack, IsGivenBack, IsLooseLife}
use Rattle.flow_core.proofs.DoneLaws.{gathers-behind, gathers-front, gathers_none, gathers_then, step_gathers}
use Rattle.flow_core.specs.LifeLoads.{effects_since}
use Rattle.flow_core.specs.Nets.{IsLifeIn, IsSound, NumberedLife, numbers_of, plans_in, specs_in}
use Rattle.flow_core.specs.Done.{effects_in, together}
use Rattle.flow_core.specs.Rooms.{rooms_in}
use Rattle.flow_core.specs.Running.{ends_in}

module _ {N P S : Type 0} (g : Ghosts N P S) where
  -- cells that are back can be settled
  pub back_loose : (before cells : List (NumberedLife N)) → IsBack g before cells → Each (IsLooseLife g) cells
  back_loose [] [] b = tt
  back_loose [] (l ∷ ls) b = absurd b.moved
  back_loose (c ∷ cs) [] b = absurd b.moved
  back_loose (c ∷ cs) (l ∷ ls) b = (
    record { unspent = b.moved.0.unspent; loose = moved_loose g c.life.cells l.life.cells b.lives.0 b.moved.0.cells },
    back_loose cs ls (record { sound = b.sound.1; lives = b.lives.1; moved = b.moved.1 }),
  )

  -- a life that is settled and gathered
  pub life_back : (before old : NumberedLife N) (mid : List (CellParts N)) (new : NumberedLife N) (gs gs' : List Effect) → IsSound before → IsLifeIn g before → HasMovedLife before old
      → AllZip HasLooked old.life.cells mid → IsLife g mid → AllZip Gathers mid new.life.cells
      → plans_of g new.life.cells ≡ plans_of g mid → specs_of g new.life.cells ≡ specs_of g mid → new.number ≡ old.number
      → gs' ≡ gs ++ left_of mid → IsGivenBack g before new gs gs'
  life_back before old mid new gs gs' sound life m looked is gathers plans specs number given =
      let b = before.life.cells in
      let o = old.life.cells in
      let c = mid in
      record {
        number = number ∙ m.number;
        plans = plans ∙ looked_plans g o c looked ∙ moved_plans g b o m.cells;
        specs = specs ∙ back_specs g b o c life.ready.keeps is.ready.keeps m.cells looked;
        rooms = rooms_gathered c new.life.cells gathers ∙ rooms_looked o c looked ∙ rooms_went b o m.cells;
        ends = ends-gathered c new.life.cells gathers ∙ ends-planned g b c life is (looked_plans g o c looked ∙ moved_plans g b o m.cells);
        gathers = step_gathers b c new.life.cells gs gs' sound.gathered (looked_gathered o c looked ∙ moved_gathered b o m.cells) gathers given;
      }

  -- no lives
  pub none_back : (before cells : List (NumberedLife N)) (gs : List Effect) → length cells ≡ 0 → IsBack g before cells → AreGivenBack g before cells gs gs
  none_back [] [] gs is b = record { numbers = refl; plans = refl; specs = refl; rooms = refl; ends = refl; gathers = gathers_none [] gs }
  none_back [] (l ∷ ls) gs is b = absurd b.moved
  none_back (c ∷ cs) [] gs is b = absurd b.moved
  none_back (c ∷ cs) (l ∷ ls) gs is b = absurd (omega (arith, is))

  one-more : (b : NumberedLife N) (bs : List (NumberedLife N)) (l' : NumberedLife N) (ls' : List (NumberedLife N)) (g0 g1 g2 : List Effect)
      → IsGivenBack g b l' g0 g1 → AreGivenBack g bs ls' g1 g2 → AreGivenBack g (b ∷ bs) (l' ∷ ls') g0 g2
  one-more b bs l' ls' g0 g1 g2 p q = record {
    numbers = ap (λ (n : ℕ). n ∷ numbers_of ls') p.number ∙ ap (λ (ns : List ℕ). b.number ∷ ns) q.numbers;
    plans = ap (λ (ps : List (Plan S)). ps ∷ plans_in g ls') p.plans ∙ ap (λ (ps : List (List (Plan S))). plans_of g b.life.cells ∷ ps) q.plans;
    specs = ap (λ (ps : List P). ps ∷ specs_in g ls') p.specs ∙ ap (λ (ps : List (List P)). specs_of g b.life.cells ∷ ps) q.specs;
    rooms = ap (λ (rs : List (List ℕ)). rs ∷ rooms_in ls') p.rooms ∙ ap (λ (rs : List (List (List ℕ))). rooms_of b.life.cells ∷ rs) q.rooms;
    ends = ap (λ (es : List (ℕ × ℕ)). es ∷ ends_in ls') p.ends ∙ ap (λ (es : List (List (ℕ × ℕ))). ends_of b.life.cells ∷ es) q.ends;
    gathers = gathers_then (effects_in (b ∷ bs)) (effects_in (l' ∷ bs)) (effects_in (l' ∷ ls')) g0 g1 g2
        (gathers-front (together (effects_since b.life.cells)) (together (effects_since l'.life.cells)) (effects_in bs) g0 g1 p.gathers)
        (gathers-behind (together (effects_since l'.life.cells)) (effects_in bs) (effects_in ls') g1 g2 q.gathers);
  }

  -- the first life, and then the others
  pub more_back : (before lives : List (NumberedLife N)) (l : NumberedLife N) (others : List (NumberedLife N)) (l' : NumberedLife N) (others' : List (NumberedLife N)) (g0 g1 g2 : List Effect) → lives ≡ l ∷ others
      → ((b : NumberedLife N) → IsSound b → IsLifeIn g b → HasMovedLife b l → IsGivenBack g b l' g0 g1)
      → ((bs : List (NumberedLife N)) → IsBack g bs others → AreGivenBack g bs others' g1 g2)
      → IsBack g before lives → AreGivenBack g before (l' ∷ others') g0 g2
  more_back before lives l others l' others' g0 g1 g2 is one rest back = split before (subst (IsBack g before) is back)
    where
      split : (before : List (NumberedLife N)) → IsBack g before (l ∷ others) → AreGivenBack g before (l' ∷ others') g0 g2
      split [] b = absurd b.moved
      split (b ∷ bs) back =
          one-more b bs l' others' g0 g1 g2 (one b back.sound.0 back.lives.0 back.moved.0) (rest bs (record { sound = back.sound.1; lives = back.lives.1; moved = back.moved.1 }))
