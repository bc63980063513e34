-- Gathering effects leaves cells that are ready, and all else as it was.
use Rattle.std.proofs.Common.{◌≡◌, ℕ, zero, suc, List, [], ◌∷◌, map, length, refl, ap, ◌∙◌, arith}
use Rattle.std.specs.Prelude.{slice_get}
use Rattle.std.specs.List.{AllByRecursion as Each, AllZip}
use Rattle.node_core.specs.declared.node.Node.{Ghosts}
use Rattle.flow_cells.specs.declared.parts.InEdge.{InEdge}
use Rattle.flow_cells.specs.declared.parts.CellParts.{CellParts}
use Rattle.flow_cells.specs.Gathers.{Gathers}
use Rattle.flow_cells.specs.Kept.{Keeps}
use Rattle.flow_life.specs.Places.{in_of, out_of}
use Rattle.flow_life.proofs.PlaceLaws.{both-refl}
use Rattle.flow_life.proofs.ChangeLaws.{Calm, Calm-refl, wired-calm}
use Rattle.flow_life.specs.Loads.{IsGathered}
use Rattle.flow_life.specs.Streams.{Plan, plan_of, plans_of}
use Rattle.flow_life.specs.Steps.{moves_of, received_count, sent_count}
use Rattle.flow_life.specs.Wired.{IsReady, IsUnspent, IsWired, outs_of, parents_of}

module _ {N : Type 0} where
  gathers-in : (cells cells' : List (CellParts N)) (n m : ℕ) → AllZip Gathers cells cells' → in_of cells' n m ≡ in_of cells n m
  gathers-in [] [] n m z = refl
  gathers-in [] (d ∷ cells') n m z = absurd z
  gathers-in (c ∷ cells) [] n m z = absurd z
  gathers-in (c ∷ cells) (d ∷ cells') zero m z = ap (λ v. slice_get v.items m) z.0.ins
  gathers-in (c ∷ cells) (d ∷ cells') (suc n) m z = gathers-in cells cells' n m z.1

  gathers-out : (cells cells' : List (CellParts N)) (n m : ℕ) → AllZip Gathers cells cells' → out_of cells' n m ≡ out_of cells n m
  gathers-out [] [] n m z = refl
  gathers-out [] (d ∷ cells') n m z = absurd z
  gathers-out (c ∷ cells) [] n m z = absurd z
  gathers-out (c ∷ cells) (d ∷ cells') zero m z = ap (λ v. slice_get v.items m) z.0.outs
  gathers-out (c ∷ cells) (d ∷ cells') (suc n) m z = gathers-out cells cells' n m z.1

  parents-gathered : (cells cells' : List (CellParts N)) → AllZip Gathers cells cells' → parents_of cells' ≡ parents_of cells
  parents-gathered [] [] z = refl
  parents-gathered [] (d ∷ cells') z = absurd z
  parents-gathered (c ∷ cells) [] z = absurd z
  parents-gathered (c ∷ cells) (d ∷ cells') z = ap (λ v. map (λ (e : InEdge). e.from) v.items ∷ parents_of cells') z.0.ins ∙ ap (λ (ls : List (List ℕ)). map (λ (e : InEdge). e.from) c.ins.items ∷ ls) (parents-gathered cells cells' z.1)

  counts-gathered : (cells cells' : List (CellParts N)) → AllZip Gathers cells cells' → outs_of cells' ≡ outs_of cells
  counts-gathered [] [] z = refl
  counts-gathered [] (d ∷ cells') z = absurd z
  counts-gathered (c ∷ cells) [] z = absurd z
  counts-gathered (c ∷ cells) (d ∷ cells') z = ap (λ v. length v.items ∷ outs_of cells') z.0.outs ∙ ap (λ (l : List ℕ). length c.core.outs.items ∷ l) (counts-gathered cells cells' z.1)

  unspent-gathered : (cells cells' : List (CellParts N)) → AllZip Gathers cells cells' → Each IsUnspent cells → Each IsUnspent cells'
  unspent-gathered [] [] z e = tt
  unspent-gathered [] (d ∷ cells') z e = absurd z
  unspent-gathered (c ∷ cells) [] z e = absurd z
  unspent-gathered (c ∷ cells) (d ∷ cells') z e = (z.0.spent ∙ e.0, unspent-gathered cells cells' z.1 e.1)

  -- then nothing is left to gather
  pub all-gathered : (cells cells' : List (CellParts N)) → AllZip Gathers cells cells' → Each IsGathered cells'
  all-gathered [] [] z = tt
  all-gathered [] (d ∷ cells') z = absurd z
  all-gathered (c ∷ cells) [] z = absurd z
  all-gathered (c ∷ cells) (d ∷ cells') z = (z.0.effects, all-gathered cells cells' z.1)

  -- gathering sends and receives nothing
  pub moves-gathered : (cells cells' : List (CellParts N)) → AllZip Gathers cells cells' → moves_of cells' ≡ moves_of cells
  moves-gathered [] [] z = refl
  moves-gathered [] (d ∷ cells') z = absurd z
  moves-gathered (c ∷ cells) [] z = absurd z
  moves-gathered (c ∷ cells) (d ∷ cells') z =
      let a : received_count d.ins.items ≡ received_count c.ins.items = ap (λ v. received_count v.items) z.0.ins in
      let b : sent_count d.core.outs.items ≡ sent_count c.core.outs.items = ap (λ v. sent_count v.items) z.0.outs in
      let r : moves_of cells' ≡ moves_of cells = moves-gathered cells cells' z.1 in
      omega (arith, a, b, r)

  wired-gathered : (cells cells' : List (CellParts N)) → IsWired cells → AllZip Gathers cells cells' → IsWired cells'
  wired-gathered cells cells' w z = wired-calm cells cells' w (λ n m. gathers-in cells cells' n m z) (λ n m. both-refl Calm Calm-refl (out_of cells n m) (out_of cells' n m) (gathers-out cells cells' n m z)) (parents-gathered cells cells' z) (counts-gathered cells cells' z)

module _ {N P S : Type 0} (g : Ghosts N P S) where
  -- gathering leaves cells that are ready
  pub ready-gathered : (cells cells' : List (CellParts N)) → IsReady g cells → Each (Keeps g) cells' → AllZip Gathers cells cells' → IsReady g cells'
  ready-gathered cells cells' r keeps z = record { keeps = keeps; unspent = unspent-gathered cells cells' z r.unspent; wired = wired-gathered cells cells' r.wired z }

  -- each node stays, with what it began from
  pub plans-gathered : (cells cells' : List (CellParts N)) → AllZip Gathers cells cells' → plans_of g cells' ≡ plans_of g cells
  plans-gathered [] [] z = refl
  plans-gathered [] (d ∷ cells') z = absurd z
  plans-gathered (c ∷ cells) [] z = absurd z
  plans-gathered (c ∷ cells) (d ∷ cells') z = ap (λ (p : Plan S). p ∷ plans_of g cells') (rw (z.0.base, z.0.source, z.0.ins) refl) ∙ ap (λ (ps : List (Plan S)). plan_of g c ∷ ps) (plans-gathered cells cells' z.1)
