-- Cells that received nothing since their load have nothing to do, and stand where they began.
use Rattle.std.proofs.Common.{◌≡◌, ℕ, suc, false, List, [], ◌∷◌, ◌++◌, map, Some, None, refl, sym, subst, ◌∙◌}
use Rattle.std.specs.Prelude.{slice_get}
use Rattle.std.specs.List.{AllByRecursion as Each}
use Rattle.kap_base.specs.declared.items.Msg.{Msg}
use Rattle.node_core.specs.declared.node.Node.{Ghosts}
use Rattle.merge_node.specs.Merge.{Entry, Lists}
use Rattle.merge_node.specs.Buffers.{Merges, done, more, next}
use Rattle.edge_queue.specs.Edges.{known, received, sent}
use Rattle.edge_queue.proofs.EdgeLaws.{settled_since}
use Rattle.flow_cells.specs.declared.parts.InEdge.{InEdge}
use Rattle.flow_cells.specs.declared.parts.OutEdge.{OutEdge}
use Rattle.flow_cells.specs.declared.parts.CellParts.{CellParts}
use Rattle.flow_cells.specs.Kept.{IsAt, IsGiven, Keeps, gathered, received_of, run_of}
use Rattle.flow_cells.specs.Looks.{IsQuiet, has_known}
use Rattle.flow_cells.specs.Made.{HasNothing, IsNothing}
use Rattle.flow_cells.specs.Outs.{has_unsent}
use Rattle.flow_life.specs.Loads.{IsGathered}
use Rattle.flow_life.specs.Making.{IsClean}
use Rattle.flow_life.proofs.PlaceLaws.{CellOfOut, cell-of_out, each-get, each-of, in-at}
use Rattle.flow_life.specs.Steps.{AreQuiet}
use Rattle.flow_life.specs.Wired.{IsFed, IsReady}

none-before : {A : Type 0} (xs ys : List A) → xs ++ ys ≡ [] → xs ≡ []
none-before [] ys e = refl
none-before (x ∷ xs) ys e = absurd cc

none-behind : {A : Type 0} (xs ys : List A) → xs ++ ys ≡ [] → ys ≡ []
none-behind [] ys e = e
none-behind (x ∷ xs) ys e = absurd cc

-- ---- nothing was handled

empty-next : (l : List Msg) (ls : Lists) → l ≡ [] → next (l ∷ ls) ≡ None
unfolding next
empty-next l ls e = subst (λ (x : List Msg). next (x ∷ ls) ≡ None) (sym e) refl

pub nothing-next : (ins : List InEdge) (source : List Msg) → Each IsNothing (received_of ins source) → next (received_of ins source) ≡ None
nothing-next [] source h = empty-next source [] h.0
nothing-next (e ∷ ins) source h = empty-next (received e.head) (map (λ (i : InEdge). received i.head) ins) h.0

merges-nothing : (ls left : Lists) (ms : List Entry) → next ls ≡ None → Merges ls ms left → ms ≡ []
merges-nothing ls left ms stuck done = refl
merges-nothing ls left ms stuck (more t e h) = absurd cc

-- ---- nothing waits, and nothing is on an edge

none-waits : (outs : List OutEdge) → Each (IsGiven []) outs → has_unsent outs ≡ false
none-waits [] h = refl
none-waits (o ∷ outs) h = rw (none-behind (sent o.tail) o.unsent h.0) (none-waits outs h.1)

none-known : (ins : List InEdge) → ((k : ℕ) (e : InEdge) → slice_get ins k ≡ Some e → known e.head ≡ []) → has_known ins ≡ false
none-known [] h = refl
none-known (e ∷ ins) h = rw (h 0 e refl) (none-known ins (λ k x at. h (suc k) x at))

module _ {N P S : Type 0} (g : Ghosts N P S) where
  -- a cell that received nothing stands where it began
  pub begun_at : (c : CellParts N) → Keeps g c → HasNothing c → IsAt g (g.spec c.base.value.node) (run_of g c.base.value []) c.core
  begun_at c keeps nothing =
      let none : keeps.handled ≡ [] = merges-nothing (received_of c.ins.items c.source.value.items) c.buffer keeps.handled (nothing-next c.ins.items c.source.value.items nothing) keeps.merged in
      subst (λ (ms : List Entry). IsAt g (g.spec c.base.value.node) (run_of g c.base.value ms) c.core) none keeps.at

  module _ (cells : List (CellParts N)) (r : IsReady g cells) (nothing : Each HasNothing cells) where
    begun-here : (j : ℕ) (c : CellParts N) → slice_get cells j ≡ Some c → IsAt g (g.spec c.base.value.node) (run_of g c.base.value []) c.core
    begun-here j c at = begun_at c (each-get (Keeps g) cells j c at r.keeps) (each-get HasNothing cells j c at nothing)

    -- nothing is left to do
    pub nothing-quiet : AreQuiet cells
    nothing-quiet = each-of IsQuiet cells (λ j c at. record {
      unsent = none-waits c.core.outs.items (begun-here j c at).outs;
      known = none-known c.ins.items (λ k e here.
          let f : IsFed cells j k e = r.wired.ins j k e (in-at cells j k c at ∙ here) in
          let o : CellOfOut cells e.from e.out f.out = cell-of_out cells e.from e.out f.out f.at in
          let given : IsGiven [] f.out = each-get (IsGiven []) o.cell.core.outs.items e.out f.out o.here (begun-here e.from o.cell o.at).outs in
          none-behind (received e.head) (known e.head) (settled_since f.out.tail e.head f.edge f.settled ∙ none-before (sent f.out.tail) f.out.unsent given));
    })

    -- nothing is left to gather
    pub nothing-gathered : Each IsGathered cells
    nothing-gathered = each-of IsGathered cells (λ j c at. none-behind (gathered c.core.gathered) c.core.effects (begun-here j c at).effects)

    -- no item came since the last barrier
    pub nothing-fed : Each IsClean cells
    nothing-fed = each-of IsClean cells (λ j c at. (begun-here j c at).clean)
