-- Cells that looked keep what a cell keeps.
use Rattle.std.proofs.Common.{◌≡◌, ℕ, ◌+◌, ◌<◌, ◌≤◌, List, [], ◌∷◌, ◌++◌, length, Some, refl, sym, ap, subst, ◌∙◌, ⊎_elim, arith}
use Rattle.std.specs.Prelude.{slice_get}
use Rattle.std.specs.List.{AllByRecursion as Each, AllZip}
use Rattle.kap_base.specs.declared.items.Msg.{Msg}
use Rattle.node_core.specs.declared.node.Node.{Ghosts}
use Rattle.merge_node.specs.Merge.{Lists}
use Rattle.edge_queue.specs.Edges.{received, sent}
use Rattle.flow_cells.specs.declared.parts.OutEdge.{OutEdge}
use Rattle.flow_cells.specs.declared.parts.InEdge.{InEdge}
use Rattle.flow_cells.specs.declared.parts.CellParts.{CellParts}
use Rattle.flow_cells.specs.Kept.{IsGiven, Keeps, KeptBy, received_of}
use Rattle.flow_cells.specs.Moves.{Eases, Still}
use Rattle.flow_cells.proofs.MoveLaws.{kept-outs}
use Rattle.flow_cells.proofs.OutLaws.{get-within}
use Rattle.flow_life.specs.Loose.{HasLooked, KeepTo, KeepsAt}
use Rattle.flow_life.proofs.LooseLaws.{below}
use Rattle.flow_life.proofs.PlaceLaws.{Other, both-left, each-of, same_place, zip-both, zip-map}

given-looked : (given : List Msg) (outs new : List OutEdge) → AllZip Eases outs new → Each (IsGiven given) outs → Each (IsGiven given) new
given-looked given [] [] z all = tt
given-looked given [] (b ∷ new) z all = absurd z
given-looked given (a ∷ outs) [] z all = absurd z
given-looked given (a ∷ outs) (b ∷ new) z all =
    (ap (λ (l : List Msg). l ++ b.unsent) z.0.tail.sent ∙ ap (λ (l : List Msg). sent a.tail ++ l) z.0.unsent ∙ all.0, given-looked given outs new z.1 all.1)

received-looked : (ins new : List InEdge) (source : List Msg) → AllZip Still ins new → received_of new source ≡ received_of ins source
received-looked [] [] source z = refl
received-looked [] (b ∷ new) source z = absurd z
received-looked (a ∷ ins) [] source z = absurd z
received-looked (a ∷ ins) (b ∷ new) source z = zip-map (λ (e : InEdge). received e.head) Still (λ x y s. s.head.received) (a ∷ ins) (b ∷ new) z

module _ {N P S : Type 0} (g : Ghosts N P S) where
  keeps-looked : (c d : CellParts N) → HasLooked c d → Keeps g c → Keeps g d
  keeps-looked c d h k =
      let lists : Lists = received_of d.ins.items c.source.value.items in
      let same : lists ≡ received_of c.ins.items c.source.value.items = received-looked c.ins.items d.ins.items c.source.value.items h.ins in
      let here : KeptBy g c.base.value lists c.buffer c.core = subst (λ (ls : Lists). KeptBy g c.base.value ls c.buffer c.core) (sym same) k in
      let core : KeptBy g c.base.value lists c.buffer d.core =
      kept-outs g c.base.value lists c.buffer c.core d.core here h.node h.gathered h.effects h.saved h.passed h.clean h.keeps (λ given all. given-looked given c.core.outs.items d.core.outs.items h.outs all) in
      let based = subst (λ b. KeptBy g b.value lists c.buffer d.core) (sym h.base) core in
      let sourced = subst (λ s. KeptBy g d.base.value (received_of d.ins.items s.value.items) c.buffer d.core) (sym h.source) based in
      subst (λ (b : Lists). KeptBy g d.base.value (received_of d.ins.items d.source.value.items) b d.core) (sym h.buffer) sourced

  -- no cell is before the first one
  pub keep_none : (cells : List (CellParts N)) → KeepTo g 0 cells
  keep_none cells = λ j lt. absurd (omega (arith, lt))

  -- one cell more keeps it
  pub keep_more : (n : ℕ) (cells cells' : List (CellParts N)) → AllZip HasLooked cells cells' → KeepTo g n cells → KeepsAt g n cells → KeepTo g (n + 1) cells'
  keep_more n cells cells' z before here = λ j lt d at.
      let o : Other (λ x. HasLooked x d) (slice_get cells j) = both-left HasLooked (slice_get cells j) (slice_get cells' j) d (zip-both HasLooked cells cells' j z) at in
      keeps-looked o.value d o.fact (⊎_elim
      (λ e. here o.value (subst (λ (k : ℕ). slice_get cells k ≡ Some o.value) e o.is))
      (λ ne. before j (below j n lt ne) o.value o.is)
      (same_place j n))

  -- all cells do
  pub keep_all : (n : ℕ) (cells : List (CellParts N)) → length cells ≤ n → KeepTo g n cells → Each (Keeps g) cells
  keep_all n cells all to = each-of (Keeps g) cells (λ j c at.
      let lt : j < length cells = get-within cells j c at in
      to j (omega (arith, lt, all)) c at)
