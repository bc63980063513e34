-- What a node had received before a load, and what it has received at the rest behind it, barriers aside.
use Rattle.std.proofs.Common.{◌≡◌, ℕ, zero, suc, List, [], ◌∷◌, ◌++◌, Some, drop, get_or, map, refl, sym, ap, ◌∙◌}
use Rattle.std.specs.Prelude.{slice_get}
use Rattle.std.specs.List.{AllByRecursion as Each}
use Rattle.kap_base.specs.declared.items.Msg.{Msg}
use Rattle.node_core.specs.declared.node.Node.{Ghosts}
use Rattle.merge_node.specs.Merge.{items}
use Rattle.edge_queue.specs.Edges.{received, ring_received}
use Rattle.flow_cells.specs.declared.parts.InEdge.{InEdge}
use Rattle.flow_cells.specs.declared.parts.CellParts.{CellParts}
use Rattle.flow_life.proofs.BeforeLaws.{received-whole}
use Rattle.flow_life.specs.Loads.{plan_now}
use Rattle.flow_life.specs.Making.{HasCarriedNothing, IsUntouched}
use Rattle.flow_life.proofs.PlaceLaws.{found-same}
use Rattle.flow_life.specs.Places.{in_of}
use Rattle.flow_life.specs.Streams.{AreStreams, CarriesStreams, Plan, befores_of, plans_of, received_before, rings_of}
use Rattle.flow_core.proofs.MessageLaws.{items-append}
use Rattle.flow_core.proofs.PortLaws.{head_same}

-- what a node had received from its parents before a load is, barriers aside, what these had given out
abbrev pub HasReceived : {S : Type 0} → (ℕ → List Msg) → Plan S → Type 0
HasReceived outs p = map items p.carried ≡ map outs p.parents

-- ---- inputs

rings-are : (outs : ℕ → List Msg) (ins : List InEdge) → ((k : ℕ) (e : InEdge) → slice_get ins k ≡ Some e → items (ring_received e.head) ≡ outs e.from) → map items (rings_of ins) ≡ map outs (map (λ (e : InEdge). e.from) ins)
rings-are outs [] h = refl
rings-are outs (e ∷ ins) h = ap (λ (l : List Msg). l ∷ map items (rings_of ins)) (h zero e refl) ∙ ap (λ (ls : List (List Msg)). outs e.from ∷ ls) (rings-are outs ins (λ k x at. h (suc k) x at))

before-at : (outs : ℕ → List Msg) (ins : List InEdge) (k : ℕ) (e : InEdge) → map items (befores_of ins) ≡ map outs (map (λ (x : InEdge). x.from) ins) → slice_get ins k ≡ Some e → items (received_before e.head) ≡ outs e.from
before-at outs [] k e same at = absurd cc
before-at outs (x ∷ ins) zero e same at =
    let is : x ≡ e = found-same (Some x) x e refl at in
    ap (λ (y : InEdge). items (received_before y.head)) (sym is) ∙ head_same (items (received_before x.head)) (outs x.from) (map items (befores_of ins)) (map outs (map (λ (y : InEdge). y.from) ins)) same ∙ ap (λ (y : InEdge). outs y.from) is
before-at outs (x ∷ ins) (suc k) e same at = before-at outs ins k e (ap (drop 1) same) at

untouched-at : (ins : List InEdge) (k : ℕ) (e : InEdge) → Each IsUntouched ins → slice_get ins k ≡ Some e → ring_received e.head ≡ []
untouched-at [] k e all at = absurd cc
untouched-at (x ∷ ins) zero e all at = ap (λ (y : InEdge). ring_received y.head) (sym (found-same (Some x) x e refl at)) ∙ all.0
untouched-at (x ∷ ins) (suc k) e all at = untouched-at ins k e all.1 at

-- ---- cells

-- an edge to cells on whose edges nothing was received has carried nothing
pub untouched_in : {N : Type 0} (cells : List (CellParts N)) (j k : ℕ) (e : InEdge) → Each HasCarriedNothing cells → in_of cells j k ≡ Some e → ring_received e.head ≡ []
untouched_in [] j k e all at = absurd cc
untouched_in (c ∷ cells) zero k e all at = untouched-at c.ins.items k e all.0 at
untouched_in (c ∷ cells) (suc j) k e all at = untouched_in cells j k e all.1 at

module _ {N P S : Type 0} (g : Ghosts N P S) where
  befores-at : (outs : ℕ → List Msg) (cells : List (CellParts N)) (j k : ℕ) (e : InEdge) → Each (HasReceived outs) (plans_of g cells) → in_of cells j k ≡ Some e → items (received_before e.head) ≡ outs e.from
  befores-at outs [] j k e all at = absurd cc
  befores-at outs (c ∷ cells) zero k e all at = before-at outs c.ins.items k e all.0 at
  befores-at outs (c ∷ cells) (suc j) k e all at = befores-at outs cells j k e all.1 at

  -- at rest an edge has carried what its parent had given out before the load, and then the stream of the load
  pub received_at : (outs : ℕ → List Msg) (cells : List (CellParts N)) (streams : List (List Msg)) → Each (HasReceived outs) (plans_of g cells) → CarriesStreams g cells → AreStreams (plans_of g cells) streams
      → (j k : ℕ) (e : InEdge) → in_of cells j k ≡ Some e → items (ring_received e.head) ≡ outs e.from ++ items (get_or streams e.from [])
  received_at outs cells streams all carries are j k e at =
      ap items (sym (received-whole e.head))
      ∙ items-append (received_before e.head) (received e.head)
      ∙ ap (λ (l : List Msg). l ++ items (received e.head)) (befores-at outs cells j k e all at)
      ∙ ap (λ (l : List Msg). outs e.from ++ items l) (carries.received streams are j k e at)

  -- and that is what a further load finds
  pub received_now : (outs : ℕ → List Msg) (source : List Msg) (cells : List (CellParts N)) → ((j k : ℕ) (e : InEdge) → in_of cells j k ≡ Some e → items (ring_received e.head) ≡ outs e.from) → Each (HasReceived outs) (map (plan_now g source) cells)
  received_now outs source [] h = tt
  received_now outs source (c ∷ cells) h = (rings-are outs c.ins.items (λ k e at. h zero k e at), received_now outs source cells (λ j k e at. h (suc j) k e at))
