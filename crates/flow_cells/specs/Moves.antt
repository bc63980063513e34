-- What the moves of a cell do to it.
use Rattle.std.specs.Prelude.{◌≡◌, ℕ, ◌≤◌, ◌⊎◌, false, true, [], length, Some, slice_get, slice_set}
use Rattle.std.specs.List.{AllZip}
use Rattle.kap_base.specs.declared.items.Msg.{Msg}
use Rattle.edge_queue.specs.Edges.{free, known}
use Rattle.edge_queue.specs.Moves.{HeadLooked, TailLooked, Takes}
use Rattle.flow_cells.specs.declared.parts.OutEdge.{OutEdge}
use Rattle.flow_cells.specs.declared.parts.InEdge.{InEdge}
use Rattle.flow_cells.specs.declared.parts.CellParts.{CellParts}
use Rattle.flow_cells.specs.Outs.{SendsOn, has_unsent}
use Rattle.flow_cells.specs.Handled.{Waits}

-- an input of the same edge from which nothing was taken
pub record Still (a b : InEdge) : Type 0 where
  pub head : HeadLooked a.head b.head
  pub from : b.from ≡ a.from
  pub out : b.out ≡ a.out

-- an input of the same edge from which a message was taken
pub record TakesAt (msg : Msg) (a b : InEdge) : Type 0 where
  pub head : Takes msg a.head b.head
  pub from : b.from ≡ a.from
  pub out : b.out ≡ a.out

-- one message was taken from an input, where none waited to be sent; more may wait at outs then
pub record TakesOne {N : Type 0} (input : ℕ) (c d : CellParts N) : Type 0 where
  pub msg : Msg
  pub old : InEdge
  pub new : InEdge
  pub none_waited : has_unsent c.core.outs.items ≡ false
  pub at : slice_get c.ins.items input ≡ Some old
  pub takes : TakesAt msg old new
  pub ins : d.ins.items ≡ slice_set c.ins.items input new
  pub outs : AllZip Waits c.core.outs.items d.core.outs.items
  pub gathered : d.core.gathered ≡ c.core.gathered
  pub base : d.base ≡ c.base
  pub source : d.source ≡ c.source
  pub spent : d.spent ≡ c.spent

-- nothing is known to be on the edge of an input
abbrev pub KnowsNone : {N : Type 0} → ℕ → CellParts N → Type 0
KnowsNone input d = (e : InEdge) → slice_get d.ins.items input ≡ Some e → known e.head ≡ []

-- nothing was taken: there is no such input, or a message waits to be sent, or the ring was empty as this call looked
pub record TakesNone {N : Type 0} (input : ℕ) (c d : CellParts N) : Type 0 where
  pub why : (length c.ins.items ≤ input) ⊎ ((has_unsent c.core.outs.items ≡ true) ⊎ KnowsNone input d)
  pub ins : AllZip Still c.ins.items d.ins.items
  pub core : d.core ≡ c.core
  pub buffer : d.buffer ≡ c.buffer
  pub base : d.base ≡ c.base
  pub source : d.source ≡ c.source
  pub spent : d.spent ≡ c.spent

-- but for its outs a cell stays
pub record KeepsOthers {N : Type 0} (c d : CellParts N) : Type 0 where
  pub node : d.core.node ≡ c.core.node
  pub gathered : d.core.gathered ≡ c.core.gathered
  pub effects : d.core.effects ≡ c.core.effects
  pub saved : d.core.saved ≡ c.core.saved
  pub passed : d.core.passed ≡ c.core.passed
  pub clean : d.core.clean ≡ c.core.clean
  pub keeps : d.core.keeps ≡ c.core.keeps
  pub buffer : d.buffer ≡ c.buffer
  pub ins : d.ins ≡ c.ins
  pub base : d.base ≡ c.base
  pub source : d.source ≡ c.source
  pub spent : d.spent ≡ c.spent

-- the first message that waited at an out was put on its edge
pub record PutsOne {N : Type 0} (out : ℕ) (c d : CellParts N) : Type 0 where
  pub old : OutEdge
  pub new : OutEdge
  pub at : slice_get c.core.outs.items out ≡ Some old
  pub sends : SendsOn old new
  pub outs : d.core.outs.items ≡ slice_set c.core.outs.items out new
  pub others : KeepsOthers c d

-- an out of the same edge on which nothing was put
pub record Eases (a b : OutEdge) : Type 0 where
  pub tail : TailLooked a.tail b.tail
  pub unsent : b.unsent ≡ a.unsent
  pub child : b.child ≡ a.child
  pub input : b.input ≡ a.input

-- nothing waits at an out, or its tail knows of no free place
abbrev pub IsStuck : {N : Type 0} → ℕ → CellParts N → Type 0
IsStuck out d = (o : OutEdge) → slice_get d.core.outs.items out ≡ Some o → (o.unsent ≡ []) ⊎ (free o.tail ≡ 0)

-- nothing was put: there is no such out, or nothing waits there, or the ring was full as this call looked
pub record PutsNone {N : Type 0} (out : ℕ) (c d : CellParts N) : Type 0 where
  pub why : (length c.core.outs.items ≤ out) ⊎ IsStuck out d
  pub outs : AllZip Eases c.core.outs.items d.core.outs.items
  pub others : KeepsOthers c d
