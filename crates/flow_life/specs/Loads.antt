-- A load begins on the cells of a life.
use Rattle.std.specs.Prelude.{◌≡◌, ◌<◌, Bool, false, true, List, [], ◌∷◌, length, map}
use Rattle.std.specs.List.{AllByRecursion as Each}
use Rattle.kap_base.specs.declared.items.Msg.{Msg}
use Rattle.kap_base.specs.declared.items.Msg.TheVariants as messages
use Rattle.node_core.specs.declared.node.Node.{Ghosts}
use Rattle.flow_cells.specs.declared.parts.InEdge.{InEdge}
use Rattle.flow_cells.specs.declared.parts.CellParts.{CellParts}
use Rattle.flow_cells.specs.Loads.{Begins, NothingWaits}
use Rattle.flow_cells.specs.Made.{IsNothing}
use Rattle.flow_life.specs.Streams.{Plan, rings_of}

-- the points and barriers of a load are for streams, which have no parents
abbrev pub own_of : List InEdge → List Msg → List Msg
own_of [] source = source
own_of (e ∷ ins) source = []

-- a cell is no stream's
abbrev pub HasInputs : {N : Type 0} → CellParts N → Type 0
HasInputs c = 0 < length c.ins.items

-- of two lists of points and barriers a cell sees the same
abbrev pub SeesSame : {N : Type 0} → List Msg → List Msg → CellParts N → Type 0
SeesSame source other c = own_of c.ins.items source ≡ own_of c.ins.items other

-- a barrier stands among messages
abbrev pub has_barrier : List Msg → Bool
has_barrier [] = false
has_barrier (messages.Item x ∷ source) = has_barrier source
has_barrier (messages.Barrier b ∷ source) = true

-- a barrier stands among them before the last one
abbrev pub has_inner : List Msg → Bool
has_inner [] = false
has_inner (messages.Item x ∷ source) = has_inner source
has_inner (messages.Barrier b ∷ source) = has_barrier source

-- a load began on a cell, which is to keep the states at barriers or isn't
abbrev pub LoadsFrom : {N : Type 0} → Bool → List Msg → CellParts N → CellParts N → Type 0
LoadsFrom keeps source c d = Begins (own_of c.ins.items source) keeps c d

-- nothing is left to do, to send or to gather
pub record CanLoad {N : Type 0} (c : CellParts N) : Type 0 where
  pub unspent : c.spent ≡ false
  pub empty : Each IsNothing c.buffer
  pub sent : Each NothingWaits c.core.outs.items
  pub gathered : c.core.effects ≡ []

-- the effects of a cell were gathered
abbrev pub IsGathered : {N : Type 0} → CellParts N → Type 0
IsGathered c = c.core.effects ≡ []

module _ {N P S : Type 0} (g : Ghosts N P S) where
  -- the node of a cell at a load that begins in its state
  abbrev pub plan_now : List Msg → CellParts N → Plan S
  plan_now source c = record {
    step = g.step (g.spec c.core.node);
    start = g.state c.core.node;
    passed = c.core.passed;
    source = own_of c.ins.items source;
    parents = map (λ (e : InEdge). e.from) c.ins.items;
    carried = rings_of c.ins.items;
    keeps = has_inner source;
  }
