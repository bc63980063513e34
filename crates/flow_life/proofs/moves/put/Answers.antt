use Rattle.std.proofs.Common.{◌≡◌, ℕ, ◌<◌, List, length, get_or, set, Some, sym, ◌∙◌, arith}
use Rattle.std.specs.Prelude.{slice_get}
use Rattle.std.specs.List.{AllByRecursion as Each}
use Rattle.flow_cells.specs.declared.parts.CellParts.{CellParts}
use Rattle.flow_cells.proofs.OutLaws.{get-here}
use Rattle.flow_cells.specs.Moves.{PutsOne}
use Rattle.node_core.specs.declared.node.Node.{Ghosts}
use Rattle.flow_life.specs.Loads.{IsGathered}
use Rattle.flow_life.proofs.OneLaws.{held-left, put-left}
use Rattle.flow_life.specs.Settling.{HasEdge, Sends, SettlesIn}
use Rattle.flow_life.proofs.PlaceLaws.{each-get, get-within, in-within, out-within}
use Rattle.flow_life.specs.Steps.{CanPutAt}
use Rattle.flow_life.specs.Wired.{IsUnspent}
use Rattle.flow_life.proofs.NodeLaws.{Stays, held-stays, put-stays}
use Rattle.flow_life.proofs.StepLaws.{Made}
use Rattle.flow_life.proofs.TryLaws.{same-held, same-refl}
use Rattle.flow_life.proofs.PutLaws.{Held, could-put, edge-as, put-edge, put-held, put-made, put-sends, put-there, settles-as, stuck-put}
use Rattle.flow_life.proofs.moves.put.Given as given
use Rattle.flow_life.proofs.moves.put.Goals as goal
use Rattle.flow_life.proofs.moves.put.Goals.{After-child_input-input, After-settle_input, Then-not-put}

-- what a put that was made and settled leaves
record IsPut {N P S : Type 0} (g : Ghosts N P S) (cell out : ℕ) (cells now : List (CellParts N)) : Type 0 where
  made : Made g cells now
  stays : Stays g cells now
  could : CanPutAt cells cell out
  sends : Sends cell out cells now
  left : Each IsGathered cells → Each IsGathered now

-- the cell that moves
here : {N : Type 0} (cells : List (CellParts N)) (cell : ℕ) (d : CellParts N) → cell < length cells → slice_get cells cell ≡ Some (get_or cells cell d)
here cells cell d lt = get-here cells cell d lt

held : (g : given.Over) (c : goal.Then-not-put g) → Held g.N.Node c.args.cells.now (set c.args.cells.now c.args.cell c.put.new.self)
held g c =
    let cells = c.args.cells.now in
    let mover = get_or cells c.args.cell c.index-cells-cell.result in
    put-held g.N.Node cells c.args.cell c.args.out mover c.put.new.self c.requires (here cells c.args.cell c.index-cells-cell.result (omega arith)) c.put.ensures.keeps (c.put.ensures.none c.if-not-put.true)

still : (g : given.Over) (c : goal.Then-not-put g) → Stays g.N.Node c.args.cells.now (set c.args.cells.now c.args.cell c.put.new.self)
still g c =
    let cells = c.args.cells.now in
    let mover = get_or cells c.args.cell c.index-cells-cell.result in
    held-stays g.N.Node cells c.args.cell c.args.out mover c.put.new.self (here cells c.args.cell c.index-cells-cell.result (omega arith)) (c.put.ensures.none c.if-not-put.true)

edge : (g : given.Over) (c : goal.After-child_input-input g) → HasEdge c.child-child.result c.child_input-input.result c.args.cell (set c.args.cells.now c.args.cell c.put.new.self)
edge g c =
    let cells = c.args.cells.now in
    let mover = get_or cells c.args.cell c.index-cells-cell.result in
    let t : PutsOne c.args.out mover c.put.new.self = c.put.ensures.put c.if-not-put.false in
    let there = put-there c.args.out mover c.put.new.self t in
    edge-as t.new.child c.child-child.result t.new.input c.child_input-input.result c.args.cell (set cells c.args.cell c.put.new.self)
    (sym (c.child-child.ensures t.new there)) (sym (c.child_input-input.ensures t.new there))
    (put-edge cells c.args.cell c.args.out mover c.put.new.self c.requires.wired (here cells c.args.cell c.index-cells-cell.result (omega arith)) t)

whole : (g : given.Over) (c : goal.After-settle_input g) → IsPut g.N.Node c.args.cell c.args.out c.args.cells.now c.settle_input.new.cells
whole g c =
    let cells = c.args.cells.now in
    let mover = get_or cells c.args.cell c.index-cells-cell.result in
    let mid = set cells c.args.cell c.put.new.self in
    let now = c.settle_input.new.cells in
    let at : slice_get cells c.args.cell ≡ Some mover = here cells c.args.cell c.index-cells-cell.result (omega arith) in
    let t : PutsOne c.args.out mover c.put.new.self = c.put.ensures.put c.if-not-put.false in
    let there = put-there c.args.out mover c.put.new.self t in
    let s : SettlesIn t.old.child t.old.input c.args.cell mid now = settles-as c.child-child.result t.old.child c.child_input-input.result t.old.input c.args.cell mid now (c.child-child.ensures t.new there ∙ t.sends.child) (c.child_input-input.ensures t.new there ∙ t.sends.input) c.settle_input.ensures.settles in
    record {
      made = put-made g.N.Node cells now c.args.cell c.args.out mover c.put.new.self c.requires at c.put.ensures.keeps t s c.settle_input.ensures.keeps;
      stays = put-stays g.N.Node cells now c.args.cell c.args.out t.old.child t.old.input mover c.put.new.self at t s;
      could = could-put cells now c.args.cell c.args.out mover c.put.new.self c.requires.wired at t s;
      sends = put-sends cells now c.args.cell c.args.out mover c.put.new.self c.requires.wired at t s;
      left = put-left cells now c.args.cell c.args.out t.old.child t.old.input mover c.put.new.self at t s;
    }

pub returns-then-cell-cells-clause-no : goal.returns-then-cell-cells-clause-no
returns-then-cell-cells-clause-no g c = λ _ can.
    let lt : c.args.cell < length c.args.cells.now = out-within c.args.cells.now c.args.cell c.args.out can.edge can.at in
    absurd (omega arith)

pub returns-then-not-put-clause-ready : goal.returns-then-not-put-clause-ready
returns-then-not-put-clause-ready g c = (held g (goal.at.returns-then-not-put-clause-ready g c).Then-not-put).ready

pub returns-then-not-put-clause-plans : goal.returns-then-not-put-clause-plans
returns-then-not-put-clause-plans g c = (held g (goal.at.returns-then-not-put-clause-plans g c).Then-not-put).plans

pub returns-then-not-put-clause-specs : goal.returns-then-not-put-clause-specs
returns-then-not-put-clause-specs g c = (still g (goal.at.returns-then-not-put-clause-specs g c).Then-not-put).specs

pub returns-then-not-put-clause-gathered : goal.returns-then-not-put-clause-gathered
returns-then-not-put-clause-gathered g c = (still g (goal.at.returns-then-not-put-clause-gathered g c).Then-not-put).gathered

pub returns-then-not-put-clause-rooms : goal.returns-then-not-put-clause-rooms
returns-then-not-put-clause-rooms g c = (still g (goal.at.returns-then-not-put-clause-rooms g c).Then-not-put).rooms

pub returns-then-not-put-clause-no : goal.returns-then-not-put-clause-no
returns-then-not-put-clause-no g c = λ _ can.
    let cells = c.args.cells.now in
    let mover = get_or cells c.args.cell c.index-cells-cell.result in
    stuck-put cells c.args.cell c.args.out mover c.put.new.self c.requires.wired (here cells c.args.cell c.index-cells-cell.result (omega arith)) (c.put.ensures.none c.if-not-put.true) can

pub returns-then-not-put-clause-count : goal.returns-then-not-put-clause-count
returns-then-not-put-clause-count g c = (held g (goal.at.returns-then-not-put-clause-count g c).Then-not-put).count ∙ omega arith

pub put-requires : goal.put-requires
put-requires g c =
    let cells = c.args.cells.now in
    each-get IsUnspent cells c.args.cell (get_or cells c.args.cell c.index-cells-cell.result) (here cells c.args.cell c.index-cells-cell.result (omega arith)) c.requires.unspent

pub child-child-requires : goal.child-child-requires
child-child-requires g c =
    let mover = get_or c.args.cells.now c.args.cell c.index-cells-cell.result in
    let t : PutsOne c.args.out mover c.put.new.self = c.put.ensures.put c.if-not-put.false in
    get-within c.put.new.self.core.outs.items c.args.out t.new (put-there c.args.out mover c.put.new.self t)

pub child_input-input-requires : goal.child_input-input-requires
child_input-input-requires g c =
    let mover = get_or c.args.cells.now c.args.cell c.index-cells-cell.result in
    let t : PutsOne c.args.out mover c.put.new.self = c.put.ensures.put c.if-not-put.false in
    get-within c.put.new.self.core.outs.items c.args.out t.new (put-there c.args.out mover c.put.new.self t)

pub settle_input-requires-clause-edge : goal.settle_input-requires-clause-edge
settle_input-requires-clause-edge g c = edge g (goal.at.settle_input-requires-clause-edge g c).After-child_input-input

pub settle_input-requires-clause-before : goal.settle_input-requires-clause-before
settle_input-requires-clause-before g c = (edge g (goal.at.settle_input-requires-clause-before g c).After-child_input-input).before

pub settle_input-requires-clause-within : goal.settle_input-requires-clause-within
settle_input-requires-clause-within g c =
    let e = edge g (goal.at.settle_input-requires-clause-within g c).After-child_input-input in
    in-within (set c.args.cells.now c.args.cell c.put.new.self) c.child-child.result c.child_input-input.result e.edge e.at_in

pub returns-clause-ready : goal.returns-clause-ready
returns-clause-ready g c = (whole g (goal.at.returns-clause-ready g c).After-settle_input).made.ready

pub returns-clause-plans : goal.returns-clause-plans
returns-clause-plans g c = (whole g (goal.at.returns-clause-plans g c).After-settle_input).made.plans

pub returns-clause-specs : goal.returns-clause-specs
returns-clause-specs g c = (whole g (goal.at.returns-clause-specs g c).After-settle_input).stays.specs

pub returns-clause-gathered : goal.returns-clause-gathered
returns-clause-gathered g c = (whole g (goal.at.returns-clause-gathered g c).After-settle_input).stays.gathered

pub returns-clause-rooms : goal.returns-clause-rooms
returns-clause-rooms g c = (whole g (goal.at.returns-clause-rooms g c).After-settle_input).stays.rooms

pub returns-clause-yes : goal.returns-clause-yes
returns-clause-yes g c = λ _. (whole g (goal.at.returns-clause-yes g c).After-settle_input).could

pub returns-clause-sends : goal.returns-clause-sends
returns-clause-sends g c = λ _. (whole g (goal.at.returns-clause-sends g c).After-settle_input).sends

pub returns-clause-count : goal.returns-clause-count
returns-clause-count g c = (whole g (goal.at.returns-clause-count g c).After-settle_input).made.count

pub returns-then-cell-cells-clause-still : goal.returns-then-cell-cells-clause-still
returns-then-cell-cells-clause-still g c = λ _. same-refl c.args.cells.now

pub returns-then-not-put-clause-still : goal.returns-then-not-put-clause-still
returns-then-not-put-clause-still g c = λ _.
    let cells = c.args.cells.now in
    let mover = get_or cells c.args.cell c.index-cells-cell.result in
    same-held cells c.args.cell c.args.out mover c.put.new.self (here cells c.args.cell c.index-cells-cell.result (omega arith)) (c.put.ensures.none c.if-not-put.true)

pub returns-then-not-put-clause-left : goal.returns-then-not-put-clause-left
returns-then-not-put-clause-left g c =
    let cells = c.args.cells.now in
    let mover = get_or cells c.args.cell c.index-cells-cell.result in
    held-left cells c.args.cell c.args.out mover c.put.new.self (here cells c.args.cell c.index-cells-cell.result (omega arith)) (c.put.ensures.none c.if-not-put.true)

pub returns-clause-left : goal.returns-clause-left
returns-clause-left g c = (whole g (goal.at.returns-clause-left g c).After-settle_input).left
