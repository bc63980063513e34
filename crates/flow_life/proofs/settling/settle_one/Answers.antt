use Rattle.std.proofs.Common.{◌≡◌, get_or, Some, sym, ◌∙◌}
use Rattle.std.specs.Prelude.{slice_get}
use Rattle.flow_cells.proofs.OutLaws.{get-here}
use Rattle.flow_life.proofs.LooseLaws.{settled_one, settles-looked, tied_edge}
use Rattle.flow_life.proofs.PlaceLaws.{get-within, in-at}
use Rattle.flow_life.proofs.settling.settle_one.Given as given
use Rattle.flow_life.proofs.settling.settle_one.Goals as goal
use Rattle.flow_life.proofs.settling.settle_one.Goals.{After-index-cells-child}

-- the edge of the input, in the cell
here : (g : given.Over) (c : After-index-cells-child g) → slice_get (get_or c.args.cells.now c.args.child c.index-cells-child.result).ins.items c.args.input ≡ Some c.requires.there.edge
here g c =
    let cells = c.args.cells.now in
    let cell = get_or cells c.args.child c.index-cells-child.result in
    sym (in-at cells c.args.child c.args.input cell (get-here cells c.args.child c.index-cells-child.result c.requires.within)) ∙ c.requires.there.at

pub parent-parent-requires : goal.parent-parent-requires
parent-parent-requires g c =
    let cell = get_or c.args.cells.now c.args.child c.index-cells-child.result in
    get-within cell.ins.items c.args.input c.requires.there.edge (here g c)

pub settle_input-requires-clause-edge : goal.settle_input-requires-clause-edge
settle_input-requires-clause-edge g c =
    let is = here g (goal.at.settle_input-requires-clause-edge g c).After-index-cells-child in
    tied_edge c.args.child c.args.input c.parent-parent.result c.requires.there.edge c.args.cells.now c.requires.joined c.requires.there.at (c.parent-parent.ensures c.requires.there.edge is)

pub settle_input-requires-clause-before : goal.settle_input-requires-clause-before
settle_input-requires-clause-before g c =
    let is = here g (goal.at.settle_input-requires-clause-before g c).After-index-cells-child in
    (tied_edge c.args.child c.args.input c.parent-parent.result c.requires.there.edge c.args.cells.now c.requires.joined c.requires.there.at (c.parent-parent.ensures c.requires.there.edge is)).before

pub returns-clause-looked : goal.returns-clause-looked
returns-clause-looked g c = settles-looked c.args.child c.args.input c.parent-parent.result c.args.cells.now c.settle_input.new.cells c.settle_input.ensures.settles

pub returns-clause-settled : goal.returns-clause-settled
returns-clause-settled g c =
    let is = here g (goal.at.returns-clause-settled g c).After-index-cells-child in
    settled_one c.args.child c.args.input c.parent-parent.result c.requires.there.edge c.args.cells.now c.settle_input.new.cells c.requires.joined c.requires.there.at (sym (c.parent-parent.ensures c.requires.there.edge is)) c.settle_input.ensures.settles c.requires.settled
