use Rattle.std.proofs.Common.{◌≡◌, ℕ, ◌+◌, ◌<◌, Bool, true, false, List, length, get_or, set, Some, Ok, refl, sym, ap, subst, ◌∙◌, arith}
use Rattle.std.proofs.lemmas.List.{set-get_or}
use Rattle.std.specs.Prelude.{IsFalse, slice_get}
use Rattle.std.specs.List.{AllByRecursion as Each}
use Rattle.node_core.specs.declared.node.Node.{Ghosts}
use Rattle.flow_cells.specs.declared.parts.CellParts.{CellParts}
use Rattle.flow_cells.proofs.OutLaws.{get-here}
use Rattle.flow_cells.specs.Looks.{CanTake}
use Rattle.flow_cells.specs.Moves.{TakesOne}
use Rattle.flow_life.specs.Loads.{IsGathered}
use Rattle.flow_life.proofs.OneLaws.{all-but, take-left}
use Rattle.flow_life.specs.Settling.{HasEdge, Receives}
use Rattle.flow_life.specs.Steps.{CanTakeAt, moves_of, one_if}
use Rattle.flow_life.specs.Wired.{IsUnspent}
use Rattle.flow_life.proofs.PlaceLaws.{each-get, found-same, get-within, in-within}
use Rattle.flow_life.proofs.NodeLaws.{Stays, take-stays}
use Rattle.flow_life.specs.Trying.{IsGatheredBut, SameEnabled}
use Rattle.flow_life.proofs.TryLaws.{same-refl}
use Rattle.flow_life.proofs.StepLaws.{Made, take-edge, take-made, take-receives, take-sure}
use Rattle.flow_life.proofs.moves.take.Given as given
use Rattle.flow_life.proofs.moves.take.Goals as goal
use Rattle.flow_life.proofs.moves.take.Goals.{After-settle_input, In_ok-took}

-- what a take that was made and settled leaves
record IsTaken {N P S : Type 0} (g : Ghosts N P S) (cell input : ℕ) (cells now : List (CellParts N)) (took : Bool) : Type 0 where
  made : Made g cells now
  stays : Stays g cells now
  could : CanTakeAt cells cell input
  receives : Receives cell input cells now
  left : Each IsGathered cells → IsGatheredBut cell now
  yes : took ≡ true

-- a take that could be made
record Took {N : Type 0} (cell input parent : ℕ) (cells : List (CellParts N)) (c d : CellParts N) (took : Bool) : Type 0 where
  at : slice_get cells cell ≡ Some c
  can : CanTake input c
  yes : took ≡ true
  takes : TakesOne input c d
  from : takes.old.from ≡ parent

bool-true : (b : Bool) → (b ≡ false → ⊥) → b ≡ true
bool-true true h = refl
bool-true false h = absurd (h refl)

took-it : (g : given.Over) (c : goal.In_ok-took g) → Took c.args.cell c.args.input c.parent-parent.result c.args.cells.now (get_or c.args.cells.now c.args.cell c.index-cells-cell.result) c.take.new.self c.in_ok-took.took
took-it g c =
    let cells = c.args.cells.now in
    let mover = get_or cells c.args.cell c.index-cells-cell.result in
    let can : CanTake c.args.input mover = c.can_take.ensures.yes c.if-not-can_take.false in
    let took : c.in_ok-took.took ≡ true = bool-true c.in_ok-took.took (λ none. take-sure c.args.input mover c.take.new.self can (c.in_ok-took.ensures.none (ap Ok none))) in
    let takes : TakesOne c.args.input mover c.take.new.self = c.in_ok-took.ensures.took (ap Ok took) in
    record {
      at = get-here cells c.args.cell c.index-cells-cell.result (omega arith);
      can = can;
      yes = took;
      takes = takes;
      from = sym (c.parent-parent.ensures takes.old takes.at);
    }

edge : (g : given.Over) (c : goal.In_ok-took g) → HasEdge c.args.cell c.args.input c.parent-parent.result (set c.args.cells.now c.args.cell c.take.new.self)
edge g c =
    let cells = c.args.cells.now in
    let t = took-it g c in
    take-edge cells c.args.cell c.args.input c.parent-parent.result (get_or cells c.args.cell c.index-cells-cell.result) c.take.new.self c.requires.wired t.at t.takes t.from

whole : (g : given.Over) (c : goal.After-settle_input g) (t : Took c.args.cell c.args.input c.parent-parent.result c.args.cells.now (get_or c.args.cells.now c.args.cell c.index-cells-cell.result) c.take.new.self c.in_ok-took.took) → IsTaken g.N.Node c.args.cell c.args.input c.args.cells.now c.settle_input.new.cells c.in_ok-took.took
whole g c t =
    let cells = c.args.cells.now in
    let mover = get_or cells c.args.cell c.index-cells-cell.result in
    let now = c.settle_input.new.cells in
    record {
      made = take-made g.N.Node cells now c.args.cell c.args.input c.parent-parent.result mover c.take.new.self c.requires t.at c.in_ok-took.ensures.keeps t.takes t.from c.settle_input.ensures.settles c.settle_input.ensures.keeps;
      stays = take-stays g.N.Node cells now c.args.cell c.args.input c.parent-parent.result mover c.take.new.self c.requires.keeps t.at c.in_ok-took.ensures.keeps t.takes c.settle_input.ensures.settles;
      could = record { parts = mover; at = t.at; can = t.can };
      receives = take-receives cells now c.args.cell c.args.input c.parent-parent.result mover c.take.new.self c.requires.wired t.at t.takes t.from c.settle_input.ensures.settles;
      left = λ all. take-left cells now c.args.cell c.args.input c.parent-parent.result c.take.new.self all c.settle_input.ensures.settles;
      yes = t.yes;
    }

pub returns-then-cell-cells-clause-no : goal.returns-then-cell-cells-clause-no
returns-then-cell-cells-clause-no g c = λ _ can.
    let lt : c.args.cell < length c.args.cells.now = get-within c.args.cells.now c.args.cell can.parts can.at in
    absurd (omega arith)

pub returns-then-not-can_take-clause-no : goal.returns-then-not-can_take-clause-no
returns-then-not-can_take-clause-no g c = λ _ can.
    let cells = c.args.cells.now in
    let mover = get_or cells c.args.cell c.index-cells-cell.result in
    let at : slice_get cells c.args.cell ≡ Some mover = get-here cells c.args.cell c.index-cells-cell.result (omega arith) in
    let same : can.parts ≡ mover = found-same (slice_get cells c.args.cell) can.parts mover can.at at in
    c.can_take.ensures.no c.if-not-can_take.true (subst (CanTake c.args.input) same can.can)

pub parent-parent-requires : goal.parent-parent-requires
parent-parent-requires g c =
    let cells = c.args.cells.now in
    let mover = get_or cells c.args.cell c.index-cells-cell.result in
    let can : CanTake c.args.input mover = c.can_take.ensures.yes c.if-not-can_take.false in
    get-within mover.ins.items c.args.input can.edge can.at

pub take-requires : goal.take-requires
take-requires g c =
    let cells = c.args.cells.now in
    each-get IsUnspent cells c.args.cell (get_or cells c.args.cell c.index-cells-cell.result) (get-here cells c.args.cell c.index-cells-cell.result (omega arith)) c.requires.unspent

pub settle_input-requires-clause-edge : goal.settle_input-requires-clause-edge
settle_input-requires-clause-edge g c = edge g (goal.at.settle_input-requires-clause-edge g c).In_ok-took

pub settle_input-requires-clause-before : goal.settle_input-requires-clause-before
settle_input-requires-clause-before g c = (edge g (goal.at.settle_input-requires-clause-before g c).In_ok-took).before

pub settle_input-requires-clause-within : goal.settle_input-requires-clause-within
settle_input-requires-clause-within g c =
    let e = edge g (goal.at.settle_input-requires-clause-within g c).In_ok-took in
    in-within (set c.args.cells.now c.args.cell c.take.new.self) c.args.cell c.args.input e.edge e.at_in

pub returns-clause-ready : goal.returns-clause-ready
returns-clause-ready g c =
    let p = goal.at.returns-clause-ready g c in
    (whole g p.After-settle_input (took-it g p.In_ok-took)).made.ready

pub returns-clause-plans : goal.returns-clause-plans
returns-clause-plans g c =
    let p = goal.at.returns-clause-plans g c in
    (whole g p.After-settle_input (took-it g p.In_ok-took)).made.plans

pub returns-clause-specs : goal.returns-clause-specs
returns-clause-specs g c =
    let p = goal.at.returns-clause-specs g c in
    (whole g p.After-settle_input (took-it g p.In_ok-took)).stays.specs

pub returns-clause-gathered : goal.returns-clause-gathered
returns-clause-gathered g c =
    let p = goal.at.returns-clause-gathered g c in
    (whole g p.After-settle_input (took-it g p.In_ok-took)).stays.gathered

pub returns-clause-rooms : goal.returns-clause-rooms
returns-clause-rooms g c =
    let p = goal.at.returns-clause-rooms g c in
    (whole g p.After-settle_input (took-it g p.In_ok-took)).stays.rooms

pub returns-clause-yes : goal.returns-clause-yes
returns-clause-yes g c = λ _.
    let p = goal.at.returns-clause-yes g c in
    (whole g p.After-settle_input (took-it g p.In_ok-took)).could

pub returns-clause-no : goal.returns-clause-no
returns-clause-no g c = λ none _.
    let took = (took-it g (goal.at.returns-clause-no g c).In_ok-took).yes in
    let never : true ≡ false = subst IsFalse took none in
    absurd cc

pub returns-clause-receives : goal.returns-clause-receives
returns-clause-receives g c = λ _.
    let p = goal.at.returns-clause-receives g c in
    (whole g p.After-settle_input (took-it g p.In_ok-took)).receives

pub returns-clause-count : goal.returns-clause-count
returns-clause-count g c =
    let p = goal.at.returns-clause-count g c in
    let t = took-it g p.In_ok-took in
    (whole g p.After-settle_input t).made.count ∙ ap (λ (n : ℕ). moves_of c.args.cells.now + n) (sym (ap one_if t.yes))

pub returns-then-cell-cells-clause-still : goal.returns-then-cell-cells-clause-still
returns-then-cell-cells-clause-still g c = λ _. same-refl c.args.cells.now

pub returns-then-cell-cells-clause-left : goal.returns-then-cell-cells-clause-left
returns-then-cell-cells-clause-left g c = all-but c.args.cells.now c.args.cell

pub returns-then-not-can_take-clause-still : goal.returns-then-not-can_take-clause-still
returns-then-not-can_take-clause-still g c = λ _.
    let cells = c.args.cells.now in
    subst (SameEnabled cells) (sym (set-get_or cells c.args.cell c.index-cells-cell.result)) (same-refl cells)

pub returns-then-not-can_take-clause-left : goal.returns-then-not-can_take-clause-left
returns-then-not-can_take-clause-left g c = λ all.
    let cells = c.args.cells.now in
    subst (IsGatheredBut c.args.cell) (sym (set-get_or cells c.args.cell c.index-cells-cell.result)) (all-but cells c.args.cell all)

pub returns-clause-still : goal.returns-clause-still
returns-clause-still g c = λ none.
    let took = (took-it g (goal.at.returns-clause-still g c).In_ok-took).yes in
    let never : true ≡ false = subst IsFalse took none in
    absurd cc

pub returns-clause-left : goal.returns-clause-left
returns-clause-left g c =
    let p = goal.at.returns-clause-left g c in
    (whole g p.After-settle_input (took-it g p.In_ok-took)).left

pub returns-clause-idle : goal.returns-clause-idle
returns-clause-idle g c = λ none _.
    let took = (took-it g (goal.at.returns-clause-idle g c).In_ok-took).yes in
    let never : true ≡ false = subst IsFalse took none in
    absurd cc
