use Rattle.std.proofs.Common.{sym, ◌∙◌}
use Rattle.flow_cells.specs.Moved.{HasMoved}
use Rattle.flow_cells.proofs.MovedLaws.{HasMoved-refl, HasMoved-trans}
use Rattle.node_workers.proofs.turns.move_cell.Given as given
use Rattle.node_workers.proofs.turns.move_cell.Goals as goal
use Rattle.node_workers.proofs.turns.move_cell.Goals.{In_ok-took}

-- the cell behind one take more
taken : (g : given.Over) (c : In_ok-took g) → HasMoved c.args.cell.now c.take_each.new.cell
taken g c = HasMoved-trans c.args.cell.now c.moving.cell c.take_each.new.cell c.moving.invariant.moved c.in_ok-took.ensures.moved

pub moving-init : goal.moving-init
moving-init g c = record { unspent = sym c.is_spent.ensures ∙ c.if-is_spent.false; moved = HasMoved-refl c.args.cell.now }

pub returns-then-is_quiet : goal.returns-then-is_quiet
returns-then-is_quiet g c = λ _. taken g (goal.at.returns-then-is_quiet g c).In_ok-took

pub returns-then-not-put : goal.returns-then-not-put
returns-then-not-put g c = λ _. HasMoved-trans c.args.cell.now c.take_each.new.cell c.put_each-put.new.cell (taken g (goal.at.returns-then-not-put g c).In_ok-took) c.put_each-put.ensures

pub moving-preserved : goal.moving-preserved
moving-preserved g c = record {
  unspent = c.put_each-put.ensures.spent ∙ (c.in_ok-took.ensures.moved.spent ∙ c.moving.invariant.unspent);
  moved = HasMoved-trans c.args.cell.now c.take_each.new.cell c.put_each-put.new.cell (taken g (goal.at.moving-preserved g c).In_ok-took) c.put_each-put.ensures;
}
