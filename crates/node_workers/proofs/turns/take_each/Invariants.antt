use Rattle.std.proofs.Common.{◌≡◌, false}
use Rattle.flow_cells.specs.Moved.{HasMoved}
use Rattle.node_workers.proofs.turns.take_each.Given as goal

-- it is the same cell, on which no call failed
abbrev pub invariant-taking : goal.invariant-taking
invariant-taking g l = record {
  unspent : l.cell.spent ≡ false;
  moved : HasMoved l.fn.cell l.cell;
}
