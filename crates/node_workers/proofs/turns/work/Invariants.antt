use Rattle.std.specs.List.{AllZip}
use Rattle.node_workers.specs.Workers.{HasStood}
use Rattle.node_workers.proofs.turns.work.Given as goal

-- the cells are the same
abbrev pub invariant-turning : goal.invariant-turning
invariant-turning g l = AllZip HasStood l.fn.cells l.cells
