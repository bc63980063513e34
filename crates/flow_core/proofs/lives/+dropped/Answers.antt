use Rattle.std.proofs.Common.{◌<◌, ◌≤◌, length, arith}
use Rattle.flow_core.proofs.LivesLaws.{cell_after, cell_own}
use Rattle.flow_core.proofs.lives.+dropped.Goals as goal

pub returns-then-cell-cells : goal.returns-then-cell-cells
returns-then-cell-cells g t c = λ parts has.
    let lt : c.args.cell < length c.in-Some.first.now.life.cells = omega arith in
    c.dropped.ensures parts (cell_own _ _ _ c.args.cell parts c.in-Some.ensures.cases.0 lt has)

pub returns : goal.returns
returns g t c = λ parts has.
    let le : c.cells-cells.result ≤ c.args.cell = omega arith in
    c.dropped-2.ensures parts (cell_after _ _ _ c.args.cell _ parts c.in-Some.ensures.cases.0 c.cells-cells.ensures.count le has)
