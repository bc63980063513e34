use Rattle.std.proofs.Common.{ap, ◌∙◌}
use Rattle.std.specs.FinMap as map
use Rattle.kap_base.proofs.ResultLaws.{on_ok}
use Rattle.node_core.proofs.CellLaws.{cell_is}
use Rattle.node_core.proofs.table.feed_cell.Goals as goal

pub returns-clause-cells : goal.returns-clause-cells
returns-clause-cells g c =
    let place = c.in_ok-at.ensures.ok in
    let is = cell_is place c.args.table.now c.table.view_is _ c.index_mut-cell.ensures.value in
    let all = place.writes c.feed.new.cell ∙ ap (λ m. map.insert m c.become_key_of.new.self c.feed.new.cell) c.table.view_is in
    on_ok c.feed.result (λ e. rw (c.in_ok-become_key_of.ensures, c.value.ensures) at (all ∙ ap (map.insert c.args.table.now c.become_key_of.new.self) (rw is at e))) c.feed.ensures.cell

pub returns-clause-said : goal.returns-clause-said
returns-clause-said g c =
    let is = cell_is c.in_ok-at.ensures.ok c.args.table.now c.table.view_is _ c.index_mut-cell.ensures.value in
    rw (is, c.in_ok-become_key_of.ensures, c.value.ensures) at c.feed.ensures.said
