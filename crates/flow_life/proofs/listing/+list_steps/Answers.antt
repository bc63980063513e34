use Rattle.std.proofs.Common.{◌∙◌}
use Rattle.flow_life.proofs.ListingLaws.{listed_cell}
use Rattle.flow_life.proofs.listing.+list_steps.Goals as goal
use Rattle.kap_base.proofs.ResultLaws.{on_ok}

pub returns : goal.returns
returns g t c = on_ok c.list_steps.result (listed_cell c.args.cells.now c.in-Some.first.now c.in-Some.others.now c.args.from c.in_ok-cell.cell c.in_ok-inputs.inputs c.in_ok-outs.outs _ _ _ _
    c.in-Some.ensures.cases.0 c.in_ok-cell.ensures (c.in_ok-inputs.ensures ∙ c.inputs.ensures.count) (c.in_ok-outs.ensures ∙ c.outs.ensures) c.in_ok-list_takes.ensures c.in_ok-list_puts.ensures) c.list_steps.ensures
