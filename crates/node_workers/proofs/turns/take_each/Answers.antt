use Rattle.std.proofs.Common.{◌∙◌}
use Rattle.flow_cells.proofs.MovedLaws.{HasMoved-refl, HasMoved-trans}
use Rattle.node_workers.proofs.turns.take_each.Goals as goal

pub taking-init : goal.taking-init
taking-init g c = record { unspent = c.requires; moved = HasMoved-refl c.args.cell.now }

pub taking-preserved : goal.taking-preserved
taking-preserved g c =
    let i = c.taking.invariant in
    let m = c.in_ok-take.ensures.moved in
    record { unspent = m.spent ∙ i.unspent; moved = HasMoved-trans c.args.cell.now c.taking.cell c.take.new.self i.moved m }
