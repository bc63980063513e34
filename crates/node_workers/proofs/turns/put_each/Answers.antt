use Rattle.std.proofs.Common.{◌∙◌}
use Rattle.flow_cells.proofs.MovedLaws.{HasMoved-refl, HasMoved-trans}
use Rattle.node_workers.proofs.turns.put_each.Goals as goal

pub putting-init : goal.putting-init
putting-init g c = record { unspent = c.requires; moved = HasMoved-refl c.args.cell.now }

pub putting-preserved : goal.putting-preserved
putting-preserved g c =
    let i = c.putting.invariant in
    let m = c.put.ensures.moved in
    record { unspent = m.spent ∙ i.unspent; moved = HasMoved-trans c.args.cell.now c.putting.cell c.put.new.self i.moved m }
