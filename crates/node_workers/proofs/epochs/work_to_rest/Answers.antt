use Rattle.std.proofs.lemmas.Result.{on_ok_weaker}
use Rattle.flow_core.proofs.NetLaws.{net_goes_then}
use Rattle.node_workers.proofs.WorkerLaws.{stood_back}
use Rattle.node_workers.proofs.epochs.work_to_rest.Goals as goal

pub give_cells-requires-clause-back : goal.give_cells-requires-clause-back
give_cells-requires-clause-back g c =
    let e = c.take_cells-cells.ensures in
    record {
      before = c.take_cells-cells.result.lives.items;
      back = stood_back g.N.Node c.take_cells-cells.result.lives.items c.move_cells.new.cells.lives.items e.sound c.move_cells.ensures (c.are_unspent.ensures.yes c.if-not-are_unspent.false);
    }

pub returns-clause-goes : goal.returns-clause-goes
returns-clause-goes g c =
    let e = c.take_cells-cells.ensures in
    let taken = c.take_cells-cells.result.lives.items in
    let back = stood_back g.N.Node taken c.move_cells.new.cells.lives.items e.sound c.move_cells.ensures (c.are_unspent.ensures.yes c.if-not-are_unspent.false) in
    let moved = net_goes_then g.N.Node _ _ _ e.goes (c.in_ok-give_cells.ensures.goes taken back) in
    on_ok_weaker c.finish.result (λ goes. net_goes_then g.N.Node _ _ _ moved goes) c.finish.ensures.goes
