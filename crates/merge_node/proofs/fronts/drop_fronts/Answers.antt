use Rattle.std.proofs.Common.{◌<◌, List, drop, length, arith}
use Rattle.kap_base.specs.declared.items.Msg.{Msg}
use Rattle.kap_base.proofs.LoopLaws.{changed}
use Rattle.merge_node.proofs.fronts.drop_fronts.Goals as goal

pub dropping-preserved : goal.dropping-preserved
dropping-preserved c =
    let lt : c.dropping.buffer-index < length c.args.buffers.now = omega arith in
    changed (λ (l : List Msg). drop 1 l) c.args.buffers.now c.dropping.buffers c.dropping.buffer-index c.buffer-item.result c.pop.new.self lt c.dropping.invariant
    c.pop.ensures.rest
