use Rattle.std.proofs.Common.{◌<◌, List, [], length, arith}
use Rattle.kap_base.specs.Points.{PointValue}
use Rattle.kap_base.proofs.LoopLaws.{changed}
use Rattle.join_node.proofs.queues.empty.Goals as goal

pub emptying-preserved : goal.emptying-preserved
emptying-preserved c =
    let lt : c.emptying.queue-index < length c.args.queues.now = omega arith in
    changed (λ (ps : List PointValue). []) c.args.queues.now c.emptying.queues c.emptying.queue-index c.queue-item.result c.clear.new.self lt
    c.emptying.invariant c.clear.ensures
