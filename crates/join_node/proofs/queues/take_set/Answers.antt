use Rattle.std.proofs.Common.{◌<◌, ◌∙◌, List, drop, slice_get, length, arith}
use Rattle.kap_base.specs.Points.{PointValue}
use Rattle.join_node.proofs.CodeLaws.{seen}
use Rattle.kap_base.proofs.LoopLaws.{changed}
use Rattle.join_node.proofs.queues.take_set.Goals as goal

pub taking-preserved : goal.taking-preserved
taking-preserved c =
    let queues = c.args.queues.now in
    let i = c.taking.queue-index in
    let d = c.queue-item.result in
    let lt : c.taking.queue-index < length c.args.queues.now = omega arith in
    record {
      set = c.in_ok-push.ensures.items
          ∙ seen (drop 1) (λ (ps : List PointValue). slice_get ps 0) queues c.taking.queues i d c.taking.set.items c.pop.result lt c.taking.invariant.queues
          c.taking.invariant.set c.pop.ensures.first;
      queues = changed (drop 1) queues c.taking.queues i d c.pop.new.self lt c.taking.invariant.queues c.pop.ensures.rest;
    }
