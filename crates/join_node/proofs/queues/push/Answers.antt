use Rattle.std.proofs.Common.{◌<◌, length, arith, sym}
use Rattle.join_node.proofs.CodeLaws.{pushed_ok, pushed_out}
use Rattle.join_node.proofs.queues.push.Goals as goal

pub returns-then-parent-queues : goal.returns-then-parent-queues
returns-then-parent-queues c = sym (pushed_out c.args.parent c.args.point c.args.queues.now (λ lt. omega arith))

pub returns : goal.returns
returns c =
    let lt : c.args.parent < length c.args.queues.now = omega arith in
    pushed_ok c.push.result c.args.parent c.args.point c.args.queues.now c.index-queues-parent.result c.push.new.self lt c.push.ensures
