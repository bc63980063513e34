use Rattle.join_node.proofs.CodeLaws.{fronts}
use Rattle.join_node.proofs.queues.QueueSpelled.append_spelling.Goals as goal

pub returns-in_err-put_points-clause-before : goal.returns-in_err-put_points-clause-before
returns-in_err-put_points-clause-before c = fronts c.args.to.now c.put_u32.new.to c.put_points.new.to _ c.in_ok-put_u32.ensures.ok c.put_points.ensures.before

pub returns-clause-before : goal.returns-clause-before
returns-clause-before c =
    fronts c.args.to.now c.put_u32.new.to c.put_points-2.new.to _ c.in_ok-put_u32.ensures.ok
    (fronts c.put_u32.new.to c.put_points.new.to c.put_points-2.new.to _ c.in_ok-put_points.ensures.bytes c.put_points-2.ensures.before)
