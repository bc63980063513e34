use Rattle.std.proofs.Common.{rules}
use Rattle.std.specs.Int.{w64}
use Rattle.std.proofs.lemmas.Result.{IfOk-weaker}
use mir.Val.{SFits}
use Rattle.state_nodes.proofs.NumberLaws.{difference_said}
use Rattle.state_nodes.proofs.difference.feed_difference.Goals as goal

pub returns-clause-said : goal.returns-clause-said
returns-clause-said c =
    let before : SFits w64 c.in-Some-before.before = search rules in
    let number : SFits w64 c.in-Some.number = search rules in
    IfOk-weaker c.pass_new.result _ _ (λ said e. difference_said said c.in_ok-point.point c.args.point c.args.spec.now.name c.in-Some-before.before c.in-Some.number c.less-change.result c.args.last.now c.int_at.result _ before number
    c.in-Some-before.is c.in-Some.is c.int_at.ensures c.less-change.ensures c.in_ok-point.ensures e) c.pass_new.ensures
