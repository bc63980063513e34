use Rattle.std.proofs.Common.{rules}
use Rattle.std.specs.Int.{w64}
use Rattle.std.proofs.lemmas.Result.{IfOk-weaker}
use mir.Val.{SFits}
use Rattle.state_nodes.proofs.NumberLaws.{sum_said}
use Rattle.state_nodes.proofs.cumulative_sum.feed_cumulative_sum.Goals as goal

pub returns-clause-said : goal.returns-clause-said
returns-clause-said c =
    let sum : SFits w64 c.args.sum.now = search rules in
    let number : SFits w64 c.in-Some.number = search rules in
    IfOk-weaker c.pass_new.result _ _ (λ said e. sum_said said c.in_ok-point.point c.args.point c.args.spec.now.name c.args.sum.now c.in-Some.number c.plus-next.result c.int_at.result _ sum number
    c.in-Some.is c.int_at.ensures c.plus-next.ensures c.in_ok-point.ensures e) c.pass_new.ensures
