use Rattle.std.proofs.Common.{◌∙◌, sym}
use Rattle.select_nodes.proofs.ReadingLaws.{last_here, last_on}
use Rattle.select_nodes.proofs.picks.last.Goals as goal

pub returns-in-Some-2 : goal.returns-in-Some-2
returns-in-Some-2 c =
    sym (last_here c.args.field.now c.seeking.left.now c.in-Some.others.now c.in-Some.point.now c.in-Some-2.pick c.in-Some.ensures.cases.0
    (rw (c.value.ensures) at (sym c.in_ok-pick.ensures ∙ c.in-Some-2.is)))
    ∙ c.seeking.invariant

pub seeking-preserved : goal.seeking-preserved
seeking-preserved c =
    last_on c.args.field.now c.seeking.left.now c.in-Some.others.now c.in-Some.point.now c.in-Some.ensures.cases.0
    (rw (c.value.ensures) at (sym c.in_ok-pick.ensures ∙ c.in_default-2.is))
    ∙ c.seeking.invariant
