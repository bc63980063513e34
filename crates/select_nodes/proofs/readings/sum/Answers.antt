use Rattle.std.proofs.Common.{◌∙◌}
use Rattle.select_nodes.specs.Steps.{added}
use Rattle.select_nodes.proofs.ReadingLaws.{sum_on}
use Rattle.select_nodes.proofs.readings.sum.Goals as goal

pub adding-preserved : goal.adding-preserved
adding-preserved c =
    let read = rw (c.value.ensures) at c.reading_at.ensures in
    c.added-sum.ensures
    ∙ (λ i. added (c.adding.invariant i) (read i))
    ∙ sum_on c.args.field.now c.args.points.now c.adding.point-index c.point-item.result c.adding-test.true c.point-item.is
