use Rattle.std.proofs.Common.{◌∙◌}
use Rattle.select_nodes.specs.Ranks.{goes_before}
use Rattle.select_nodes.specs.Steps.{better}
use Rattle.select_nodes.proofs.ReadingLaws.{best_on}
use Rattle.select_nodes.proofs.readings.best.Goals as goal

pub comparing-preserved : goal.comparing-preserved
comparing-preserved c =
    let read = rw (c.value.ensures) at c.reading_at.ensures in
    c.better-best.ensures
    ∙ (λ i. better (goes_before c.args.rank) (c.comparing.invariant i) (read i))
    ∙ best_on c.args.rank c.args.field.now c.args.points.now c.comparing.point-index c.point-item.result c.comparing-test.true c.point-item.is
