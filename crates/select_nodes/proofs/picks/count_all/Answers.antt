use Rattle.std.proofs.Common.{◌+◌, ◌∙◌, ap, length, ℕ}
use Rattle.std.specs.FinMap.{get}
use Rattle.std.specs.Option.{option_to_list}
use Rattle.select_nodes.proofs.ReadingLaws.{count_on}
use Rattle.select_nodes.proofs.picks.count_all.Goals as goal

pub counting-preserved : goal.counting-preserved
counting-preserved c =
    (rw (c.value.ensures) at c.in_ok-count.ensures)
    ∙ ap (λ (n : ℕ). n + length (option_to_list (get c.point-item.result.fields c.args.field.now))) c.counting.invariant
    ∙ count_on c.args.field.now c.args.points.now c.counting.point-index c.point-item.result c.counting-test.true c.point-item.is
