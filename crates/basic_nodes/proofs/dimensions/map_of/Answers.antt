use Rattle.std.proofs.Common.{ℕ, List, ap, ◌∙◌}
use Rattle.std.specs.FinMap.{insert}
use Rattle.basic_nodes.proofs.DimensionLaws.{map_of_next}
use Rattle.basic_nodes.proofs.dimensions.map_of.Goals as goal

pub adding-preserved : goal.adding-preserved
adding-preserved c =
    map_of_next c.args.names.now c.adding.name-index c.name-item.result c.adding.keyed c.put_key.new.keyed c.adding-test.true c.name-item.is c.adding.invariant
    (c.in_ok-put_key.ensures ∙ ap (λ (n : List ℕ). insert c.adding.keyed n tt) c.text.ensures)
