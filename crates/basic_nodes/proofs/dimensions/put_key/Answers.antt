use Rattle.std.proofs.Common.{sym, ◌∙◌}
use Rattle.basic_nodes.proofs.DimensionLaws.{key_stays}
use Rattle.basic_nodes.proofs.dimensions.put_key.Goals as goal

pub returns-then-contains_key : goal.returns-then-contains_key
returns-then-contains_key c =
    sym (key_stays c.args.keyed.now c.args.name.now (sym c.contains_key.ensures ∙ c.if-contains_key.true))
