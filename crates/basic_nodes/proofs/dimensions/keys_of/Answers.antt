use Rattle.std.proofs.Common.{arith}
use Rattle.std.proofs.lemmas.Grind.{common_steps}
use Rattle.basic_nodes.proofs.DimensionLaws.{all_more}
use Rattle.basic_nodes.proofs.dimensions.keys_of.Goals as goal

pub adding-preserved : goal.adding-preserved
adding-preserved g c = record {
  keys = grind (arith, common_steps);
  utf8 = rw c.in_ok-push.ensures.items (all_more _ _ c.adding.invariant.utf8 c.in_ok-copy.ensures.utf8);
}
