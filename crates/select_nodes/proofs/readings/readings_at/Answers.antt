use Rattle.std.proofs.Common.{arith}
use Rattle.std.proofs.lemmas.Grind.{common_steps}
use Rattle.std.proofs.lemmas.List.Elements.{filter_map-append}
use Rattle.select_nodes.proofs.readings.readings_at.Goals as goal

pub reading-preserved : goal.reading-preserved
reading-preserved c = grind (arith, common_steps, filter_map-append)
