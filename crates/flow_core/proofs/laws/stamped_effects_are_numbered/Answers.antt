use Rattle.flow_core.proofs.NumberLaws.{stamped_numbers}
use Rattle.flow_core.proofs.laws.stamped_effects_are_numbered.Goals as goal

pub returns : goal.returns
returns c = stamped_numbers
