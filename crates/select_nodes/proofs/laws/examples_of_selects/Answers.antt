use Rattle.std.proofs.Common.{refl}
use Rattle.select_nodes.proofs.laws.examples_of_selects.Goals as goal

pub returns-clause-top_three : goal.returns-clause-top_three
returns-clause-top_three c = refl

pub returns-clause-bottom_nine : goal.returns-clause-bottom_nine
returns-clause-bottom_nine c = refl

pub returns-clause-greatest : goal.returns-clause-greatest
returns-clause-greatest c = refl

pub returns-clause-least : goal.returns-clause-least
returns-clause-least c = refl

pub returns-clause-no_sum : goal.returns-clause-no_sum
returns-clause-no_sum c = refl

pub returns-clause-wrapped_sum : goal.returns-clause-wrapped_sum
returns-clause-wrapped_sum c = refl

pub returns-clause-wrapped_spread : goal.returns-clause-wrapped_spread
returns-clause-wrapped_spread c = refl

pub returns-clause-kinds : goal.returns-clause-kinds
returns-clause-kinds c = refl
