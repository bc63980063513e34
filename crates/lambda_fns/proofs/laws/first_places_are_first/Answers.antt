use Rattle.lambda_fns.proofs.PieceLaws.{first_laws}
use Rattle.lambda_fns.proofs.laws.first_places_are_first.Goals as goal

pub returns : goal.returns
returns c = first_laws
