use Rattle.lambda_fns.proofs.PlaceLaws.{find_is}
use Rattle.lambda_fns.proofs.texts.place.Goals as goal

pub returns : goal.returns
returns c = let found = find_is c.args.part.now c.args.text.now c.find.result c.find.ensures.cases in record { first = found.0; within = found.1 }
