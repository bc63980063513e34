use Rattle.std.proofs.Common.{arith}
use Rattle.jiff_core.proofs.SignedLemmas.{signed_arith}
use Rattle.lambda_fns.specs.Parts.{day_number}
use Rattle.lambda_fns.proofs.CivilLaws.{in_time}
use Rattle.lambda_fns.proofs.DateLaws.{is_date}
use Rattle.lambda_fns.proofs.time.parts_are_a_date.Goals as goal

pub returns : goal.returns
returns c = λ time h. let within = in_time time h in is_date (day_number time) (omega (arith, signed_arith)) (omega (arith, signed_arith))
