use Rattle.std.proofs.Common.{refl}
use Rattle.line_points.specs.Numbers.{number_of}
use Rattle.line_points.specs.Cap.{parts}
use Rattle.line_points.proofs.TimeLaws.{chosen_number}
use Rattle.line_points.proofs.time.number_time.Goals as goal

pub returns : goal.returns
returns c = chosen_number c.args.mode.now c.args.bytes.now (number_of c.args.bytes.now) (parts c.in_ok-number.number) c.time_of_units.result refl c.in_ok-number.ensures (λ n e. rw (← c.unit.ensures) (c.time_of_units.ensures n e))
