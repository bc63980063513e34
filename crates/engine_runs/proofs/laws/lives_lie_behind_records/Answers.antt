use Rattle.engine_runs.proofs.HeldLaws.{held_later, held_points, held_rise}
use Rattle.engine_runs.proofs.laws.lives_lie_behind_records.Goals as goal

pub returns-clause-rise : goal.returns-clause-rise
returns-clause-rise c = held_rise

pub returns-clause-later : goal.returns-clause-later
returns-clause-later c = held_later

pub returns-clause-points : goal.returns-clause-points
returns-clause-points c = held_points
