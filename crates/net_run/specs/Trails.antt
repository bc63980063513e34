-- The points of a run.
use Rattle.std.specs.Prelude.{List, [], ◌++◌}
use Rattle.kap_base.specs.Points.{PointValue}
use Rattle.net_run.specs.declared.trail.Trail.{Trail, Start, More'}

-- those of the epochs so far
abbrev pub points_of : Trail → List PointValue
points_of Start = []
points_of (More' shape before points) = points_of before ++ points.value.items
