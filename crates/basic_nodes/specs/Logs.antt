-- `log`: a line, and the point is given out.
use Rattle.std.specs.Prelude.{[], ◌∷◌}
use Rattle.kap_base.specs.Points.{PointValue}
use Rattle.kap_base.specs.declared.items.Body.TheVariants as bodies
use Rattle.kap_base.specs.declared.items.What.TheVariants.{Line}
use Rattle.node_core.specs.declared.said.Said.{Said}

-- the point, and a line of it
abbrev pub log_says : PointValue → Said
log_says p = record { bodies = bodies.Point p ∷ []; deeds = Line p ∷ []; drops = 0 }
