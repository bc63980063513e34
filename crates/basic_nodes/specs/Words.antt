-- What nodes say of a point.
use Rattle.std.specs.Prelude.{Option, Some, None}
use Rattle.kap_base.specs.Points.{PointValue}
use Rattle.kap_base.specs.declared.items.Body.{Body}
use Rattle.kap_base.specs.declared.items.Body.TheVariants as bodies
use Rattle.kap_base.specs.declared.value.Value.{Value}
use Rattle.kap_base.specs.declared.value.Value.TheVariants.{Bool as Truth}
use Rattle.node_core.specs.declared.said.Said.{Said}
use Rattle.node_core.specs.Meaning.{a_drop, passed_if, silence}

-- the point is given out where this value of a condition is true; it is dropped and counted where the condition has a
-- fault, and only dropped where its value is false, or no truth value
abbrev pub passed_where : Option Value → PointValue → Said
passed_where None p = a_drop
passed_where (Some (Truth b)) p = passed_if b p
passed_where (Some _) p = silence

-- what is said of a body, by what is said of points: of a batch nothing
abbrev pub of_points : (PointValue → Said) → Body → Said
of_points says (bodies.Point p) = says p
of_points says (bodies.Batch b) = silence
