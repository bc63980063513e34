-- from, where and sample: their arguments and properties.
use Rattle.std.specs.Prelude.{true, false, List, [], ◌∷◌, ◌++◌, Some, None, Result, Ok, codes}
use Rattle.kap_base.specs.Words.{◌>>=◌}
use Rattle.task_graph.specs.declared.spec.Dims.TheVariants as dims
use Rattle.task_graph.specs.declared.spec.FromSpec.{FromSpec}
use Rattle.task_graph.specs.declared.spec.Spec.{Spec}
use Rattle.task_graph.specs.declared.spec.Spec.TheVariants as specs
use Rattle.tick_compile.specs.declared.node_fault.NodeFault.{NodeFault}
use Rattle.tick_compile.specs.declared.given.Node.{Node}
use Rattle.tick_compile.specs.Words.{needed}
use Rattle.tick_compile.specs.Sorts.{as_count, as_lambda, as_text, dimensions, nothing, one}
use Rattle.tick_compile.specs.Rows.{Row, all_set, no_props, row, set_by}

-- from()
abbrev pub from_rows : {L : Type 0} → List (Row L (FromSpec L))
from_rows =
    row (codes "database") (one as_text) (λ s from. record from { database = Some s })
    ∷ row (codes "retentionPolicy") (one as_text) (λ s from. record from { retention_policy = Some s })
    ∷ row (codes "measurement") (one as_text) (λ s from. record from { measurement = Some s })
    ∷ row (codes "where") (one as_lambda) (λ l from. record from { conditions = from.conditions ++ l ∷ [] })
    ∷ row (codes "groupBy") dimensions (λ d from. record from { dims = d })
    ∷ row (codes "groupByMeasurement") nothing (λ _ from. record from { by_measurement = true })
    ∷ []

-- a from node of which no property is set
abbrev pub no_from : {L : Type 0} → FromSpec L
no_from = record {
  database = None;
  retention_policy = None;
  measurement = None;
  conditions = [];
  dims = dims.Names [];
  by_measurement = false;
}

-- what a from node is given, or its first fault
abbrev pub from_spec : {L : Type 0} → Node L → Result (Spec L) NodeFault
from_spec node = needed node.at (nothing node.args) >>= λ _. all_set (set_by from_rows) no_from node.props
    >>= λ from. Ok (specs.From from)

-- where(l)
abbrev pub where_spec : {L : Type 0} → Node L → Result (Spec L) NodeFault
where_spec node = needed node.at (one as_lambda node.args) >>= λ l. no_props node.props >>= λ _. Ok (specs.Where l)

-- sample(n)
abbrev pub sample_spec : {L : Type 0} → Node L → Result (Spec L) NodeFault
sample_spec node = needed node.at (one as_count node.args) >>= λ n. no_props node.props >>= λ _. Ok (specs.Sample n)
