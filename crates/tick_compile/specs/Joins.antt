-- union and join: their arguments and properties, and what is asked of the whole.
use Rattle.std.specs.Prelude.{◌&&◌, ◌+◌, ℕ, nat_eq, nat_lt, List, [], ◌∷◌, length, map, Option, Some, None, Result, Ok, codes}
use Rattle.std.specs.Borrow.{Bor}
use Rattle.kap_base.specs.Words.{◌>>=◌}
use Rattle.task_graph.specs.Graphs.{are_different}
use Rattle.task_graph.specs.declared.spec.Fill.TheVariants as fills
use Rattle.task_graph.specs.declared.spec.JoinSpec.{JoinSpec}
use Rattle.task_graph.specs.declared.spec.Spec.{Spec}
use Rattle.task_graph.specs.declared.spec.Spec.TheVariants as specs
use Rattle.tick_compile.specs.declared.node_fault.NodeFault.{NodeFault}
use Rattle.tick_compile.specs.declared.given.Node.{Node}
use Rattle.tick_compile.specs.Words.{each, fitting, needed}
use Rattle.tick_compile.specs.Sorts.{as_fill, as_line, as_measurement, as_name, as_node, as_span, one}
use Rattle.tick_compile.specs.Rows.{Row, all_set, row, set_by}

-- lent texts, as texts
abbrev pub lent : List (Bor (List ℕ)) → List (List ℕ)
lent texts = map (λ (text : Bor (List ℕ)). text.now) texts

-- the name of what a union gives on
abbrev pub rename_rows : {L : Type 0} → List (Row L (Option (List ℕ)))
rename_rows = row (codes "rename") (one as_measurement) (λ s _. Some s) ∷ []

-- union(node..): at least one argument
abbrev pub union_spec : {L : Type 0} → Node L → Result (Spec L) NodeFault
union_spec node =
    needed node.at (each as_node node.args) >>= λ nodes. fitting node.at (nat_lt 0 (length nodes)) nodes >>= λ _.
    all_set (set_by rename_rows) None node.props >>= λ name. Ok (specs.Union name)

-- the properties of a join
abbrev pub join_rows : {L : Type 0} → List (Row L JoinSpec)
join_rows =
    row (codes "as") (each as_name) (λ names join. record join { prefixes = names })
    ∷ row (codes "tolerance") (one as_span) (λ d join. record join { tolerance = d })
    ∷ row (codes "fill") (one as_fill) (λ fill join. record join { fill = fill })
    ∷ row (codes "streamName") (one as_measurement) (λ s join. record join { stream_name = Some s })
    ∷ row (codes "delimiter") (one as_line) (λ s join. record join { delimiter = Some s })
    ∷ []

-- a join of which no property is set
abbrev pub no_join : JoinSpec
no_join = record { prefixes = []; tolerance = 0; fill = fills.None; stream_name = None; delimiter = None }

-- join(node..): as many names as parents, all different
abbrev pub join_spec : {L : Type 0} → Node L → Result (Spec L) NodeFault
join_spec node =
    needed node.at (each as_node node.args) >>= λ nodes. all_set (set_by join_rows) no_join node.props >>= λ join.
    fitting node.at (nat_eq (length join.prefixes) (length nodes + 1) && are_different join.prefixes) (specs.Join join)
