-- stateCount, changeDetect, difference, cumulativeSum and elapsed: their names, their arguments and properties.
use Rattle.std.specs.Prelude.{ℕ, if◌then◌else◌, List, [], ◌∷◌, Option, Some, None, Result, Ok, codes, bytes_eq}
use Rattle.kap_base.specs.Words.{◌>>=◌}
use Rattle.task_graph.specs.declared.spec.FieldSpec.{FieldSpec}
use Rattle.task_graph.specs.declared.spec.Spec.{Spec}
use Rattle.task_graph.specs.declared.spec.Spec.TheVariants as specs
use Rattle.tick_compile.specs.declared.node_fault.NodeFault.{NodeFault}
use Rattle.tick_compile.specs.declared.given.Node.{Node}
use Rattle.tick_compile.specs.declared.states.StateKind.{StateKind}
use Rattle.tick_compile.specs.declared.states.StateKind.TheVariants.{StateCount, ChangeDetect, Difference, CumulativeSum, Elapsed}
use Rattle.tick_compile.specs.Words.{each, needed}
use Rattle.tick_compile.specs.Sorts.{as_lambda, as_name, as_text, as_unit, one, pair}
use Rattle.tick_compile.specs.Rows.{Row, all_set, no_props, row, set_by}

-- the kind of a name
abbrev pub state_named : List ℕ → Option StateKind
state_named name =
    if bytes_eq name (codes "stateCount") then Some StateCount else (
    if bytes_eq name (codes "changeDetect") then Some ChangeDetect else (
    if bytes_eq name (codes "difference") then Some Difference else (
    if bytes_eq name (codes "cumulativeSum") then Some CumulativeSum else (
    if bytes_eq name (codes "elapsed") then Some Elapsed else None))))

-- the name of the result
abbrev pub as_rows : {L : Type 0} → List (Row L (Option (List ℕ)))
as_rows = row (codes "as") (one as_name) (λ s _. Some s) ∷ []

-- stateCount(l)
abbrev pub state_count_spec : {L : Type 0} → Node L → Result (Spec L) NodeFault
state_count_spec node =
    needed node.at (one as_lambda node.args) >>= λ l. all_set (set_by as_rows) None node.props
    >>= λ name. Ok (specs.StateCount (record { condition = l; name = name }))

-- changeDetect(f..)
abbrev pub change_detect_spec : {L : Type 0} → Node L → Result (Spec L) NodeFault
change_detect_spec node =
    needed node.at (each as_text node.args) >>= λ fields. no_props node.props >>= λ _. Ok (specs.ChangeDetect fields)

-- a field, and the name of the result
abbrev pub field_spec : {L : Type 0} → Node L → Result FieldSpec NodeFault
field_spec node = needed node.at (one as_text node.args) >>= λ field. all_set (set_by as_rows) None node.props
    >>= λ name. Ok (record { field = field; name = name })

-- difference(f)
abbrev pub difference_spec : {L : Type 0} → Node L → Result (Spec L) NodeFault
difference_spec node = field_spec node >>= λ field. Ok (specs.Difference field)

-- cumulativeSum(f)
abbrev pub cumulative_sum_spec : {L : Type 0} → Node L → Result (Spec L) NodeFault
cumulative_sum_spec node = field_spec node >>= λ field. Ok (specs.CumulativeSum field)

-- elapsed(f, d)
abbrev pub elapsed_spec : {L : Type 0} → Node L → Result (Spec L) NodeFault
elapsed_spec node =
    needed node.at (pair as_text as_unit node.args) >>= λ given. all_set (set_by as_rows) None node.props >>= λ name.
    Ok (specs.Elapsed (record { field = given.0; unit = given.1; name = name }))

-- what a node of one of these kinds is given
abbrev pub state_spec : {L : Type 0} → StateKind → Node L → Result (Spec L) NodeFault
state_spec StateCount node = state_count_spec node
state_spec ChangeDetect node = change_detect_spec node
state_spec Difference node = difference_spec node
state_spec CumulativeSum node = cumulative_sum_spec node
state_spec Elapsed node = elapsed_spec node
