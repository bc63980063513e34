-- The kinds of nodes that a script can make, by their names, and what each is given.
use Rattle.std.specs.Prelude.{ℕ, if◌then◌else◌, List, Option, Some, None, Result, Err, codes, bytes_eq, option_map}
use Rattle.std.specs.Option.{option_or}
use Rattle.task_graph.specs.declared.spec.Spec.{Spec}
use Rattle.tick_compile.specs.declared.node_fault.NodeFault.{NodeFault}
use Rattle.tick_compile.specs.declared.node_fault.NodeFault.TheVariants.{NoKind}
use Rattle.tick_compile.specs.declared.given.Node.{Node}
use Rattle.tick_compile.specs.declared.kind.Kind.{Kind}
use Rattle.tick_compile.specs.declared.kind.Kind.TheVariants.{From, Where, Eval, GroupBy, Log, Default, Delete, Shift, Sample, Window, Alert, Union, Join, State, Select, Rank}
use Rattle.tick_compile.specs.Filters.{from_spec, sample_spec, where_spec}
use Rattle.tick_compile.specs.Changes.{default_spec, delete_spec, eval_spec, group_by_spec, log_spec, shift_spec}
use Rattle.tick_compile.specs.States.{state_named, state_spec}
use Rattle.tick_compile.specs.Windows.{window_spec}
use Rattle.tick_compile.specs.Alerts.{alert_spec}
use Rattle.tick_compile.specs.Selects.{rank_named, rank_spec, select_named, select_spec}
use Rattle.tick_compile.specs.Joins.{join_spec, union_spec}

-- the kind of a name, where it is one of many alike
abbrev pub family_named : List ℕ → Option Kind
family_named name =
    option_or (option_map State (state_named name))
    (option_or (option_map Select (select_named name)) (option_map Rank (rank_named name)))

-- the kind of a name
abbrev pub kind_named : List ℕ → Option Kind
kind_named name =
    if bytes_eq name (codes "from") then Some From else (
    if bytes_eq name (codes "where") then Some Where else (
    if bytes_eq name (codes "eval") then Some Eval else (
    if bytes_eq name (codes "groupBy") then Some GroupBy else (
    if bytes_eq name (codes "log") then Some Log else (
    if bytes_eq name (codes "default") then Some Default else (
    if bytes_eq name (codes "delete") then Some Delete else (
    if bytes_eq name (codes "shift") then Some Shift else (
    if bytes_eq name (codes "sample") then Some Sample else (
    if bytes_eq name (codes "window") then Some Window else (
    if bytes_eq name (codes "alert") then Some Alert else (
    if bytes_eq name (codes "union") then Some Union else (
    if bytes_eq name (codes "join") then Some Join else family_named name))))))))))))

-- what a node of a kind is given, or its first fault: of its arguments, of its properties in the order of the script,
-- or of the whole
abbrev pub spec_by : {L : Type 0} → Option Kind → Node L → Result (Spec L) NodeFault
spec_by None node = Err (NoKind node.at)
spec_by (Some From) node = from_spec node
spec_by (Some Where) node = where_spec node
spec_by (Some Eval) node = eval_spec node
spec_by (Some GroupBy) node = group_by_spec node
spec_by (Some Log) node = log_spec node
spec_by (Some Default) node = default_spec node
spec_by (Some Delete) node = delete_spec node
spec_by (Some Shift) node = shift_spec node
spec_by (Some Sample) node = sample_spec node
spec_by (Some Window) node = window_spec node
spec_by (Some Alert) node = alert_spec node
spec_by (Some Union) node = union_spec node
spec_by (Some Join) node = join_spec node
spec_by (Some (State kind)) node = state_spec kind node
spec_by (Some (Select select)) node = select_spec select node
spec_by (Some (Rank rank)) node = rank_spec rank node

-- what a node is given, by the kind that its name names, or its first fault
abbrev pub spec_of : {L : Type 0} → Node L → Result (Spec L) NodeFault
spec_of node = spec_by (kind_named node.kind) node
