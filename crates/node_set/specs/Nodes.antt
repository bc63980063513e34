-- The node of what a script hands to one, whatever its kind.
use Rattle.std.specs.Prelude.{ℕ, Bool, ◌==◌, if◌then◌else◌, List, length}
use Rattle.kap_base.specs.Tree.{Tree}
use Rattle.node_core.specs.declared.alone.Alone.{Alone}
use Rattle.node_core.specs.declared.both.Both.{Both}
use Rattle.node_core.specs.declared.both.Both.TheVariants.{One, Other}
use Rattle.node_core.specs.declared.grouped.Grouped.{Grouped}
use Rattle.node_core.specs.declared.numbered.Seat.{Seat}
use Rattle.node_core.specs.Numbering.{plain_seat, rule_seat}
use Rattle.task_graph.specs.declared.spec.EvalSpec.{EvalSpec}
use Rattle.task_graph.specs.declared.spec.NodeSpec.{NodeSpec}
use Rattle.task_graph.specs.declared.spec.Spec.{Spec}
use Rattle.task_graph.specs.declared.spec.Spec.TheVariants.{Stream, From, Where, Eval, GroupBy, Log, Default, Delete, Shift, Sample, Window, Select, StateCount, ChangeDetect, Difference, CumulativeSum, Elapsed, Union, Join, Alert}
use Rattle.task_graph.specs.declared.spec.WindowSpec.{WindowSpec}
use Rattle.task_graph.specs.declared.spec.WindowSpec.TheVariants.{Timed, Counted}
use Rattle.alert_node.specs.declared.alert.Alert.{Alert as AlertRule}
use Rattle.alert_node.specs.Alerts.{alert_of}
use Rattle.basic_nodes.specs.declared.group_kind.GroupKind.{GroupKind}
use Rattle.basic_nodes.specs.declared.group_kind.GroupKind.TheVariants as groups
use Rattle.basic_nodes.specs.declared.point_kind.PointKind.{PointKind}
use Rattle.basic_nodes.specs.declared.point_kind.PointKind.TheVariants as points
use Rattle.basic_nodes.specs.Nodes.{deletion_of, regrouping_of, selection_of}
use Rattle.join_node.specs.declared.joins.Join.{Join as JoinRule}
use Rattle.join_node.specs.declared.unions.Union.{Union as UnionRule}
use Rattle.select_nodes.specs.declared.selection.Selection.{Selection}
use Rattle.state_nodes.specs.declared.change_detect.ChangeDetect.{ChangeDetect as DetectRule}
use Rattle.state_nodes.specs.declared.cumulative_sum.CumulativeSum.{CumulativeSum as SumRule}
use Rattle.state_nodes.specs.declared.difference.Difference.{Difference as DifferenceRule}
use Rattle.state_nodes.specs.declared.elapsed.Elapsed.{Elapsed as ElapsedRule}
use Rattle.state_nodes.specs.declared.state_count.StateCount.{StateCount as CountRule}
use Rattle.window_node.specs.declared.counted.CountedWindow.{CountedWindow as CountedRule}
use Rattle.window_node.specs.declared.edges.EdgeWindow.{EdgeWindow as EdgeRule}
use Rattle.window_node.specs.declared.sliding.SlidingWindow.{SlidingWindow as SlidingRule}

-- a kind with what a script hands to it, the life in which it runs, and the number of the node
abbrev pub AnySpec : Type 0
AnySpec = Both
    (Both (Seat (Grouped CountRule))
    (Both (Seat (Grouped DetectRule))
    (Both (Seat (Grouped DifferenceRule)) (Both (Seat (Grouped SumRule)) (Seat (Grouped ElapsedRule))))))
    (Both (Both (Both (Seat (Grouped EdgeRule)) (Both (Seat (Grouped SlidingRule)) (Seat (Grouped CountedRule))))
    (Seat (Grouped AlertRule)))
    (Both (Both (Both (Seat (Alone PointKind)) (Seat (Grouped GroupKind))) (Seat (Grouped (EvalSpec Tree))))
    (Both (Both (Seat (Alone UnionRule)) (Seat (Grouped JoinRule))) (Seat (Alone Selection)))))

-- ---- of each kind

abbrev pub in_state_count : Seat (Grouped CountRule) → AnySpec
in_state_count seat = One (One seat)

abbrev pub in_change_detect : Seat (Grouped DetectRule) → AnySpec
in_change_detect seat = One (Other (One seat))

abbrev pub in_difference : Seat (Grouped DifferenceRule) → AnySpec
in_difference seat = One (Other (Other (One seat)))

abbrev pub in_cumulative_sum : Seat (Grouped SumRule) → AnySpec
in_cumulative_sum seat = One (Other (Other (Other (One seat))))

abbrev pub in_elapsed : Seat (Grouped ElapsedRule) → AnySpec
in_elapsed seat = One (Other (Other (Other (Other seat))))

abbrev pub in_edge_window : Seat (Grouped EdgeRule) → AnySpec
in_edge_window seat = Other (One (One (One seat)))

abbrev pub in_sliding_window : Seat (Grouped SlidingRule) → AnySpec
in_sliding_window seat = Other (One (One (Other (One seat))))

abbrev pub in_counted_window : Seat (Grouped CountedRule) → AnySpec
in_counted_window seat = Other (One (One (Other (Other seat))))

abbrev pub in_alert : Seat (Grouped AlertRule) → AnySpec
in_alert seat = Other (One (Other seat))

abbrev pub in_point : Seat (Alone PointKind) → AnySpec
in_point seat = Other (Other (One (One (One seat))))

abbrev pub in_group : Seat (Grouped GroupKind) → AnySpec
in_group seat = Other (Other (One (One (Other seat))))

abbrev pub in_eval : Seat (Grouped (EvalSpec Tree)) → AnySpec
in_eval seat = Other (Other (One (Other seat)))

abbrev pub in_union : Seat (Alone UnionRule) → AnySpec
in_union seat = Other (Other (Other (One (One seat))))

abbrev pub in_join : Seat (Grouped JoinRule) → AnySpec
in_join seat = Other (Other (Other (One (Other seat))))

abbrev pub in_select : Seat (Alone Selection) → AnySpec
in_select seat = Other (Other (Other (Other seat)))

-- a window by time has edges where its every is above 0, else it slides
abbrev pub timed_spec : ℕ → ℕ → ℕ → ℕ → Bool → Bool → AnySpec
timed_spec life number period every align fill_period =
    if every == 0
    then in_sliding_window (rule_seat life number (record { period = period; fill_period = fill_period }))
    else in_edge_window
    (rule_seat life number (record { period = period; every = every; align = align; fill_period = fill_period }))

-- a window, in this life and with this number
abbrev pub window_spec : ℕ → ℕ → WindowSpec → AnySpec
window_spec life number (Timed period every align fill_period) = timed_spec life number period every align fill_period
window_spec life number (Counted period_count every_count fill_period) =
    in_counted_window
    (rule_seat life number
    (record { period_count = period_count; every_count = every_count; fill_period = fill_period }))

-- ---- of any kind

-- the node of what a script hands to the node of this name with so many parents, in a task of this id, in a life of it
-- and with a number there
abbrev pub any_spec : List ℕ → ℕ → ℕ → List ℕ → ℕ → Spec Tree → AnySpec
any_spec task life number name parents (Stream dbrps) = in_point (plain_seat life number (points.Stream dbrps))
any_spec task life number name parents (From from) = in_group (rule_seat life number (groups.From (selection_of from)))
any_spec task life number name parents (Where condition) = in_group (rule_seat life number (groups.Where condition))
any_spec task life number name parents (GroupBy group) =
    in_point (plain_seat life number (points.GroupBy (regrouping_of group)))
any_spec task life number name parents (Log log) = in_point (plain_seat life number points.Log)
any_spec task life number name parents (Default settings) = in_point (plain_seat life number (points.Default settings))
any_spec task life number name parents (Delete settings) =
    in_point (plain_seat life number (points.Delete (deletion_of settings)))
any_spec task life number name parents (Shift by) = in_point (plain_seat life number (points.Shift by))
any_spec task life number name parents (Sample n) = in_group (rule_seat life number (groups.Sample n))
any_spec task life number name parents (Eval eval) = in_eval (rule_seat life number eval)
any_spec task life number name parents (StateCount count) =
    in_state_count (rule_seat life number (record { spec = count }))
any_spec task life number name parents (ChangeDetect fields) =
    in_change_detect (rule_seat life number (record { names = fields }))
any_spec task life number name parents (Difference field) =
    in_difference (rule_seat life number (record { spec = field }))
any_spec task life number name parents (CumulativeSum field) =
    in_cumulative_sum (rule_seat life number (record { spec = field }))
any_spec task life number name parents (Elapsed elapsed) =
    in_elapsed (rule_seat life number (record { spec = elapsed }))
any_spec task life number name parents (Union rename) =
    in_union (plain_seat life number (record { parents = parents; rename = rename }))
any_spec task life number name parents (Join join) = in_join (rule_seat life number (record { spec = join }))
any_spec task life number name parents (Window window) = window_spec life number window
any_spec task life number name parents (Select select) = in_select (plain_seat life number (record { spec = select }))
any_spec task life number name parents (Alert alert) = in_alert (rule_seat life number (alert_of task name alert))

-- the node that a script's node is, in a task of this id, in a life of it and with a number there
abbrev pub node_spec : List ℕ → ℕ → ℕ → NodeSpec Tree → AnySpec
node_spec task life number node = any_spec task life number node.name (length node.parents) node.spec
