-- What each node of a script says of an arrival, by the arrivals before it.
use Rattle.std.specs.Prelude.{ℕ, Bool, ◌==◌, if◌then◌else◌, List}
use Rattle.kap_base.specs.Points.{PointValue}
use Rattle.kap_base.specs.Tree.{Tree}
use Rattle.kap_base.specs.declared.items.Body.{Body}
use Rattle.node_core.specs.declared.said.Said.{Said}
use Rattle.node_core.specs.Groups.{GroupAnswer, in_groups, is_point}
use Rattle.node_core.specs.Meaning.{Saying}
use Rattle.task_graph.specs.declared.spec.Spec.{Spec}
use Rattle.task_graph.specs.declared.spec.Spec.TheVariants.{Stream, From, Where, Eval, GroupBy, Log, Default, Delete, Shift, Sample, Window, Select, StateCount, ChangeDetect, Difference, CumulativeSum, Elapsed, Union, Join, Alert}
use Rattle.task_graph.specs.declared.spec.WindowSpec.{WindowSpec}
use Rattle.task_graph.specs.declared.spec.WindowSpec.TheVariants.{Timed, Counted}
use Rattle.alert_node.specs.Alerts.{alert_of, alert_says}
use Rattle.basic_nodes.specs.declared.group_kind.GroupKind.TheVariants as groups
use Rattle.basic_nodes.specs.Defaults.{default_says}
use Rattle.basic_nodes.specs.Deletions.{delete_says}
use Rattle.basic_nodes.specs.Dimensions.{group_by_says}
use Rattle.basic_nodes.specs.GroupKinds.{group_says}
use Rattle.basic_nodes.specs.Logs.{log_says}
use Rattle.basic_nodes.specs.Nodes.{deletion_of, regrouping_of, selection_of}
use Rattle.basic_nodes.specs.Shifts.{shift_says}
use Rattle.basic_nodes.specs.Streams.{stream_says}
use Rattle.basic_nodes.specs.Words.{of_points}
use Rattle.eval_node.specs.Evals.{eval_says}
use Rattle.join_node.specs.Joins.{join_says, parents}
use Rattle.join_node.specs.Unions.{union_says}
use Rattle.select_nodes.specs.Results.{is_batch, select_says}
use Rattle.state_nodes.specs.ChangeDetects.{change_detect_says}
use Rattle.state_nodes.specs.CumulativeSums.{cumulative_sum_says}
use Rattle.state_nodes.specs.Differences.{difference_says}
use Rattle.state_nodes.specs.ElapsedTimes.{elapsed_says}
use Rattle.state_nodes.specs.StateCounts.{state_count_says}
use Rattle.window_node.specs.Counted.{counted_says}
use Rattle.window_node.specs.Edges.{edge_says}
use Rattle.window_node.specs.Sliding.{sliding_says}

-- each point by itself
abbrev pub each_point : (PointValue → Said) → Saying
each_point says before x = of_points says x.1

-- each body by itself
abbrev pub each_body : (ℕ → Body → Said) → Saying
each_body says before x = says x.0 x.1

-- a window by time: with edges where its every is above 0, else it slides
abbrev pub timed_says : ℕ → ℕ → Bool → Bool → GroupAnswer
timed_says period every align fill_period =
    if every == 0
    then sliding_says (record { period = period; fill_period = fill_period })
    else edge_says (record { period = period; every = every; align = align; fill_period = fill_period })

-- a window, by time or by number
abbrev pub window_says : WindowSpec → GroupAnswer
window_says (Timed period every align fill_period) = timed_says period every align fill_period
window_says (Counted period_count every_count fill_period) =
    counted_says (record { period_count = period_count; every_count = every_count; fill_period = fill_period })

-- of what a script hands to the node of this name, in a task of this id
abbrev pub says_of : List ℕ → List ℕ → Spec Tree → Saying
says_of task name (Stream dbrps) = each_point (stream_says dbrps)
says_of task name (From from) = in_groups (group_says (groups.From (selection_of from)))
says_of task name (Where condition) = in_groups (group_says (groups.Where condition))
says_of task name (Eval eval) = in_groups (eval_says eval)
says_of task name (GroupBy group) = each_point (group_by_says (regrouping_of group))
says_of task name (Log log) = each_point log_says
says_of task name (Default settings) = each_point (default_says settings)
says_of task name (Delete settings) = each_point (delete_says (deletion_of settings))
says_of task name (Shift by) = each_point (shift_says by)
says_of task name (Sample n) = in_groups (group_says (groups.Sample n))
says_of task name (Window window) = in_groups (window_says window)
says_of task name (Select select) = each_body (select_says select)
says_of task name (StateCount count) = in_groups (state_count_says count)
says_of task name (ChangeDetect fields) = in_groups (change_detect_says fields)
says_of task name (Difference field) = in_groups (difference_says field)
says_of task name (CumulativeSum field) = in_groups (cumulative_sum_says field)
says_of task name (Elapsed elapsed) = in_groups (elapsed_says elapsed)
says_of task name (Union rename) = each_body (union_says rename)
says_of task name (Join join) = in_groups (join_says join)
says_of task name (Alert alert) = in_groups (alert_says (alert_of task name alert))

-- how many ports a node has under so many parents: a union and a join one for each of them, each other node one
abbrev pub ports_of : ℕ → Spec Tree → ℕ
ports_of count (Union rename) = count
ports_of count (Join join) = parents join
ports_of count _ = 1

-- which bodies are for it: batches for a select, points for each other node
abbrev pub takes_of : Spec Tree → Body → Bool
takes_of (Select select) = is_batch
takes_of _ = is_point
