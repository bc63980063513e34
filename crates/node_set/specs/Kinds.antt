-- What nodes of each kind do, and what the node of any kind does.
use Rattle.std.specs.Prelude.{◌≡◌, ℕ, ℤ, List, Option}
use Rattle.kap_base.specs.Maps.{KeyMap}
use Rattle.kap_base.specs.declared.value.Value.{Value}
use Rattle.kap_base.specs.Tree.{Tree}
use Rattle.state_code.specs.Laws.{list_spelled, option_spelled, pair_spelled, u64_spelled}
use Rattle.state_code.specs.Numbers.{i64_spelled}
use Rattle.state_code.specs.Values.{value_spelled}
use Rattle.task_graph.specs.declared.spec.EvalSpec.{EvalSpec}
use Rattle.node_core.specs.declared.alone.Alone.{Alone}
use Rattle.node_core.specs.declared.both.Both.{Both}
use Rattle.node_core.specs.declared.both.Both.TheVariants.{One, Other}
use Rattle.node_core.specs.declared.grouped.Grouped.{Grouped}
use Rattle.node_core.specs.declared.numbered.Seat.{Seat}
use Rattle.node_core.specs.declared.running.Running.{Running}
use Rattle.node_core.specs.Groups.{is_point}
use Rattle.alert_node.specs.declared.alert.Alert.{Alert as AlertRule}
use Rattle.alert_node.specs.declared.watch.Watch.{Watch}
use Rattle.alert_node.specs.Alerts.{alert_says, alert_step}
use Rattle.alert_node.specs.AlertLaws.{alert_goes_on}
use Rattle.alert_node.specs.Watches.{watch_in}
use Rattle.alert_node.specs.WatchSpelling.{watch_spelled}
use Rattle.basic_nodes.specs.declared.group_kind.GroupKind.{GroupKind}
use Rattle.basic_nodes.specs.declared.point_kind.PointKind.{PointKind}
use Rattle.basic_nodes.specs.GroupKinds.{count_in, group_goes_on, group_says, group_step}
use Rattle.basic_nodes.specs.PointKinds.{point_says, point_silent}
use Rattle.eval_node.specs.Evals.{eval_says, eval_step}
use Rattle.eval_node.specs.Evals.{counts_in as evals_in}
use Rattle.eval_node.specs.EvalLaws.{eval_goes_on}
use Rattle.join_node.specs.declared.joins.Join.{Join as JoinRule}
use Rattle.join_node.specs.declared.unions.Union.{Union as UnionRule}
use Rattle.join_node.specs.Joins.{join_says, parents}
use Rattle.join_node.specs.JoinLaws.{join_goes_on}
use Rattle.join_node.specs.Queues.{JoinKept, join_kept, join_step}
use Rattle.join_node.specs.States.{kept_spelled}
use Rattle.join_node.specs.Unions.{union_says, union_silent}
use Rattle.select_nodes.specs.declared.selection.Selection.{Selection}
use Rattle.select_nodes.specs.Results.{is_batch, select_says, silent}
use Rattle.state_nodes.specs.declared.change_detect.ChangeDetect.{ChangeDetect as DetectRule}
use Rattle.state_nodes.specs.declared.cumulative_sum.CumulativeSum.{CumulativeSum as SumRule}
use Rattle.state_nodes.specs.declared.difference.Difference.{Difference as DifferenceRule}
use Rattle.state_nodes.specs.declared.elapsed.Elapsed.{Elapsed as ElapsedRule}
use Rattle.state_nodes.specs.declared.state_count.StateCount.{StateCount as CountRule}
use Rattle.state_nodes.specs.ChangeDetects.{change_detect_goes_on, change_detect_says, change_detect_step, last_values}
use Rattle.state_nodes.specs.CumulativeSums.{cumulative_sum_goes_on, cumulative_sum_says, cumulative_sum_step, sum_in}
use Rattle.state_nodes.specs.Differences.{difference_goes_on, difference_says, difference_step, last_int}
use Rattle.state_nodes.specs.ElapsedTimes.{elapsed_goes_on, elapsed_says, elapsed_step, last_time}
use Rattle.state_nodes.specs.StateCounts.{counts_in, state_count_goes_on, state_count_says, state_count_step}
use Rattle.window_node.specs.declared.counted.CountedWindow.{CountedWindow as CountedRule}
use Rattle.window_node.specs.declared.edges.EdgeWindow.{EdgeWindow as EdgeRule}
use Rattle.window_node.specs.declared.sliding.SlidingWindow.{SlidingWindow as SlidingRule}
use Rattle.window_node.specs.Counted.{CountedKept, counted_kept, counted_says, counted_step}
use Rattle.window_node.specs.CountedLaws.{counted_goes_on}
use Rattle.window_node.specs.Edges.{EdgeKept, edge_kept, edge_says, edge_step}
use Rattle.window_node.specs.EdgeLaws.{edge_goes_on}
use Rattle.window_node.specs.Sliding.{SlidingKept, sliding_kept, sliding_says, sliding_step}
use Rattle.window_node.specs.SlidingLaws.{sliding_goes_on}
use Rattle.window_node.specs.States.{counted_spelled, edge_spelled, sliding_spelled}
use Rattle.node_set.specs.declared.kinds.AnyNode.{AnyNode}
use Rattle.node_set.specs.declared.kinds.AnyNode.TheVariants.{StateCount, ChangeDetect, Difference, CumulativeSum, Elapsed, EdgeWindow, SlidingWindow, CountedWindow, Alert, Point, Group, Eval, Union, Join, Select}
use Rattle.node_set.specs.Behaviours.{Behaviour, alone, both, grouped}
use Rattle.node_set.specs.Nodes.{AnySpec}

-- ---- nodes with a cell of each group

-- what a node keeps that keeps this of each group
abbrev pub Cells : Type 0 → Type 0
Cells C = Running (KeyMap C)

abbrev pub state_count : Behaviour (Seat (Grouped CountRule)) (Cells (ℕ × ℕ))
state_count =
    grouped (λ r. 1) (λ r. state_count_says r.spec) (λ r. counts_in r.spec) (λ r. state_count_step r.spec)
    (λ r. state_count_goes_on r.spec) (pair_spelled u64_spelled u64_spelled)

abbrev pub change_detect : Behaviour (Seat (Grouped DetectRule)) (Cells (Option (List (Option Value))))
change_detect =
    grouped (λ r. 1) (λ r. change_detect_says r.names) (λ r. last_values r.names) (λ r. change_detect_step r.names)
    (λ r. change_detect_goes_on r.names) (option_spelled (list_spelled (option_spelled value_spelled)))

abbrev pub difference : Behaviour (Seat (Grouped DifferenceRule)) (Cells (Option ℤ))
difference =
    grouped (λ r. 1) (λ r. difference_says r.spec) (λ r. last_int r.spec) (λ r. difference_step r.spec)
    (λ r. difference_goes_on r.spec) (option_spelled i64_spelled)

abbrev pub cumulative_sum : Behaviour (Seat (Grouped SumRule)) (Cells ℤ)
cumulative_sum =
    grouped (λ r. 1) (λ r. cumulative_sum_says r.spec) (λ r. sum_in r.spec) (λ r. cumulative_sum_step r.spec)
    (λ r. cumulative_sum_goes_on r.spec) i64_spelled

abbrev pub elapsed : Behaviour (Seat (Grouped ElapsedRule)) (Cells (Option ℤ))
elapsed = grouped (λ r. 1) (λ r. elapsed_says r.spec) (λ r. last_time r.spec) (λ r. elapsed_step r.spec)
    (λ r. elapsed_goes_on r.spec) (option_spelled i64_spelled)

abbrev pub edge_window : Behaviour (Seat (Grouped EdgeRule)) (Cells (Option EdgeKept))
edge_window = grouped (λ r. 1) edge_says edge_kept edge_step edge_goes_on (option_spelled edge_spelled)

abbrev pub sliding_window : Behaviour (Seat (Grouped SlidingRule)) (Cells (Option SlidingKept))
sliding_window =
    grouped (λ r. 1) sliding_says sliding_kept sliding_step sliding_goes_on (option_spelled sliding_spelled)

abbrev pub counted_window : Behaviour (Seat (Grouped CountedRule)) (Cells CountedKept)
counted_window = grouped (λ r. 1) counted_says counted_kept counted_step counted_goes_on counted_spelled

abbrev pub alert : Behaviour (Seat (Grouped AlertRule)) (Cells Watch)
alert = grouped (λ r. 1) alert_says watch_in alert_step alert_goes_on watch_spelled

abbrev pub group : Behaviour (Seat (Grouped GroupKind)) (Cells ℕ)
group = grouped (λ r. 1) group_says count_in group_step group_goes_on u64_spelled

abbrev pub eval : Behaviour (Seat (Grouped (EvalSpec Tree))) (Cells (List ℕ))
eval = grouped (λ r. 1) eval_says evals_in eval_step eval_goes_on (list_spelled u64_spelled)

abbrev pub join : Behaviour (Seat (Grouped JoinRule)) (Cells (Option JoinKept))
join = grouped (λ r. parents r.spec) (λ r. join_says r.spec) (λ r. join_kept r.spec) (λ r. join_step r.spec)
    (λ r. join_goes_on r.spec) (option_spelled kept_spelled)

-- ---- nodes that keep nothing

abbrev pub point : Behaviour (Seat (Alone PointKind)) (Running (Unit {0}))
point = alone (λ r. 1) is_point point_says point_silent

abbrev pub union : Behaviour (Seat (Alone UnionRule)) (Running (Unit {0}))
union = alone (λ r. r.parents) is_point (λ r. union_says r.rename) (λ r. union_silent r.rename)

abbrev pub select : Behaviour (Seat (Alone Selection)) (Running (Unit {0}))
select = alone (λ r. 1) is_batch (λ r. select_says r.spec) (λ r. silent r.spec)

-- ---- of any kind

-- what a node of any kind keeps
abbrev pub AnyState : Type 0
AnyState = Both
    (Both (Cells (ℕ × ℕ))
    (Both (Cells (Option (List (Option Value)))) (Both (Cells (Option ℤ)) (Both (Cells ℤ) (Cells (Option ℤ))))))
    (Both (Both (Both (Cells (Option EdgeKept)) (Both (Cells (Option SlidingKept)) (Cells CountedKept))) (Cells Watch))
    (Both (Both (Both (Running (Unit {0})) (Cells ℕ)) (Cells (List ℕ)))
    (Both (Both (Running (Unit {0})) (Cells (Option JoinKept))) (Running (Unit {0})))))

-- what a node of any kind does
abbrev pub any : Behaviour AnySpec AnyState
any = both (both state_count (both change_detect (both difference (both cumulative_sum elapsed))))
    (both (both (both edge_window (both sliding_window counted_window)) alert)
    (both (both (both point group) eval) (both (both union join) select)))

-- which kind it is, with what a script handed to it, its life and its number
abbrev pub spec_of : AnyNode → AnySpec
spec_of (StateCount n) = One (One n.seat)
spec_of (ChangeDetect n) = One (Other (One n.seat))
spec_of (Difference n) = One (Other (Other (One n.seat)))
spec_of (CumulativeSum n) = One (Other (Other (Other (One n.seat))))
spec_of (Elapsed n) = One (Other (Other (Other (Other n.seat))))
spec_of (EdgeWindow n) = Other (One (One (One n.seat)))
spec_of (SlidingWindow n) = Other (One (One (Other (One n.seat))))
spec_of (CountedWindow n) = Other (One (One (Other (Other n.seat))))
spec_of (Alert n) = Other (One (Other n.seat))
spec_of (Point n) = Other (Other (One (One (One n.seat))))
spec_of (Group n) = Other (Other (One (One (Other n.seat))))
spec_of (Eval n) = Other (Other (One (Other n.seat)))
spec_of (Union n) = Other (Other (Other (One (One n.seat))))
spec_of (Join n) = Other (Other (Other (One (Other n.seat))))
spec_of (Select n) = Other (Other (Other (Other n.seat)))

-- what it keeps
abbrev pub state_of : AnyNode → AnyState
state_of (StateCount n) = One (One n.running)
state_of (ChangeDetect n) = One (Other (One n.running))
state_of (Difference n) = One (Other (Other (One n.running)))
state_of (CumulativeSum n) = One (Other (Other (Other (One n.running))))
state_of (Elapsed n) = One (Other (Other (Other (Other n.running))))
state_of (EdgeWindow n) = Other (One (One (One n.running)))
state_of (SlidingWindow n) = Other (One (One (Other (One n.running))))
state_of (CountedWindow n) = Other (One (One (Other (Other n.running))))
state_of (Alert n) = Other (One (Other n.running))
state_of (Point n) = Other (Other (One (One (One n.running))))
state_of (Group n) = Other (Other (One (One (Other n.running))))
state_of (Eval n) = Other (Other (One (Other n.running)))
state_of (Union n) = Other (Other (Other (One (One n.running))))
state_of (Join n) = Other (Other (Other (One (Other n.running))))
state_of (Select n) = Other (Other (Other (Other n.running)))

-- it is the node of this spec, in its first state
pub record IsNew (n : AnyNode) (spec : AnySpec) : Type 0 where
  pub spec_is : spec_of n ≡ spec
  pub state_is : state_of n ≡ any.first spec
