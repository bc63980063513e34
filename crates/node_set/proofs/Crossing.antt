-- A node of any kind may go to another thread.
use denote.RattleType.{RattleType}
use denote.Builtin as plain
use denote.Struct.Tuple.{Tuple}
use denote.Param.Send.{IsSend, enum_send, recorded_send, sendable}
use denote.Enum.Declared as Declared
use mathlib.Core.List.{[], ◌∷◌}
use Rattle.std.proofs.Crossing.{crosses}
use Rattle.std.specs.contracts.option.Option as Option
use Rattle.kap_base.specs.contracts.item_list.ItemList as ItemList
use Rattle.kap_base.specs.contracts.value.Value as Value
use Rattle.lambda_types.proofs.Crossing.{Lambda_send}
use Rattle.node_core.specs.contracts.alone.Alone as Alone
use Rattle.node_core.specs.contracts.grouped.Grouped as Grouped
use Rattle.node_core.specs.contracts.numbered.Numbered as Numbered
use Rattle.node_core.specs.contracts.table.Table as Table
use Rattle.alert_node.specs.contracts.alert.Alert as Alert
use Rattle.alert_node.specs.contracts.watch.Watch as Watch
use Rattle.basic_nodes.specs.contracts.group_kind.GroupKind as GroupKind
use Rattle.basic_nodes.specs.contracts.point_kind.PointKind as PointKind
use Rattle.eval_node.specs.contracts.counts.Counts as Counts
use Rattle.eval_node.specs.contracts.eval.Eval as Eval
use Rattle.join_node.specs.contracts.groups.JoinCell as JoinCell
use Rattle.join_node.specs.contracts.joins.Join as Join
use Rattle.join_node.specs.contracts.unions.Union as Union
use Rattle.select_nodes.specs.contracts.selection.Selection as Selection
use Rattle.state_nodes.specs.contracts.change_detect.ChangeDetect as ChangeDetect
use Rattle.state_nodes.specs.contracts.cumulative_sum.CumulativeSum as CumulativeSum
use Rattle.state_nodes.specs.contracts.difference.Difference as Difference
use Rattle.state_nodes.specs.contracts.elapsed.Elapsed as Elapsed
use Rattle.state_nodes.specs.contracts.state_count.StateCount as StateCount
use Rattle.window_node.specs.contracts.counted.CountedGroup as CountedGroup
use Rattle.window_node.specs.contracts.counted.CountedWindow as CountedWindow
use Rattle.window_node.specs.contracts.edges.EdgeCell as EdgeCell
use Rattle.window_node.specs.contracts.edges.EdgeWindow as EdgeWindow
use Rattle.window_node.specs.contracts.sliding.SlidingCell as SlidingCell
use Rattle.window_node.specs.contracts.sliding.SlidingWindow as SlidingWindow
use Rattle.join_node.proofs.groups.JoinCell.TheSendSync as JoinCell_
use Rattle.node_set.specs.contracts.kinds.AnyNode as AnyNode
use Rattle.window_node.proofs.counted.CountedGroup.TheSendSync as CountedGroup_
use Rattle.window_node.proofs.edges.EdgeCell.TheSendSync as EdgeCell_
use Rattle.window_node.proofs.sliding.SlidingCell.TheSendSync as SlidingCell_

-- a node that keeps something of each group, and one that keeps nothing, as a part of another value
abbrev grouped : RattleType → RattleType → RattleType
grouped kind cell = (Numbered.the_field (Grouped.the_row kind) (Table.the_row cell)).row

abbrev alone : RattleType → RattleType
alone kind = (Numbered.the_field (Alone.the_row kind) plain.unit).row

-- ---- of each family of kinds

count_send : IsSend (grouped StateCount.the_row (Tuple (plain.u64 ∷ plain.u64 ∷ [])))
count_send = search (crosses, sendable, Lambda_send) depth 100 fits 100000

change_send : IsSend (grouped ChangeDetect.the_row (Option.the_row (ItemList.the_row (Option.the_row Value.the_row))))
change_send = search (crosses, sendable) depth 100 fits 100000

difference_send : IsSend (grouped Difference.the_row (Option.the_row plain.i64))
difference_send = search (crosses, sendable) depth 100 fits 100000

sum_send : IsSend (grouped CumulativeSum.the_row plain.i64)
sum_send = search (crosses, sendable) depth 100 fits 100000

elapsed_send : IsSend (grouped Elapsed.the_row (Option.the_row plain.i64))
elapsed_send = search (crosses, sendable) depth 100 fits 100000

edge_send : IsSend (grouped EdgeWindow.the_row EdgeCell.the_row)
edge_send = search (crosses, sendable, EdgeCell_.the_send) depth 100 fits 100000

sliding_send : IsSend (grouped SlidingWindow.the_row SlidingCell.the_row)
sliding_send = search (crosses, sendable, SlidingCell_.the_send) depth 100 fits 100000

counted_send : IsSend (grouped CountedWindow.the_row CountedGroup.the_row)
counted_send = search (crosses, sendable, CountedGroup_.the_send) depth 100 fits 100000

alert_send : IsSend (grouped Alert.the_row Watch.the_row)
alert_send = search (crosses, sendable, Lambda_send) depth 100 fits 100000

point_send : IsSend (alone PointKind.the_row)
point_send = search (crosses, sendable) depth 100 fits 100000

group_send : IsSend (grouped GroupKind.the_row plain.u64)
group_send = search (crosses, sendable, Lambda_send) depth 100 fits 100000

eval_send : IsSend (grouped Eval.the_row Counts.the_row)
eval_send = search (crosses, sendable, Lambda_send) depth 100 fits 100000

union_send : IsSend (alone Union.the_row)
union_send = search (crosses, sendable) depth 100 fits 100000

join_send : IsSend (grouped Join.the_row JoinCell.the_row)
join_send = search (crosses, sendable, JoinCell_.the_send) depth 100 fits 100000

select_send : IsSend (alone Selection.the_row)
select_send = search (crosses, sendable) depth 100 fits 100000

-- ---- of any kind

pub AnyNode_send : IsSend AnyNode.the_row
AnyNode_send = recorded_send AnyNode.the_field.row _ _ AnyNode.the_type.to_one (enum_send (Declared.shape AnyNode.the_type) ((count_send, tt), ((change_send, tt), ((difference_send, tt), ((sum_send, tt), ((elapsed_send, tt), ((edge_send, tt), ((sliding_send, tt), ((counted_send, tt), ((alert_send, tt), ((point_send, tt), ((group_send, tt), ((eval_send, tt), ((union_send, tt), ((join_send, tt), ((select_send, tt), tt))))))))))))))))
