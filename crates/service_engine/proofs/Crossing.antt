-- An engine on a disk may go to another thread where its disk and its patterns may.
use denote.RattleType.{RattleType}
use denote.Param.Send.{IsSend, struct_send, recorded_send, view_send, sendable}
use denote.Builtin as plain
use denote.Struct.Declared as Declared
use denote.Struct.Tuple.{Tuple}
use mathlib.Core.List.{[], ◌∷◌}
use Rattle.std.proofs.Crossing.{crosses}
use Rattle.std.specs.contracts.option.Option as Option
use Rattle.node_core.specs.declared.node.Node as Node
use Rattle.net_run.proofs.Crossing.{Net_send}
use Rattle.node_set.proofs.Crossing.{AnyNode_send}
use Rattle.topic_core.proofs.topics.Topics.TheSendSync as Topics_
use Rattle.effect_text.proofs.names.TaskNames.TheSendSync as TaskNames_
use Rattle.topic_store.proofs.store.Store.TheSendSync as Store_
use Rattle.topic_core.proofs.transition.Transition.TheSendSync as Transition_
use Rattle.kap_base.proofs.item_list.ItemList.TheSendSync as ItemList_
use Rattle.kap_base.specs.contracts.item_list.ItemList as ItemList
use Rattle.kap_base.specs.contracts.value.Value as Value
use Rattle.node_core.specs.contracts.alone.Alone as Alone
use Rattle.node_core.specs.contracts.both.Both as Both
use Rattle.node_core.specs.contracts.grouped.Grouped as Grouped
use Rattle.node_core.specs.contracts.numbered.Seat as Seat
use Rattle.node_core.specs.contracts.running.Running as Running
use Rattle.node_core.specs.contracts.table.Table as Table
use Rattle.alert_node.specs.contracts.alert.Alert as Alert
use Rattle.alert_node.specs.contracts.watch.Watch as Watch
use Rattle.basic_nodes.specs.contracts.group_kind.GroupKind as GroupKind
use Rattle.basic_nodes.specs.contracts.point_kind.PointKind as PointKind
use Rattle.eval_node.specs.contracts.counts.Counts as Counts
use Rattle.eval_node.specs.contracts.eval.Eval as Eval
use Rattle.join_node.specs.contracts.groups.JoinCell as JoinCell
use Rattle.join_node.specs.contracts.joins.Join as Join
use Rattle.join_node.specs.contracts.unions.Union as Union
use Rattle.select_nodes.specs.contracts.selection.Selection as Selection
use Rattle.state_nodes.specs.contracts.change_detect.ChangeDetect as ChangeDetect
use Rattle.state_nodes.specs.contracts.cumulative_sum.CumulativeSum as CumulativeSum
use Rattle.state_nodes.specs.contracts.difference.Difference as Difference
use Rattle.state_nodes.specs.contracts.elapsed.Elapsed as Elapsed
use Rattle.state_nodes.specs.contracts.state_count.StateCount as StateCount
use Rattle.window_node.specs.contracts.counted.CountedGroup as CountedGroup
use Rattle.window_node.specs.contracts.counted.CountedWindow as CountedWindow
use Rattle.window_node.specs.contracts.edges.EdgeCell as EdgeCell
use Rattle.window_node.specs.contracts.edges.EdgeWindow as EdgeWindow
use Rattle.window_node.specs.contracts.sliding.SlidingCell as SlidingCell
use Rattle.window_node.specs.contracts.sliding.SlidingWindow as SlidingWindow
use Rattle.node_set.specs.contracts.kinds.AnyNode as AnyNode
use Rattle.node_set.specs.contracts.kinds.AnyNodeNode.TheImpl as AnyNodeNode
use Rattle.engine_runs.specs.contracts.runs.EngineRun as EngineRun
use Rattle.engine_runs.specs.contracts.runs.EngineRun.TheInside as RunInside
use Rattle.kap_engine.specs.contracts.engine.Engine as Engine
use Rattle.kap_engine.specs.contracts.engine.Engine.TheInside as EngineInside
use Rattle.service_engine.specs.contracts.disk_engine.DiskEngine as DiskEngine

-- ---- an engine of any nodes

pub EngineRun_send : (N P S : RattleType) (g : Node.Ghosts N.Denot P.Denot S.Denot) → IsSend N
    → IsSend (EngineRun.the_row N P S g)
EngineRun_send N P S g s =
    view_send (RunInside.the_row N P S g) _ _ _ _
    (recorded_send (RunInside.the_field N P S g).row _ _ (RunInside.the_type N P S g).to_one (struct_send (Declared.shape (RunInside.the_type N P S g)) (
      Net_send N P S g s,
      (Topics_.the_send, (search (crosses, sendable, TaskNames_.the_send) depth 100 fits 100000, (search sendable, (search sendable, (search sendable, tt))))),
    )))

pub Engine_send : (N P S : RattleType) (g : Node.Ghosts N.Denot P.Denot S.Denot) → IsSend N → IsSend (Engine.the_row N P S g)
Engine_send N P S g s =
    view_send (EngineInside.the_row N P S g) _ _ _ _
    (recorded_send (EngineInside.the_field N P S g).row _ _ (EngineInside.the_type N P S g).to_one (struct_send (Declared.shape (EngineInside.the_type N P S g)) (
      Store_.the_send,
      (EngineRun_send N P S g s, (search (crosses, sendable, ItemList_.the_send, Transition_.the_send) depth 100 fits 100000, (search sendable, (search sendable, tt)))),
    )))

-- ---- the engine on a disk
-- what is there or not
Option_send : (E : RattleType) → IsSend E → IsSend (Option.the_field E).row
Option_send E s = search (crosses, sendable, s) depth 60 fits 20000

-- what a node of any kind is, and what it keeps, as its type says; inferred, they would be unfolded
abbrev rule_seat : RattleType → RattleType
rule_seat k = Seat.the_row (Grouped.the_row k)

abbrev plain_seat : RattleType → RattleType
plain_seat k = Seat.the_row (Alone.the_row k)

abbrev cells : RattleType → RattleType
cells c = Running.the_row (Table.the_row c)

abbrev states : RattleType → RattleType → RattleType → RattleType → RattleType → RattleType
states a b c d e = Both.the_row a (Both.the_row b (Both.the_row c (Both.the_row d e)))

abbrev windows : RattleType → RattleType → RattleType → RattleType
windows a b c = Both.the_row a (Both.the_row b c)

abbrev families : RattleType → RattleType → RattleType → RattleType → RattleType → RattleType → RattleType → RattleType
families a b c d e f g =
    Both.the_row a (Both.the_row (Both.the_row b c) (Both.the_row (Both.the_row d e) (Both.the_row f g)))

abbrev specs : RattleType
specs =
    families (states (rule_seat StateCount.the_row) (rule_seat ChangeDetect.the_row) (rule_seat Difference.the_row)
    (rule_seat CumulativeSum.the_row) (rule_seat Elapsed.the_row))
    (windows (rule_seat EdgeWindow.the_row) (rule_seat SlidingWindow.the_row) (rule_seat CountedWindow.the_row))
    (rule_seat Alert.the_row) (Both.the_row (plain_seat PointKind.the_row) (rule_seat GroupKind.the_row))
    (rule_seat Eval.the_row) (Both.the_row (plain_seat Union.the_row) (rule_seat Join.the_row))
    (plain_seat Selection.the_row)

abbrev kept : RattleType
kept =
    families (states (cells (Tuple (plain.u64 ∷ plain.u64 ∷ [])))
    (cells (Option.the_row (ItemList.the_row (Option.the_row Value.the_row)))) (cells (Option.the_row plain.i64))
    (cells plain.i64) (cells (Option.the_row plain.i64)))
    (windows (cells EdgeCell.the_row) (cells SlidingCell.the_row) (cells CountedGroup.the_row)) (cells Watch.the_row)
    (Both.the_row (Running.the_row plain.unit) (cells plain.u64)) (cells Counts.the_row)
    (Both.the_row (Running.the_row plain.unit) (cells JoinCell.the_row)) (Running.the_row plain.unit)

some_engine : (N P S : RattleType) (g : Node.Ghosts N.Denot P.Denot S.Denot) → IsSend N
    → IsSend (Option.the_field (Engine.the_row N P S g)).row
some_engine N P S g s = Option_send (Engine.the_row N P S g) (Engine_send N P S g s)

pub DiskEngine_send : (D P R : RattleType) → IsSend D → IsSend P → IsSend (DiskEngine.the_row D P R)
DiskEngine_send D P R d p =
    recorded_send (DiskEngine.the_field D P R).row _ _ (DiskEngine.the_type D P R).to_one (struct_send (Declared.shape (DiskEngine.the_type D P R)) (
      some_engine AnyNode.the_row specs kept AnyNodeNode.ghosts AnyNode_send,
      (d, (p, (search (crosses, sendable) depth 60 fits 20000, (search sendable, tt)))),
    ))
