-- A run of a net may go to another thread where its nodes may.
use denote.RattleType.{RattleType}
use denote.Param.Send.{IsSend, struct_send, recorded_send, view_send, sendable}
use denote.Struct.Declared as Declared
use Rattle.std.proofs.Crossing.{crosses}
use Rattle.kap_base.proofs.item_list.ItemList.TheSendSync as ItemList_
use Rattle.kap_base.proofs.items.Effect.TheSendSync as Effect_
use Rattle.node_core.specs.declared.node.Node as Node
use Rattle.flow_life.proofs.Crossing.{Life_send}
use Rattle.flow_life.specs.contracts.life.Life as Life
use Rattle.flow_core.specs.contracts.net.Net as Net
use Rattle.flow_core.specs.contracts.net.Net.TheInside as NetInside
use Rattle.node_workers.proofs.Crossing.{Numbered_send}
use Rattle.net_run.proofs.trail.Trail.TheLaws.TheKnot as TrailKnot
use Rattle.net_run.specs.contracts.runs.NetRun as NetRun
use Rattle.net_run.specs.contracts.runs.NetRun.TheInside as RunInside

pub Net_send : (N P S : RattleType) (g : Node.Ghosts N.Denot P.Denot S.Denot) → IsSend N → IsSend (Net.the_row N P S g)
Net_send N P S g s =
    view_send (NetInside.the_row N P S g) _ _ _ _
    (recorded_send (NetInside.the_field N P S g).row _ _ (NetInside.the_type N P S g).to_one (struct_send (Declared.shape (NetInside.the_type N P S g)) (
      search (crosses, sendable, Numbered_send (Life.the_row N P S g) (Life_send N P S g s)) depth 60 fits 20000,
      (search (crosses, sendable, ItemList_.the_send, Effect_.the_send) depth 60 fits 20000, (search (crosses, sendable) depth 60 fits 20000, (search sendable, tt))),
    )))

pub NetRun_send : (N P S : RattleType) (g : Node.Ghosts N.Denot P.Denot S.Denot) → IsSend N → IsSend (NetRun.the_row N P S g)
NetRun_send N P S g s =
    view_send (RunInside.the_row N P S g) _ _ _ _
    (recorded_send (RunInside.the_field N P S g).row _ _ (RunInside.the_type N P S g).to_one (struct_send (Declared.shape (RunInside.the_type N P S g)) (
      Net_send N P S g s,
      (search sendable, (search sendable, (search (crosses, sendable) depth 60 fits 20000, (search (crosses, sendable) depth 60 fits 20000, (search (crosses, sendable, TrailKnot.crosses) depth 100 fits 100000, tt))))),
    )))
