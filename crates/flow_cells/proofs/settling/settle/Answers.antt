use Rattle.std.proofs.Common.{◌≡◌, ◌∙◌, ◌<◌, length, get_or, Some, refl, sym, ap, subst}
use Rattle.std.specs.Prelude.{slice_get}
use Rattle.edge_queue.specs.Edges.{IsPaired, received}
use Rattle.merge_node.specs.Merge.{Lists}
use Rattle.flow_cells.specs.declared.parts.InEdge.{InEdge}
use Rattle.flow_cells.specs.declared.parts.OutEdge.{OutEdge}
use Rattle.flow_cells.specs.Kept.{KeptBy}
use Rattle.flow_cells.specs.Moves.{Eases}
use Rattle.flow_cells.proofs.OutLaws.{get-within}
use Rattle.flow_cells.proofs.MoveLaws.{kept-outs, received_of-same}
use Rattle.flow_cells.proofs.SettleLaws.{given-set, got}
use Rattle.flow_cells.proofs.settling.settle.Goals as goal

pub index_mut-edge-requires : goal.index_mut-edge-requires
index_mut-edge-requires g c = rw c.args.child.now.ins.ok.0 (get-within c.args.child.now.ins.items c.args.input c.requires.edge c.requires.at_child)

pub index_mut-out-requires : goal.index_mut-out-requires
index_mut-out-requires g c =
    let r = c.requires in
    let outs = c.args.parent.now.core.outs.items in
    let edge = c.index_mut-edge.result.now in
    let edge_is : edge ≡ r.edge = c.index_mut-edge.ensures.value ∙ got c.args.child.now.ins.items c.args.input r.edge edge r.at_child in
    rw c.args.parent.now.core.outs.ok.0 (subst (λ (e : InEdge). e.out < length outs) (sym edge_is) (get-within outs r.edge.out r.out r.at_parent))

pub settle-requires : goal.settle-requires
settle-requires g c =
    let r = c.requires in
    let outs = c.args.parent.now.core.outs.items in
    let edge = c.index_mut-edge.result.now in
    let out = c.index_mut-out.result.now in
    let edge_is : edge ≡ r.edge = c.index_mut-edge.ensures.value ∙ got c.args.child.now.ins.items c.args.input r.edge edge r.at_child in
    let at : slice_get outs edge.out ≡ Some r.out = subst (λ (e : InEdge). slice_get outs e.out ≡ Some r.out) (sym edge_is) r.at_parent in
    let out_is : out ≡ r.out = c.index_mut-out.ensures.value ∙ got outs edge.out r.out out at in
    subst (λ (o : OutEdge). IsPaired o.tail edge.head) (sym out_is) (subst (λ (e : InEdge). IsPaired r.out.tail e.head) (sym edge_is) r.pair)

pub returns-clause-parent : goal.returns-clause-parent
returns-clause-parent g c = λ keeps.
    let r = c.requires in
    let cell = c.args.parent.now in
    let outs = cell.core.outs.items in
    let edge = c.index_mut-edge.result.now in
    let out = c.index_mut-out.result.now in
    let edge_is : edge ≡ r.edge = c.index_mut-edge.ensures.value ∙ got c.args.child.now.ins.items c.args.input r.edge edge r.at_child in
    let lt : edge.out < length outs = subst (λ (e : InEdge). e.out < length outs) (sym edge_is) (get-within outs r.edge.out r.out r.at_parent) in
    let new : OutEdge = record out { tail = c.settle.new.tail } in
    let eases : Eases out new = record { tail = c.settle.ensures.tail; unsent = refl; child = refl; input = refl } in
    kept-outs g.N.Node cell.base.value _ cell.buffer cell.core _ keeps refl refl refl refl refl refl refl
    (λ given all. given-set given outs edge.out out new lt (sym c.index_mut-out.ensures.value) eases all)

pub returns-clause-child : goal.returns-clause-child
returns-clause-child g c = λ keeps.
    let r = c.requires in
    let cell = c.args.child.now in
    let ins = cell.ins.items in
    let i = c.args.input in
    let edge = c.index_mut-edge.result.now in
    let lt : i < length ins = get-within ins i r.edge r.at_child in
    let new : InEdge = record edge { head = c.settle.new.head } in
    let taken : received new.head ≡ received (get_or ins i edge).head = c.settle.ensures.head.received ∙ ap (λ (e : InEdge). received e.head) c.index_mut-edge.ensures.value in
    subst (λ (ls : Lists). KeptBy g.N.Node cell.base.value ls cell.buffer cell.core) (sym (received_of-same ins cell.source.value.items i new edge lt taken)) keeps

pub returns-clause-settles : goal.returns-clause-settles
returns-clause-settles g c =
    let r = c.requires in
    let ins = c.args.child.now.ins.items in
    let outs = c.args.parent.now.core.outs.items in
    let i = c.args.input in
    let edge = c.index_mut-edge.result.now in
    let out = c.index_mut-out.result.now in
    let edge_is : edge ≡ r.edge = c.index_mut-edge.ensures.value ∙ got ins i r.edge edge r.at_child in
    let at : slice_get outs edge.out ≡ Some r.out = subst (λ (e : InEdge). slice_get outs e.out ≡ Some r.out) (sym edge_is) r.at_parent in
    let out_is : out ≡ r.out = c.index_mut-out.ensures.value ∙ got outs edge.out r.out out at in
    record {
      edge = edge;
      edge' = record edge { head = c.settle.new.head };
      out = out;
      out' = record out { tail = c.settle.new.tail };
      at_child = subst (λ (e : InEdge). slice_get ins i ≡ Some e) (sym edge_is) r.at_child;
      at_parent = subst (λ (o : OutEdge). slice_get outs edge.out ≡ Some o) (sym out_is) at;
      head = record { head = c.settle.ensures.head; from = refl; out = refl };
      tail = record { tail = c.settle.ensures.tail; unsent = refl; child = refl; input = refl };
      settled = c.settle.ensures.settled;
      ins = refl;
      outs = refl;
      of_parent = record { node = refl; gathered = refl; effects = refl; saved = refl; passed = refl; clean = refl; keeps = refl; buffer = refl; ins = refl; base = refl; source = refl; spent = refl };
      of_child = record { core = refl; buffer = refl; base = refl; source = refl; spent = refl };
    }
