use Rattle.std.proofs.Common.{◌≡◌, ◌∙◌, ◌<◌, ◌++◌, [], ◌∷◌, length, get_or, Some, refl, sym, ap, subst, inl, inr, arith}
use Rattle.merge_node.specs.Merge.{Lists}
use Rattle.edge_queue.specs.Edges.{known, received}
use Rattle.flow_cells.specs.declared.parts.InEdge.{InEdge}
use Rattle.flow_cells.specs.Outs.{has_unsent}
use Rattle.flow_cells.specs.Kept.{KeptBy, received_of}
use Rattle.flow_cells.specs.Moves.{Still}
use Rattle.flow_cells.proofs.OutLaws.{zip-refl, zip-set, get-here}
use Rattle.flow_cells.proofs.MoveLaws.{received_of-took, received_of-same, input-within, ports-of, kept-take, Still-refl, at-set}
use Rattle.flow_cells.proofs.moves.take.Goals as goal

pub returns-then-input-len-clause-none : goal.returns-then-input-len-clause-none
returns-then-input-len-clause-none g c = λ _. record {
  why = inl (omega arith);
  ins = zip-refl Still Still-refl c.args.cell.now.ins.items;
  core = refl;
  buffer = refl;
  base = refl;
  source = refl;
  spent = refl;
}

pub returns-then-has_unsent-clause-none : goal.returns-then-has_unsent-clause-none
returns-then-has_unsent-clause-none g c = λ _. record {
  why = inr (inl (sym (ap has_unsent c.deref.ensures.value) ∙ sym (c.has_unsent.ensures) ∙ c.if-has_unsent.true));
  ins = zip-refl Still Still-refl c.args.cell.now.ins.items;
  core = refl;
  buffer = refl;
  base = refl;
  source = refl;
  spent = refl;
}

pub returns-in_default-clause-none : goal.returns-in_default-clause-none
returns-in_default-clause-none g c = λ _.
    let ins = c.args.cell.now.ins.items in
    let i = c.args.input in
    let h : i < length ins = omega arith in
    let edge = c.index_mut-edge.result.now in
    let here : get_or ins i edge ≡ edge = sym c.index_mut-edge.ensures.value in
    let new : InEdge = record edge { head = c.take.new.self } in
    let still : Still edge new = record { head = c.in_default.ensures.kept; from = refl; out = refl } in
    record {
      why = inr (inr (at-set (λ (e : InEdge). known e.head ≡ []) ins i new h c.in_default.ensures.empty));
      ins = zip-set Still Still-refl ins i new edge h (subst (λ (e : InEdge). Still e new) (sym here) still);
      core = refl;
      buffer = refl;
      base = refl;
      source = refl;
      spent = refl;
    }

pub returns-in_default-clause-keeps : goal.returns-in_default-clause-keeps
returns-in_default-clause-keeps g c =
    let cell = c.args.cell.now in
    let ins = cell.ins.items in
    let i = c.args.input in
    let h : i < length ins = omega arith in
    let edge = c.index_mut-edge.result.now in
    let here : get_or ins i edge ≡ edge = sym c.index_mut-edge.ensures.value in
    let new : InEdge = record edge { head = c.take.new.self } in
    let same : received new.head ≡ received (get_or ins i edge).head = c.in_default.ensures.kept.received ∙ ap (λ (e : InEdge). received e.head) (sym here) in
    subst (λ (ls : Lists). KeptBy g.N.Node cell.base.value ls cell.buffer cell.core) (sym (received_of-same ins cell.source.value.items i new edge h same)) c.requires

pub handle-requires-clause-within : goal.handle-requires-clause-within
handle-requires-clause-within g c =
    let cell = c.args.cell.now in
    let h : c.args.input < length cell.ins.items = omega arith in
    input-within g.N.Node cell.base.value cell.ins.items cell.source.value.items cell.buffer cell.core c.args.input c.requires h

pub handle-requires-clause-ports : goal.handle-requires-clause-ports
handle-requires-clause-ports g c =
    let cell = c.args.cell.now in
    ports-of g.N.Node cell.base.value _ cell.buffer cell.core c.requires

pub returns-clause-keeps : goal.returns-clause-keeps
returns-clause-keeps g c =
    let cell = c.args.cell.now in
    let ins = cell.ins.items in
    let source = cell.source.value.items in
    let i = c.args.input in
    let h : i < length ins = omega arith in
    let edge = c.index_mut-edge.result.now in
    let here : get_or ins i edge ≡ edge = sym c.index_mut-edge.ensures.value in
    let new : InEdge = record edge { head = c.take.new.self } in
    let msg = c.in-Some.msg in
    let took : received new.head ≡ received (get_or ins i edge).head ++ msg ∷ [] =
    c.in-Some.ensures.taken.received ∙ ap (λ (e : InEdge). received e.head ++ msg ∷ []) (sym here) in
    let kept = kept-take g.N.Node cell.base.value (received_of ins source) cell.buffer c.handle.new.buffer cell.core c.handle.new.core i msg c.requires c.in_ok-handle.ensures.handles c.in_ok-handle.ensures.stuck in
    subst (λ (ls : Lists). KeptBy g.N.Node cell.base.value ls c.handle.new.buffer c.handle.new.core) (sym (received_of-took ins source i new edge msg h took)) kept

pub returns-clause-took : goal.returns-clause-took
returns-clause-took g c = λ _.
    let ins = c.args.cell.now.ins.items in
    let i = c.args.input in
    let h : i < length ins = omega arith in
    let edge = c.index_mut-edge.result.now in
    let here : get_or ins i edge ≡ edge = sym c.index_mut-edge.ensures.value in
    record {
      msg = c.in-Some.msg;
      old = edge;
      new = record edge { head = c.take.new.self };
      none_waited = sym (ap has_unsent c.deref.ensures.value) ∙ sym (c.has_unsent.ensures) ∙ c.if-has_unsent.false;
      at = get-here ins i edge h ∙ ap (λ (e : InEdge). Some e) here;
      takes = record { head = c.in-Some.ensures.taken; from = refl; out = refl };
      ins = refl;
      outs = c.in_ok-handle.ensures.outs;
      gathered = c.in_ok-handle.ensures.gathered;
      base = refl;
      source = refl;
      spent = refl;
    }
