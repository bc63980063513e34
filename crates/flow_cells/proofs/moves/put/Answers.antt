use Rattle.std.proofs.Common.{◌≡◌, ◌∙◌, ◌<◌, [], length, get_or, Some, refl, sym, ap, subst, inl, inr, arith}
use Rattle.std.specs.Prelude.{◌⊎◌}
use Rattle.edge_queue.specs.Edges.{free}
use Rattle.flow_cells.specs.declared.parts.OutEdge.{OutEdge}
use Rattle.flow_cells.specs.Outs.{LooksOn}
use Rattle.flow_cells.specs.Kept.{IsGiven}
use Rattle.flow_cells.specs.Moves.{Eases}
use Rattle.flow_cells.proofs.OutLaws.{zip-refl, zip-set, each-set, each-at, get-here}
use Rattle.flow_cells.proofs.MoveLaws.{Eases-refl, at-set, kept-outs}
use Rattle.flow_cells.proofs.moves.put.Goals as goal

pub returns-then-out-len-clause-none : goal.returns-then-out-len-clause-none
returns-then-out-len-clause-none g c = λ _. record {
  why = inl (omega arith);
  outs = zip-refl Eases Eases-refl c.args.cell.now.core.outs.items;
  others = record { node = refl; gathered = refl; effects = refl; saved = refl; passed = refl; clean = refl; keeps = refl; buffer = refl; ins = refl; base = refl; source = refl; spent = refl };
}

pub returns-clause-keeps : goal.returns-clause-keeps
returns-clause-keeps g c =
    let cell = c.args.cell.now in
    let outs = cell.core.outs.items in
    let i = c.args.out in
    let h : i < length outs = omega arith in
    let edge = c.index_mut-edge.result.now in
    let here : get_or outs i edge ≡ edge = sym c.index_mut-edge.ensures.value in
    kept-outs g.N.Node cell.base.value _ cell.buffer cell.core _ c.requires refl refl refl refl refl refl refl
    (λ given all. each-set (IsGiven given) outs i c.send.new.self all (c.send.ensures.given given (subst (IsGiven given) here (each-at (IsGiven given) outs i edge h all))))

pub returns-clause-put : goal.returns-clause-put
returns-clause-put g c = λ yes.
    let cell = c.args.cell.now in
    let outs = cell.core.outs.items in
    let i = c.args.out in
    let h : i < length outs = omega arith in
    let edge = c.index_mut-edge.result.now in
    let here : get_or outs i edge ≡ edge = sym c.index_mut-edge.ensures.value in
    record {
      old = edge;
      new = c.send.new.self;
      at = get-here outs i edge h ∙ ap (λ (o : OutEdge). Some o) here;
      sends = c.send.ensures.sent yes;
      outs = refl;
      others = record { node = refl; gathered = refl; effects = refl; saved = refl; passed = refl; clean = refl; keeps = refl; buffer = refl; ins = refl; base = refl; source = refl; spent = refl };
    }

pub returns-clause-none : goal.returns-clause-none
returns-clause-none g c = λ no.
    let cell = c.args.cell.now in
    let outs = cell.core.outs.items in
    let i = c.args.out in
    let h : i < length outs = omega arith in
    let edge = c.index_mut-edge.result.now in
    let here : get_or outs i edge ≡ edge = sym c.index_mut-edge.ensures.value in
    let looks : LooksOn edge c.send.new.self = c.send.ensures.kept no in
    let eases : Eases edge c.send.new.self = record { tail = looks.tail; unsent = looks.unsent; child = looks.child; input = looks.input } in
    record {
      why = inr (at-set (λ (o : OutEdge). (o.unsent ≡ []) ⊎ (free o.tail ≡ 0)) outs i c.send.new.self h (subst (λ q. (q ≡ []) ⊎ (free c.send.new.self.tail ≡ 0)) (sym looks.unsent) looks.why));
      outs = zip-set Eases Eases-refl outs i c.send.new.self edge h (subst (λ (o : OutEdge). Eases o c.send.new.self) (sym here) eases);
      others = record { node = refl; gathered = refl; effects = refl; saved = refl; passed = refl; clean = refl; keeps = refl; buffer = refl; ins = refl; base = refl; source = refl; spent = refl };
    }
