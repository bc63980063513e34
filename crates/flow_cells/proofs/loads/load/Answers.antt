use Rattle.std.proofs.Common.{◌≡◌, ◌∙◌, ◌<◌, ◌≤◌, length, refl, sym, ap, subst, arith}
use Rattle.flow_cells.specs.declared.parts.Core.{Core}
use Rattle.flow_cells.specs.Runs.{begun}
use Rattle.flow_cells.specs.Kept.{IsAt, gathered, received_of}
use Rattle.flow_cells.specs.Handled.{Handles}
use Rattle.flow_cells.specs.Loads.{with_source}
use Rattle.flow_cells.proofs.MoveLaws.{buffer-length, ports-of}
use Rattle.flow_cells.proofs.LoadLaws.{load-keeps, loaded-lists, loads-waits, some-received, with_source-length}
use Rattle.flow_cells.proofs.loads.load.Goals as goal

pub handle_source-requires-clause-some : goal.handle_source-requires-clause-some
handle_source-requires-clause-some g c =
    let cell = c.args.cell.now in
    let long : length cell.buffer ≡ length (received_of cell.ins.items cell.source.value.items) = buffer-length g.N.Node c.requires.keeps in
    let some : 0 < length (received_of cell.ins.items cell.source.value.items) = some-received cell.ins.items cell.source.value.items in
    omega (arith, long, some)

pub handle_source-requires-clause-stuck : goal.handle_source-requires-clause-stuck
handle_source-requires-clause-stuck g c = c.requires.keeps.stuck

pub handle_source-requires-clause-ports : goal.handle_source-requires-clause-ports
handle_source-requires-clause-ports g c =
    let cell = c.args.cell.now in
    ports-of g.N.Node cell.base.value _ cell.buffer cell.core c.requires.keeps

pub returns-clause-keeps : goal.returns-clause-keeps
returns-clause-keeps g c =
    let node = g.N.Node in
    let cell = c.args.cell.now in
    let now = c.load_ins.new.ins.items in
    let first = c.of.result.value in
    let buffer = with_source c.args.source.items cell.buffer in
    let at : IsAt node (node.spec first.node) (begun (node.state first.node) first.passed) first =
    subst (λ (x : Core g.row.N.Denot). IsAt node (node.spec x.node) (begun (node.state x.node) x.passed) x) (sym c.of.ensures) (record {
      spec = refl;
      state = refl;
      outs = c.load_outs.ensures.given;
      effects = c.requires.gathered;
      passed = refl;
      clean = refl;
      still = λ _. refl;
      saved = λ _ is. absurd cc;
    }) in
    let handles : Handles node first buffer c.handle_source.new.core c.handle_source.new.buffer =
    subst (λ (x : Core g.row.N.Denot). Handles node x buffer c.handle_source.new.core c.handle_source.new.buffer) (sym c.of.ensures) c.in_ok-handle_source.ensures.handles in
    let long : length cell.buffer ≡ length (received_of cell.ins.items cell.source.value.items) = buffer-length node c.requires.keeps in
    let lists : buffer ≡ received_of now c.of-2.result.value.items =
    loaded-lists cell.ins.items now cell.source.value.items c.args.source.items cell.buffer long c.requires.empty c.load_ins.ensures.loads c.load_ins.ensures.fresh c.requires.own
    ∙ ap (λ v. received_of now v.items) (sym c.of-2.ensures) in
    let same : length buffer ≡ length cell.buffer = with_source-length c.args.source.items cell.buffer in
    let bound : length cell.buffer ≤ node.ports (node.spec cell.core.node) = ports-of node cell.base.value _ cell.buffer cell.core c.requires.keeps in
    let ports : length buffer ≤ node.ports (node.spec first.node) =
    subst (λ x. length buffer ≤ node.ports (node.spec x)) (sym (ap (λ (x : Core g.row.N.Denot). x.node) c.of.ensures)) (omega (arith, same, bound)) in
    load-keeps node first first c.handle_source.new.core (received_of now c.of-2.result.value.items) buffer c.handle_source.new.buffer refl at handles lists c.in_ok-handle_source.ensures.stuck ports

pub returns-clause-begins : goal.returns-clause-begins
returns-clause-begins g c = record {
  source = ap (λ v. v.items) c.of-2.ensures;
  node = ap (λ (x : Core g.row.N.Denot). x.node) c.of.ensures;
  passed = ap (λ (x : Core g.row.N.Denot). x.passed) c.of.ensures;
  kept = ap (λ (x : Core g.row.N.Denot). x.keeps) c.of.ensures;
  ins = c.load_ins.ensures.loads;
  outs = loads-waits c.args.cell.now.core.outs.items c.load_outs.new.outs.items c.handle_source.new.core.outs.items c.load_outs.ensures.loads c.in_ok-handle_source.ensures.outs;
  gathered = ap gathered c.in_ok-handle_source.ensures.gathered;
  spent = refl;
}
