use Rattle.std.proofs.Common.{◌∙◌, ◌++◌, List, refl, ap, append-nil}
use Rattle.kap_base.specs.declared.items.Effect.{Effect}
use Rattle.flow_cells.specs.Kept.{gathered, received_of}
use Rattle.flow_cells.proofs.SettleLaws.{kept-gathered}
use Rattle.flow_cells.proofs.gathering.gather_all.Goals as goal

pub returns-clause-keeps : goal.returns-clause-keeps
returns-clause-keeps g c =
    let cell = c.args.cell.now in
    let all = gathered c.note.new.before in
    kept-gathered g.N.Node cell.base.value (received_of cell.ins.items cell.source.value.items) cell.buffer cell.core _ c.requires refl refl refl refl refl refl
    (ap (λ (l : List Effect). all ++ l) c.take_all-effects.ensures.none ∙ append-nil all ∙ c.note.ensures)

pub returns-clause-gathers : goal.returns-clause-gathers
returns-clause-gathers g c = record {
  effects = c.take_all-effects.ensures.none;
  gathered = c.note.ensures;
  node = refl;
  outs = refl;
  saved = refl;
  passed = refl;
  clean = refl;
  keeps = refl;
  buffer = refl;
  ins = refl;
  base = refl;
  source = refl;
  spent = refl;
}
