use Rattle.std.proofs.Common.{List, ◌++◌, get_or, set, ap, subst, sym, ◌∙◌, arith}
use Rattle.std.specs.List.{AllZip}
use Rattle.kap_base.specs.declared.items.Effect.{Effect}
use Rattle.flow_cells.specs.Gathers.{Gathers}
use Rattle.flow_cells.proofs.OutLaws.{each-set, get-here}
use Rattle.flow_life.proofs.GatherLaws.{all-gathered, moves-gathered, plans-gathered, ready-gathered}
use Rattle.flow_life.specs.Graphs.{IsLoaded}
use Rattle.flow_life.proofs.NodeLaws.{specs-gathered}
use Rattle.flow_life.proofs.OneLaws.{effects-one, gathers-one}
use Rattle.flow_life.proofs.PlaceLaws.{each-get}
use Rattle.flow_life.specs.Wired.{IsUnspent}
use Rattle.flow_life.proofs.gathering.gather_from.Given as given
use Rattle.flow_life.proofs.gathering.gather_from.Goals as goal
use Rattle.flow_life.proofs.gathering.gather_from.Goals.{In_ok-gather}

zipped : (g : given.Over) (c : goal.In_ok-gather g) → AllZip Gathers c.args.cells.now (set c.args.cells.now c.args.cell c.gather.new.self)
zipped g c =
    let cells = c.args.cells.now in
    let from = get_or cells c.args.cell c.index-cells-cell.result in
    gathers-one cells c.args.cell from c.gather.new.self c.requires.others (get-here cells c.args.cell c.index-cells-cell.result (omega arith)) c.in_ok-gather.ensures.gathers

pub gather-requires : goal.gather-requires
gather-requires g c =
    let cells = c.args.cells.now in
    each-get IsUnspent cells c.args.cell (get_or cells c.args.cell c.index-cells-cell.result) (get-here cells c.args.cell c.index-cells-cell.result (omega arith)) c.requires.life.ready.unspent

pub returns-clause-life : goal.returns-clause-life
returns-clause-life g c =
    let cells = c.args.cells.now in
    let z = zipped g (goal.at.returns-clause-life g c).In_ok-gather in
    record {
      ready = ready-gathered g.N.Node cells _ c.requires.life.ready (each-set _ cells c.args.cell c.gather.new.self c.requires.life.ready.keeps c.in_ok-gather.ensures.keeps) z;
      loaded = subst IsLoaded (sym (plans-gathered g.N.Node cells _ z)) c.requires.life.loaded;
    }

pub returns-clause-gathers : goal.returns-clause-gathers
returns-clause-gathers g c = zipped g (goal.at.returns-clause-gathers g c).In_ok-gather

pub returns-clause-gathered : goal.returns-clause-gathered
returns-clause-gathered g c = all-gathered c.args.cells.now _ (zipped g (goal.at.returns-clause-gathered g c).In_ok-gather)

pub returns-clause-plans : goal.returns-clause-plans
returns-clause-plans g c = plans-gathered g.N.Node c.args.cells.now _ (zipped g (goal.at.returns-clause-plans g c).In_ok-gather)

pub returns-clause-specs : goal.returns-clause-specs
returns-clause-specs g c = specs-gathered g.N.Node c.args.cells.now _ (zipped g (goal.at.returns-clause-specs g c).In_ok-gather)

pub returns-clause-count : goal.returns-clause-count
returns-clause-count g c = moves-gathered c.args.cells.now _ (zipped g (goal.at.returns-clause-count g c).In_ok-gather)

pub returns-clause-given : goal.returns-clause-given
returns-clause-given g c =
    let cells = c.args.cells.now in
    c.in_ok-gather.ensures.given ∙ ap (λ (es : List Effect). c.args.to.now ++ es) (sym (effects-one cells c.args.cell _ c.requires.others (get-here cells c.args.cell c.index-cells-cell.result (omega arith))))
