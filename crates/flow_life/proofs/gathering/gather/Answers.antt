use Rattle.std.proofs.Common.{sym, subst}
use Rattle.flow_life.specs.Graphs.{IsLoaded}
use Rattle.flow_life.proofs.GatherLaws.{all-gathered, moves-gathered, plans-gathered, ready-gathered}
use Rattle.flow_life.proofs.NodeLaws.{specs-gathered}
use Rattle.flow_life.proofs.gathering.gather.Goals as goal

pub gather_cells-requires : goal.gather_cells-requires
gather_cells-requires g c = c.requires.ready.unspent

pub returns-clause-life : goal.returns-clause-life
returns-clause-life g c =
    let e = c.in_ok-gather_cells.ensures in
    record {
      ready = ready-gathered g.N.Node c.args.cells.now c.gather_cells.new.cells c.requires.ready e.keeps e.gathers;
      loaded = subst IsLoaded (sym (plans-gathered g.N.Node c.args.cells.now c.gather_cells.new.cells e.gathers)) c.requires.loaded;
    }

pub returns-clause-gathered : goal.returns-clause-gathered
returns-clause-gathered g c = all-gathered c.args.cells.now c.gather_cells.new.cells c.in_ok-gather_cells.ensures.gathers

pub returns-clause-plans : goal.returns-clause-plans
returns-clause-plans g c = plans-gathered g.N.Node c.args.cells.now c.gather_cells.new.cells c.in_ok-gather_cells.ensures.gathers

pub returns-clause-specs : goal.returns-clause-specs
returns-clause-specs g c = specs-gathered g.N.Node c.args.cells.now c.gather_cells.new.cells c.in_ok-gather_cells.ensures.gathers

pub returns-clause-count : goal.returns-clause-count
returns-clause-count g c = moves-gathered c.args.cells.now c.gather_cells.new.cells c.in_ok-gather_cells.ensures.gathers
