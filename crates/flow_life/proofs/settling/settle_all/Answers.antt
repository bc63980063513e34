use Rattle.flow_life.proofs.LooseLaws.{looked_gathered, looked_plans, looked_specs, looked_unspent, wired_life}
use Rattle.flow_life.proofs.settling.settle_all.Goals as goal

pub returns-clause-life : goal.returns-clause-life
returns-clause-life g c =
    let e = c.in_ok-settle_cells.ensures in
    wired_life g.N.Node c.args.cells.now c.settle_cells.new.cells c.requires.loose e.looked e.keeps (looked_unspent c.args.cells.now c.settle_cells.new.cells e.looked c.requires.unspent) e.wired

pub returns-clause-plans : goal.returns-clause-plans
returns-clause-plans g c = looked_plans g.N.Node c.args.cells.now c.settle_cells.new.cells c.in_ok-settle_cells.ensures.looked

pub returns-clause-specs : goal.returns-clause-specs
returns-clause-specs g c = looked_specs g.N.Node c.args.cells.now c.settle_cells.new.cells c.in_ok-settle_cells.ensures.looked

pub returns-clause-gathered : goal.returns-clause-gathered
returns-clause-gathered g c = looked_gathered c.args.cells.now c.settle_cells.new.cells c.in_ok-settle_cells.ensures.looked
