use Rattle.flow_life.proofs.ListingLaws.{ends-loaded}
use Rattle.flow_life.proofs.LoadLaws.{can-load, loaded-closed, moves-loaded, plans-loaded, ready-loaded}
use Rattle.flow_life.proofs.NodeLaws.{specs-loaded}
use Rattle.flow_life.proofs.StreamLaws.{carries_prefixes}
use Rattle.std.proofs.Common.{Bool, subst, ◌∙◌, ap}
use Rattle.std.specs.List.{AllZip}
use Rattle.flow_life.specs.Loads.{LoadsFrom, has_inner}
use Rattle.flow_life.proofs.loads.load.Goals as goal

pub load_cells-requires : goal.load_cells-requires
load_cells-requires g c = can-load g.N.Node c.args.cells.now c.requires.life.ready c.requires.rest c.requires.life.loaded c.requires.gathered

pub returns-clause-life : goal.returns-clause-life
returns-clause-life g c =
    let e = c.in_ok-load_cells.ensures in
    let loads = subst (λ (b : Bool). AllZip (LoadsFrom b c.args.source.items) c.args.cells.now c.load_cells.new.cells) (c.has_inner-keeps.ensures ∙ ap has_inner c.deref.ensures.value) e.loads in
    record {
      ready = ready-loaded g.N.Node (has_inner c.args.source.items) c.args.source.items c.args.cells.now c.load_cells.new.cells c.requires.life.ready c.requires.rest e.keeps loads;
      loaded = loaded-closed g.N.Node c.args.source.items c.args.cells.now c.load_cells.new.cells c.requires.closed loads;
    }

pub returns-clause-plans : goal.returns-clause-plans
returns-clause-plans g c =
    plans-loaded g.N.Node c.args.source.items c.args.cells.now c.load_cells.new.cells
    (subst (λ (b : Bool). AllZip (LoadsFrom b c.args.source.items) c.args.cells.now c.load_cells.new.cells) (c.has_inner-keeps.ensures ∙ ap has_inner c.deref.ensures.value) c.in_ok-load_cells.ensures.loads)

pub returns-clause-specs : goal.returns-clause-specs
returns-clause-specs g c =
    let e = c.in_ok-load_cells.ensures in
    let loads = subst (λ (b : Bool). AllZip (LoadsFrom b c.args.source.items) c.args.cells.now c.load_cells.new.cells) (c.has_inner-keeps.ensures ∙ ap has_inner c.deref.ensures.value) e.loads in
    specs-loaded g.N.Node (has_inner c.args.source.items) c.args.source.items c.args.cells.now c.load_cells.new.cells e.keeps loads

pub returns-clause-prefixes : goal.returns-clause-prefixes
returns-clause-prefixes g c =
    let e = c.in_ok-load_cells.ensures in
    let loads = subst (λ (b : Bool). AllZip (LoadsFrom b c.args.source.items) c.args.cells.now c.load_cells.new.cells) (c.has_inner-keeps.ensures ∙ ap has_inner c.deref.ensures.value) e.loads in
    carries_prefixes g.N.Node c.load_cells.new.cells (ready-loaded g.N.Node (has_inner c.args.source.items) c.args.source.items c.args.cells.now c.load_cells.new.cells c.requires.life.ready c.requires.rest e.keeps loads)

pub returns-clause-count : goal.returns-clause-count
returns-clause-count g c =
    moves-loaded (has_inner c.args.source.items) c.args.source.items c.args.cells.now c.load_cells.new.cells
    (subst (λ (b : Bool). AllZip (LoadsFrom b c.args.source.items) c.args.cells.now c.load_cells.new.cells) (c.has_inner-keeps.ensures ∙ ap has_inner c.deref.ensures.value) c.in_ok-load_cells.ensures.loads)

pub returns-clause-ends : goal.returns-clause-ends
returns-clause-ends g c =
    ends-loaded (has_inner c.args.source.items) c.args.source.items c.args.cells.now c.load_cells.new.cells
    (subst (λ (b : Bool). AllZip (LoadsFrom b c.args.source.items) c.args.cells.now c.load_cells.new.cells) (c.has_inner-keeps.ensures ∙ ap has_inner c.deref.ensures.value) c.in_ok-load_cells.ensures.loads)

pub returns-clause-loads : goal.returns-clause-loads
returns-clause-loads g c =
    subst (λ (b : Bool). AllZip (LoadsFrom b c.args.source.items) c.args.cells.now c.load_cells.new.cells) (c.has_inner-keeps.ensures ∙ ap has_inner c.deref.ensures.value) c.in_ok-load_cells.ensures.loads
