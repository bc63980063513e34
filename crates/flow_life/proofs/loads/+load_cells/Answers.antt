use Rattle.std.proofs.Common.{List, ◌∷◌, subst, sym}
use Rattle.std.specs.List.{AllByRecursion as Each, AllZip}
use Rattle.std.proofs.lemmas.Result.{on_ok_weaker}
use Rattle.kap_base.specs.declared.items.Msg.{Msg}
use Rattle.flow_cells.specs.declared.parts.CellParts.{CellParts}
use Rattle.flow_life.specs.Loads.{LoadsFrom, SeesSame}
use Rattle.flow_life.proofs.LoadLaws.{loads-same}
use Rattle.flow_life.proofs.loads.+load_cells.Goals as goal

pub returns-clause-loads : goal.returns-clause-loads
returns-clause-loads g t c =
    let source = c.args.source.items in
    let first = c.in-Some.first.now in
    let others = c.in-Some.others.now in
    let new = c.load_cells-2.new.cells in
    let rest = c.in_ok-rest.rest.items in
    let sees : Each (SeesSame source rest) others = subst (λ (l : List Msg). Each (SeesSame l rest) others) c.deref.ensures.value c.in_ok-rest.ensures in
    on_ok_weaker c.load_cells-2.result (λ z.
    let both : AllZip (LoadsFrom c.args.keeps source) (first ∷ others) (c.load_stream.new.cell ∷ new) = (c.in_ok-load_stream.ensures.loads, loads-same c.args.keeps source rest others new sees z) in
    subst (λ (cells : List (CellParts g.row.N.Denot)). AllZip (LoadsFrom c.args.keeps source) cells (c.load_stream.new.cell ∷ new)) (sym c.in-Some.ensures.cases.0) both) c.load_cells-2.ensures.loads

pub returns-clause-keeps : goal.returns-clause-keeps
returns-clause-keeps g t c = on_ok_weaker c.load_cells-2.result (λ z. (c.in_ok-load_stream.ensures.keeps, z)) c.load_cells-2.ensures.keeps

pub returns-then-inputs-gt0-clause-loads : goal.returns-then-inputs-gt0-clause-loads
returns-then-inputs-gt0-clause-loads g t c =
    let source = c.args.source.items in
    on_ok_weaker c.load_cells.result (λ z.
    subst (λ (cells : List (CellParts g.row.N.Denot)). AllZip (LoadsFrom c.args.keeps source) cells (c.load_child.new.cell ∷ c.load_cells.new.cells)) (sym c.in-Some.ensures.cases.0)
    (c.in_ok-load_child.ensures.loads source, z)) c.load_cells.ensures.loads
