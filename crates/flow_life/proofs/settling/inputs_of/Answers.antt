use Rattle.std.proofs.Common.{Some, ap, subst, sym, ◌∙◌}
use Rattle.std.specs.Prelude.{slice_get}
use Rattle.flow_cells.specs.Kept.{Keeps}
use Rattle.flow_life.proofs.PlaceLaws.{each-get, found-same}
use Rattle.flow_life.specs.Wired.{IsUnspent}
use Rattle.flow_cells.proofs.OutLaws.{get-here}
use Rattle.flow_life.proofs.settling.inputs_of.Goals as goal

pub returns-clause-inputs : goal.returns-clause-inputs
returns-clause-inputs g c =
    let cells = c.args.cells.now in
    record {
      cell = c.index-cells-child.result;
      at = get-here cells c.args.child c.index-cells-child.result c.requires ∙ ap Some (sym c.index-cells-child.is);
      inputs = c.in_ok-inputs.ensures ∙ c.inputs.ensures.count;
    }

pub returns-clause-keeps : goal.returns-clause-keeps
returns-clause-keeps g c = λ unspent cell at.
    let cells = c.args.cells.now in
    let here = get-here cells c.args.child c.index-cells-child.result c.requires ∙ ap Some (sym c.index-cells-child.is) in
    subst (Keeps g.N.Node) (found-same (slice_get cells c.args.child) c.index-cells-child.result cell here at)
    (c.inputs.ensures.keeps (each-get IsUnspent cells c.args.child c.index-cells-child.result here unspent))
