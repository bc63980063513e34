use Rattle.std.proofs.Common.{Some}
use Rattle.std.specs.Int.{w64}
use mir.Val.{SFits}
use Rattle.std.proofs.lemmas.Int.{to_z-of_z}
use Rattle.join_node.specs.Results.{named_fields}
use Rattle.join_node.proofs.FieldLaws.{added, more_named, number_or}
use Rattle.join_node.proofs.results.add_filled.Goals as goal

pub returns-clause-fits : goal.returns-clause-fits
returns-clause-fits c =
    let fits : SFits w64 c.args.number = c.ranges.number in
    added c.add_named.result c.add_named.new.to.items c.args.to.now.items
    (named_fields c.delimiter_of-delimiter.result.now c.text.result.now (Some c.args.number) c.entries-fields.result.now)
    (simp to_z-of_z at c.add_named.ensures)
    (more_named c.delimiter_of-delimiter.result.now c.text.result.now
    (Some c.args.number) c.args.to.now.items c.entries-fields.result.now c.delimiter_of-delimiter.ensures.line
    (rw c.text.ensures.same c.text.ensures.name) (number_or c.args.number fits) c.requires (rw c.entries-fields.ensures c.first.invariant.fields))
