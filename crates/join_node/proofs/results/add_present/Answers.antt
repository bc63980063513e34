use Rattle.std.proofs.Common.{None}
use Rattle.join_node.specs.Results.{named_fields}
use Rattle.join_node.proofs.FieldLaws.{added, more_named, no_number}
use Rattle.join_node.proofs.results.add_present.Goals as goal

pub returns-clause-fits : goal.returns-clause-fits
returns-clause-fits c =
    added c.add_named.result c.add_named.new.to.items c.args.to.now.items
    (named_fields c.delimiter_of-delimiter.result.now c.text.result.now None c.entries.result.now) c.add_named.ensures
    (more_named c.delimiter_of-delimiter.result.now c.text.result.now None c.args.to.now.items c.entries.result.now c.delimiter_of-delimiter.ensures.line
    (rw c.text.ensures.same c.text.ensures.name) no_number c.requires (rw c.entries.ensures c.point.invariant.fields))
