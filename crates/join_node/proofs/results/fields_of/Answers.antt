use Rattle.std.proofs.Common.{subst}
use Rattle.kap_base.specs.Points.{IsPoint}
use Rattle.join_node.proofs.FieldLaws.{fields_fit, fields_some, made_fit, made_some}
use Rattle.join_node.proofs.results.fields_of.Goals as goal

pub returns-clause-fields : goal.returns-clause-fields
returns-clause-fields c = made_fit c.from_entries.result c.in_ok-all.all.items c.from_entries.ensures
    (fields_fit c.in_ok-all.all.items c.in_ok-all.ensures.fits)

pub returns-clause-some : goal.returns-clause-some
returns-clause-some c =
    let holds = subst IsPoint c.first.view_is c.first.invariant in
    made_some c.from_entries.result c.in_ok-all.all.items c.from_entries.ensures
    (rw c.in_ok-all.ensures.all (fields_some c.args.join.now c.args.set.now c.args.first.now c.requires.first holds.some_field))
