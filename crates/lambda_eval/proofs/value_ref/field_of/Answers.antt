use Rattle.std.proofs.Common.{sym}
use Rattle.kap_base.proofs.EntryLaws.{field_is_value}
use Rattle.lambda_eval.proofs.value_ref.field_of.Goals as goal

pub returns-in-Some-clause-field : goal.returns-in-Some-clause-field
returns-in-Some-clause-field c =
    rw c.from_field.ensures (field_is_value c.point.inside.fields c.args.name.now c.in-Some.value.now c.point.invariant.fields (sym c.in-Some.ensures))
