use Rattle.std.proofs.Common.{rules, to_z, of_z}
use Rattle.std.specs.Int.{w64}
use Rattle.kap_base.specs.declared.value.Value.TheVariants.{Int}
use Rattle.state_nodes.proofs.FieldLaws.{one_fits, one_is_some}
use Rattle.state_nodes.proofs.words.with_number_alone.Goals as goal

pub with_fields-requires-clause-fields : goal.with_fields-requires-clause-fields
with_fields-requires-clause-fields c =
    let number = to_z w64 (of_z w64 c.args.number) in
    one_fits c.new-fields.result c.insert.new.self c.args.name (Int number) c.new-fields.ensures c.in_ok-insert.ensures.ok c.requires (search rules)

pub with_fields-requires-clause-some : goal.with_fields-requires-clause-some
with_fields-requires-clause-some c =
    let number = to_z w64 (of_z w64 c.args.number) in
    one_is_some c.new-fields.result c.insert.new.self c.args.name (Int number) c.new-fields.ensures c.in_ok-insert.ensures.ok
