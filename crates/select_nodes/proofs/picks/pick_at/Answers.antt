use Rattle.std.proofs.Common.{rules, sym}
use Rattle.kap_base.proofs.EntryLaws.{field_is_value}
use Rattle.select_nodes.proofs.picks.pick_at.Goals as goal

pub invariant_of-result : goal.invariant_of-result
invariant_of-result c = record {
  value = rw c.in_ok-copy-in-Some.ensures (field_is_value c.point.inside.fields c.args.field.now c.in-Some.value.now c.point.invariant.fields
      (sym c.in-Some.ensures));
  time = search rules;
}
