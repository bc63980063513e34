use Rattle.std.proofs.Common.{◌&&◌, IsTrue, List, rules, subst, sym, ℕ}
use Rattle.std.specs.FinMap.{entries}
use Rattle.std.specs.List.{list_all}
use Rattle.kap_base.specs.Maps.{KeyMap}
use Rattle.kap_base.specs.Points.{are_dimensions}
use Rattle.kap_base.specs.Texts.{is_measurement, is_name}
use Rattle.select_nodes.proofs.ResultLaws.{empty_line}
use Rattle.select_nodes.proofs.results.result_point.Goals as goal

pub invariant_of-result-2 : goal.invariant_of-result-2
invariant_of-result-2 c = record {
  db = empty_line c.in_ok-from_str.field-0 c.in_ok-from_str.ensures.text c.in_ok-from_str.ensures.utf8;
  rp = empty_line c.in_ok-from_str-2.field-0 c.in_ok-from_str-2.ensures.text c.in_ok-from_str-2.ensures.utf8;
  name = subst (λ (n : List ℕ). IsTrue (is_measurement n)) (sym c.name.view_is) c.requires.measurement;
  tags = subst (λ (m : KeyMap (List ℕ)). IsTrue (list_all (λ e. is_name e.0 && is_name e.1) (entries m))) (sym c.tags.view_is) c.in_ok-tags.ensures.names;
  fields = c.in_ok-one_field.ensures.fields;
  some_field = c.in_ok-one_field.ensures.some;
  dims = subst (λ (d : List (List ℕ)). IsTrue (are_dimensions d)) (sym c.in_ok-dims.ensures) c.group.invariant.dims;
  time = search rules;
}
