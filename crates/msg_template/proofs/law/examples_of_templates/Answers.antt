use Rattle.std.proofs.Common.{ℕ, List, [], ◌++◌, Option, ap, ◌∙◌, arith}
use Rattle.std.specs.Prelude.{codes}
use Rattle.std.specs.FinMap.{empty, get, get-empty, get-insert}
use Rattle.std.specs.Option.{option_map_or}
use Rattle.std.specs.Prelude.{unwrap_or, true}
use Rattle.std.proofs.lemmas.Fmt.{decimal_digit}
use Rattle.std.proofs.lemmas.Cmp.{nat_list_cmp_total}
use Rattle.kap_base.specs.Maps.{byte_order}
use Rattle.kap_base.specs.declared.value.Value.{Value}
use Rattle.kap_base.specs.declared.value.Value.TheVariants as values
use Rattle.msg_template.specs.Filling.{value_text}
use Rattle.msg_template.specs.Rows.{critical}
use Rattle.msg_template.proofs.law.examples_of_templates.Goals as goal

-- the field that is there, and the tag that isn't
pub returns-clause-field_and_no_tag : goal.returns-clause-field_and_no_tag
returns-clause-field_and_no_tag c =
    let field = get-insert nat_list_cmp_total empty (codes "up") (values.Bool true) (codes "up") in
    let tag = get-empty {X = List ℕ} byte_order (codes "host") in
    ap (λ (o : Option Value). option_map_or value_text o [] ++ (unwrap_or (get critical.tags (codes "host")) [] ++ [])) field
    ∙ ap (λ (o : Option (List ℕ)). codes "true" ++ (unwrap_or o [] ++ [])) tag

pub returns-clause-time_in_digits : goal.returns-clause-time_in_digits
returns-clause-time_in_digits c = ap (λ (l : List ℕ). l ++ []) (decimal_digit 7 (omega arith))
