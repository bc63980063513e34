use Rattle.std.proofs.Common.{◌∙◌, ap}
use Rattle.std.specs.FinMap.{insert}
use Rattle.kap_base.specs.Maps.{KeyMap}
use Rattle.kap_base.specs.declared.value.Value.{Value}
use Rattle.select_nodes.proofs.ResultLaws.{one_fits, one_is_some}
use Rattle.select_nodes.proofs.results.one_field.Goals as goal

pub returns-clause-fields : goal.returns-clause-fields
returns-clause-fields c =
    let is = c.in_ok-insert.ensures.ok ∙ ap (λ (m : KeyMap Value). insert m c.args.field c.args.value) c.new-fields.ensures in
    one_fits c.insert.new.self c.args.field c.args.value is c.requires.name c.requires.value

pub returns-clause-some : goal.returns-clause-some
returns-clause-some c =
    let is = c.in_ok-insert.ensures.ok ∙ ap (λ (m : KeyMap Value). insert m c.args.field c.args.value) c.new-fields.ensures in
    one_is_some c.insert.new.self c.args.field c.args.value is
