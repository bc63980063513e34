use Rattle.std.proofs.Common.{List, string_bytes, ◌∙◌, subst}
use Rattle.msg_template.specs.declared.template.Part.{Part}
use Rattle.msg_template.specs.Filling.{whole_text, IsMade}
use Rattle.msg_template.proofs.FillLaws.{filled_to}
use Rattle.msg_template.proofs.template.Template.fill.Goals as goal

pub returns : goal.returns
returns c =
    let made : IsMade 65536 (whole_text c.args.facts.now c.args.self.now) (string_bytes c.in_ok-filled.field-0) =
    subst (λ (ps : List Part). IsMade 65536 (whole_text c.args.facts.now ps) (string_bytes c.in_ok-filled.field-0)) (c.deref.ensures.value ∙ c.self.view_is) c.in_ok-filled.ensures in
    filled_to 65536 (whole_text c.args.facts.now c.args.self.now) (string_bytes c.in_ok-filled.field-0) c.cut_to_limit.result made c.cut_to_limit.ensures
