use Rattle.std.proofs.Common.{◌≡◌, ◌≢◌, ◌∙◌, true, sym, subst}
use Rattle.msg_template.specs.declared.fault.TemplateFault.TheVariants as faults
use Rattle.msg_template.specs.Reading.{Reads}
use Rattle.alert_node.specs.Events.{default_id}
use Rattle.alert_node.proofs.DefaultLaws.{id_reads}
use Rattle.alert_node.proofs.templates.default_id.Goals as goal

pub returns-in-Ok : goal.returns-in-Ok
returns-in-Ok c =
    c.one_meaning.ensures.parts true c.in_ok-text.text c.in-Ok.template default_id c.in-Ok.ensures.ok (subst (λ t. Reads true t default_id) (sym c.in_ok-text.ensures.text) id_reads)

pub unreachable-requires : goal.unreachable-requires
unreachable-requires c =
    let other : c.in-Err-Action.field-0 ≢ faults.NoMemory =
    λ e. let never : faults.Action c.in-Err-Action.field-0-0 ≡ faults.NoMemory = sym c.in-Err-Action.field-0-is ∙ e in absurd cc in
    c.one_meaning.ensures.apart true c.in_ok-text.text 0 default_id c.in-Err-Action.field-0
    (subst (λ t. Reads true t default_id) (sym c.in_ok-text.ensures.text) id_reads) (c.in-Err-Action.ensures.err other)

pub unreachable-requires-in-Err-Field : goal.unreachable-requires-in-Err-Field
unreachable-requires-in-Err-Field c =
    let other : c.in-Err-Field.field-0 ≢ faults.NoMemory =
    λ e. let never : faults.Field c.in-Err-Field.field-0-0 ≡ faults.NoMemory = sym c.in-Err-Field.field-0-is ∙ e in absurd cc in
    c.one_meaning.ensures.apart true c.in_ok-text.text 0 default_id c.in-Err-Field.field-0
    (subst (λ t. Reads true t default_id) (sym c.in_ok-text.ensures.text) id_reads) (c.in-Err-Field.ensures.err other)
