use Rattle.msg_template.proofs.FormLaws.{action_by_form, action_fault_by_form, field_by_form, no_other_fault}
use Rattle.msg_template.proofs.law.actions_are_read_by_form.Goals as goal

pub returns : goal.returns
returns c = record {
  action = action_by_form;
  field = field_by_form;
  other_form = action_fault_by_form;
  no_other = no_other_fault;
}
