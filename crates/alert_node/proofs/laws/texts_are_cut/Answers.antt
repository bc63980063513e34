use Rattle.msg_template.specs.declared.template.TheConstants.{TEMPLATE_LIMIT}
use Rattle.alert_node.proofs.CutLaws.{cut_is, longest_is}
use Rattle.alert_node.proofs.laws.texts_are_cut.Goals as goal

pub returns : goal.returns
returns c = record { longest = longest_is TEMPLATE_LIMIT; only = cut_is TEMPLATE_LIMIT }
