use Rattle.std.proofs.lemmas.Result.{IfOk-weaker}
use Rattle.msg_template.specs.declared.template.TheConstants.{TEMPLATE_LIMIT}
use Rattle.alert_node.specs.Events.{text_of}
use Rattle.alert_node.proofs.CutLaws.{cut_is}
use Rattle.alert_node.proofs.events.filled.Goals as goal

pub returns : goal.returns
unfolding text_of
returns c = IfOk-weaker c.fill.result _ _ (λ t e. cut_is TEMPLATE_LIMIT _ t e) c.fill.ensures
