use Rattle.msg_template.specs.Actions.{ends_name}
use Rattle.msg_template.proofs.ActionLaws.{none_passes}
use Rattle.msg_template.proofs.action.name_len.Goals as goal

pub returns-in-None-clause-len : goal.returns-in-None-clause-len
returns-in-None-clause-len c = none_passes ends_name c.args.bytes.now c.in-None.ensures
