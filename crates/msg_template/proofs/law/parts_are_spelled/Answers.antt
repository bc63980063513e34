use Rattle.msg_template.proofs.SpellLaws.{parts_spelled}
use Rattle.msg_template.proofs.law.parts_are_spelled.Goals as goal

pub returns : goal.returns
returns c = parts_spelled
