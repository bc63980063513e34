use Rattle.kap_base.proofs.TextLaws.{own_is_name}
use Rattle.state_nodes.proofs.words.result_name.Goals as goal

pub returns-in-None-clause-name : goal.returns-in-None-clause-name
returns-in-None-clause-name c = own_is_name c.args.own.now c.from_str.result c.requires c.from_str.ensures.text c.from_str.ensures.utf8
