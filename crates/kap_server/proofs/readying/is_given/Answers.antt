use Rattle.std.proofs.Common.{◌∙◌}
use Rattle.kap_server.proofs.ReadyLaws.{among}
use Rattle.kap_server.proofs.readying.is_given.Goals as goal

pub returns : goal.returns
returns c = c.has_id.ensures ∙ among c.args.id.now c.args.names.now
