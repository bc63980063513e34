use Rattle.std.proofs.Common.{◌∙◌}
use Rattle.conn_loop.proofs.NumberLaws.{among}
use Rattle.conn_loop.proofs.numbers.is_among.Goals as goal

pub returns : goal.returns
returns c = c.is_ok.ensures.value ∙ among c.args.numbers.now c.args.number c.binary_search.result c.binary_search.ensures.position c.requires
