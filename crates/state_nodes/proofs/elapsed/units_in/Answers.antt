use Rattle.std.proofs.Common.{pos, ap, ◌∙◌}
use Rattle.state_nodes.proofs.ElapsedLaws.{divided_shown}
use Rattle.state_nodes.proofs.elapsed.units_in.Goals as goal

pub returns : goal.returns
returns c =
    divided_shown c.args.nanos c.from-unit.result c.args.unit.now c.requires (c.from-unit.ensures ∙ ap pos c.nanos.ensures.same) c.nanos.ensures.rule
