use Rattle.std.proofs.Common.{◌++◌, ap, ◌∙◌}
use Rattle.net_run.proofs.JoinLaws.{carried_both, room_both}
use Rattle.net_run.proofs.joining.join_nets.Goals as goal

pub returns-clause-carried : goal.returns-clause-carried
returns-clause-carried g c = λ points xs ys one other.
    carried_both g.N.Node points xs ys c.args.net.now c.args.other c.add_lives.new.net
    (c.in_ok-add_lives.ensures.lives ∙ ap (λ ls. c.args.net.now.lives ++ ls) c.take_cells-cells.ensures.cells) c.add_lives.ensures.spent one other

pub returns-clause-room : goal.returns-clause-room
returns-clause-room g c = λ capacity one other.
    room_both g.N.Node capacity c.args.net.now.lives c.args.other.lives c.add_lives.new.net.lives
    (c.in_ok-add_lives.ensures.lives ∙ ap (λ ls. c.args.net.now.lives ++ ls) c.take_cells-cells.ensures.cells) one other
