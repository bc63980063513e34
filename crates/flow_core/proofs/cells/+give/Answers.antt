use Rattle.flow_core.proofs.AwayLaws.{more_back, none_back}
use Rattle.flow_core.proofs.cells.+give.Goals as goal

pub returns-in_ok-give-clause-back : goal.returns-in_ok-give-clause-back
returns-in_ok-give-clause-back g t c = λ before back.
    more_back g.N.Node before c.args.lives.now c.in-Some.first.now c.in-Some.others.now c.give_life.new.life c.give.new.lives c.args.gathered.now c.give_life.new.gathered c.give.new.gathered c.in-Some.ensures.cases.0 c.in_ok-give_life.ensures.back c.in_ok-give.ensures.back back

pub returns-in_default-clause-back : goal.returns-in_default-clause-back
returns-in_default-clause-back g t c = λ before back. none_back g.N.Node before c.args.lives.now c.args.gathered.now c.in_default.ensures.cases back
