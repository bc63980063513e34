use Rattle.std.proofs.Common.{refl}
use Rattle.flow_core.proofs.AwayLaws.{life_back}
use Rattle.flow_core.proofs.cells.give_life.Goals as goal

pub returns-clause-back : goal.returns-clause-back
returns-clause-back g c = λ before sound life moved.
    let s = c.in_ok-settle.ensures in
    let e = c.in_ok-gather.ensures in
    life_back g.N.Node before c.args.life.now _ _ c.args.gathered.now c.gather.new.to sound life moved s.looked s.life e.gathers e.plans e.specs refl e.given
