use Rattle.std.proofs.Common.{◌≡◌, ◌+◌, ap, ◌∙◌, arith}
use Rattle.flow_life.specs.Steps.{one_if}
use Rattle.flow_core.specs.Running.{left_in}
use Rattle.flow_core.proofs.resting.try_step.Goals as goal

pub returns-clause-goes : goal.returns-clause-goes
returns-clause-goes g c =
    let e = c.in_ok-made.ensures in
    let left : left_in g.N.Node c.args.lives.now ≡ left_in g.N.Node c.step.new.lives + one_if c.in_ok-made.made = e.left in
    record {
      numbers = e.numbers;
      plans = e.plans;
      specs = e.specs;
      rooms = e.rooms;
      ends = e.ends;
      left = omega (arith, left);
      keeps = e.lives;
      gathers = e.gathers;
    }

pub returns-clause-fewer : goal.returns-clause-fewer
returns-clause-fewer g c = λ made.
    let left : left_in g.N.Node c.args.lives.now ≡ left_in g.N.Node c.step.new.lives + 1 = c.in_ok-made.ensures.left ∙ ap (λ b. left_in g.N.Node c.step.new.lives + one_if b) made in
    omega (arith, left)

pub returns-clause-off : goal.returns-clause-off
returns-clause-off g c = λ none can. c.in_ok-made.ensures.no none ((c.in_ok-made.ensures.still none).back c.args.next can)
