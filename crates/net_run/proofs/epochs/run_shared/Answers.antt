use Rattle.std.proofs.Common.{◌≡◌, List, ◌+◌, ◌++◌, ap, arith, length, refl, subst, sym, ◌∙◌}
use Rattle.task_run.specs.Courses.{Course, from_first, later_effects}
use Rattle.flow_core.specs.Gathering.{LivesRise}
use Rattle.net_epochs.proofs.CarryLaws.{first_ends, first_grown}
use Rattle.net_run.proofs.EpochLaws.{first_nodes, stands_on}
use Rattle.net_run.proofs.epochs.run_shared.Goals as goal

pub returns-clause-stands : goal.returns-clause-stands
returns-clause-stands g c = λ nodes before s.
    let met = g.met.N.Node g.world.𝓛 g.world.𝓜 g.world.𝓡 (λ s x. x, λ x. x, λ x. x, λ x. x) in
    let ran = c.in_ok-effects.ensures in
    stands_on g.N.Node met.stamped met.folds nodes before c.args.points.now c.args.upto c.args.net.now c.run_epoch.new.net s c.requires.upto
    ran.loaded ran.specs ran.sound ran.rest c.run_epoch.new.net refl ran.last ran.none ran.unspent

pub returns-clause-effects : goal.returns-clause-effects
returns-clause-effects g c = λ nodes before s.
    let new = c.args.points.now in
    let was = s.last in
    let at = c.requires.upto in
    let own : c.args.upto.0 ≡ length before + length new = omega (arith, was, at) in
    c.in_ok-effects.ensures.effects (length before) 1 (from_first before nodes) own (first_ends before nodes) s.lives (subst (λ ns. LivesRise g.N.Node.life g.N.Node.number 1 ns) (sym (first_nodes before nodes)) s.rise)
    ∙ ap (λ (cs : List (Course _)). later_effects g.N.Node.answer (length before) (length new) cs) (first_grown before new nodes)
