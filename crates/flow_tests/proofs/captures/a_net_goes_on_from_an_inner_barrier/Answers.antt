use Rattle.std.proofs.Common.{refl}
use Rattle.flow_core.proofs.NumberLaws.{stamped_numbers}
use Rattle.flow_tests.specs.Taps.{tap_says}
use Rattle.flow_tests.proofs.TapLaws.{seats_rise}
use Rattle.flow_tests.proofs.captures.a_net_goes_on_from_an_inner_barrier.Goals as goal

pub goes_on_and_collects-requires-clause-numbers : goal.goes_on_and_collects-requires-clause-numbers
goes_on_and_collects-requires-clause-numbers g c = λ p. stamped_numbers p.life p.node (λ before x. tap_says p.kind.plain.quiet x.0 x.1)

pub goes_on_and_collects-requires-clause-rises : goal.goes_on_and_collects-requires-clause-rises
goes_on_and_collects-requires-clause-rises g c =
    seats_rise _ 3 c.in_ok-plan.plan.nodes c.in_ok-plan.plan.parents _ c.in_ok-plan.ensures.specs ((refl, refl), ((refl, refl), tt))
