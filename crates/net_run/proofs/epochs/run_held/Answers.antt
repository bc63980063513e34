use Rattle.std.proofs.Common.{[], ap, ◌∙◌}
use Rattle.std.proofs.lemmas.List.Sorted.{IsPermutation-trans}
use Rattle.flow_core.proofs.GatheredLaws.{gathered_loaded, gathered_moved}
use Rattle.flow_core.specs.Done.{effects_in}
use Rattle.flow_core.specs.Rooms.{rooms_in}
use Rattle.net_run.proofs.EpochLaws.{effects_on, stands_on}
use Rattle.net_run.proofs.epochs.run_held.Goals as goal

pub returns-clause-stands : goal.returns-clause-stands
returns-clause-stands g c = λ nodes before s.
    let met = g.met.N.Node g.world.𝓛 g.world.𝓜 g.world.𝓡 (λ s x. x, λ x. x, λ x. x, λ x. x) in
    stands_on g.N.Node met.stamped met.folds nodes before c.args.points.items c.args.upto c.args.net.now c.move_to_rest.new.net s c.requires.upto
    (c.in_ok-move_to_rest.ensures.goes.plans ∙ rw c.deref.ensures.value at c.in_ok-load.ensures.plans) (c.in_ok-move_to_rest.ensures.goes.specs ∙ c.in_ok-load.ensures.specs)
    c.in_ok-move_to_rest.ensures.whole.kept c.in_ok-move_to_rest.ensures.rest
    c.collect.new.self c.collect.ensures.lives (c.collect.ensures.last ∙ c.in_ok-move_to_rest.ensures.goes.last ∙ c.in_ok-load.ensures.last) c.collect.ensures.none
    (c.collect.ensures.spent ∙ c.in_ok-move_to_rest.ensures.unspent)

pub returns-clause-effects : goal.returns-clause-effects
returns-clause-effects g c = λ nodes before s.
    let met = g.met.N.Node g.world.𝓛 g.world.𝓜 g.world.𝓡 (λ s x. x, λ x. x, λ x. x, λ x. x) in
    let numbers = (g.met.N.NumberingNode g.world.𝓛 g.world.𝓜 g.world.𝓡 (λ s x. x, λ x. x, λ x. x, λ x. x)).numbers in
    let loaded = gathered_loaded c.args.net.now c.load.new.self s.none c.in_ok-load.ensures.gathers in
    let moved = gathered_moved [] c.load.new.self c.move_to_rest.new.net loaded c.in_ok-move_to_rest.ensures.goes.gathers in
    effects_on g.N.Node met.stamped met.folds nodes before c.args.points.items c.args.upto c.args.net.now c.move_to_rest.new.net s c.requires.upto
    (c.in_ok-move_to_rest.ensures.goes.plans ∙ rw c.deref.ensures.value at c.in_ok-load.ensures.plans) (c.in_ok-move_to_rest.ensures.goes.specs ∙ c.in_ok-load.ensures.specs)
    c.in_ok-move_to_rest.ensures.whole.kept c.in_ok-move_to_rest.ensures.rest
    numbers c.collect.result (IsPermutation-trans (effects_in c.move_to_rest.new.net.lives) c.move_to_rest.new.net.gathered c.collect.result moved c.collect.ensures.same) c.collect.ensures.sorted

pub returns-clause-rooms : goal.returns-clause-rooms
returns-clause-rooms g c = ap rooms_in c.collect.ensures.lives ∙ c.in_ok-move_to_rest.ensures.goes.rooms ∙ c.in_ok-load.ensures.rooms
