use Rattle.std.proofs.Common.{[], ap, length, map, subst, sym, ◌∙◌}
use Rattle.std.specs.List.{AllByRecursion as Each, AllZip}
use Rattle.std.proofs.lemmas.List.Sorted.{IsPermutation-trans}
use Rattle.kap_base.specs.declared.items.Stamp.{Stamp}
use Rattle.task_run.specs.Courses.{grown}
use Rattle.flow_core.specs.Gathering.{LivesRise}
use Rattle.flow_core.proofs.GatheredLaws.{gathered_loaded, gathered_moved}
use Rattle.flow_core.specs.Nets.{HasStreamsCarried, IsLifeIn, IsResting, numbers_of, plans_in, specs_in}
use Rattle.flow_core.specs.Done.{effects_in}
use Rattle.flow_core.specs.Rooms.{rooms_in}
use Rattle.net_epochs.specs.Epochs.{IsOnCourse}
use Rattle.net_epochs.proofs.NetLaws.{grown_nodes, net_went}
use Rattle.net_epochs.proofs.RiseLaws.{later_sorted}
use Rattle.net_epochs.proofs.StandLaws.{net_ran}
use Rattle.net_run.proofs.epochs.run_epoch.Goals as goal

pub returns-clause-lives : goal.returns-clause-lives
returns-clause-lives g c = λ n courses last ends z.
    let met = g.met.N.Node g.world.𝓛 g.world.𝓜 g.world.𝓡 (λ s x. x, λ x. x, λ x. x, λ x. x) in
    subst (λ ls. AllZip (IsOnCourse g.N.Node) (map (grown c.args.points.now) courses) ls) (sym c.collect.ensures.lives)
    (net_went g.N.Node met.stamped met.folds n c.args.points.now c.args.upto [] courses c.args.net.now.lives c.move_to_rest.new.net.lives last tt ends z
    (c.in_ok-move_to_rest.ensures.goes.plans ∙ c.in_ok-load.ensures.plans) (c.in_ok-move_to_rest.ensures.goes.specs ∙ c.in_ok-load.ensures.specs) c.in_ok-move_to_rest.ensures.whole.kept c.in_ok-move_to_rest.ensures.rest).stands

pub returns-clause-stands : goal.returns-clause-stands
returns-clause-stands g c = λ n courses last s.
    net_ran g.N.Node n c.args.points.now courses c.args.net.now c.collect.new.self s
    (subst (Each IsResting) (sym c.collect.ensures.lives) c.in_ok-move_to_rest.ensures.rest)
    c.collect.ensures.none
    (ap numbers_of c.collect.ensures.lives ∙ c.in_ok-move_to_rest.ensures.goes.numbers ∙ c.in_ok-load.ensures.numbers)
    (ap (λ (t : Stamp). t.0) (c.collect.ensures.last ∙ c.in_ok-move_to_rest.ensures.goes.last ∙ c.in_ok-load.ensures.last) ∙ last)
    (c.collect.ensures.spent ∙ c.in_ok-move_to_rest.ensures.unspent)
    (returns-clause-lives g c n courses last s.ends s.lives)

pub returns-clause-effects : goal.returns-clause-effects
returns-clause-effects g c = λ n low courses last ends z rise.
    let met = g.met.N.Node g.world.𝓛 g.world.𝓜 g.world.𝓡 (λ s x. x, λ x. x, λ x. x, λ x. x) in
    let numbers = (g.met.N.NumberingNode g.world.𝓛 g.world.𝓜 g.world.𝓡 (λ s x. x, λ x. x, λ x. x, λ x. x)).numbers in
    let new = c.args.points.now in
    let did = (net_went g.N.Node met.stamped met.folds n new c.args.upto [] courses c.args.net.now.lives c.move_to_rest.new.net.lives last tt ends z
    (c.in_ok-move_to_rest.ensures.goes.plans ∙ c.in_ok-load.ensures.plans) (c.in_ok-move_to_rest.ensures.goes.specs ∙ c.in_ok-load.ensures.specs) c.in_ok-move_to_rest.ensures.whole.kept c.in_ok-move_to_rest.ensures.rest).did in
    let loaded = gathered_loaded c.args.net.now c.load.new.self c.requires.none c.in_ok-load.ensures.gathers in
    let moved = gathered_moved [] c.load.new.self c.move_to_rest.new.net loaded c.in_ok-move_to_rest.ensures.goes.gathers in
    later_sorted g.N.Node.answer g.N.Node.life g.N.Node.number met.stamped numbers n (length new) low (map (grown new) courses)
    (effects_in c.move_to_rest.new.net.lives) c.collect.result (subst (λ ns. LivesRise g.N.Node.life g.N.Node.number low ns) (sym (grown_nodes new courses)) rise) did
    (IsPermutation-trans (effects_in c.move_to_rest.new.net.lives) c.move_to_rest.new.net.gathered c.collect.result moved c.collect.ensures.same)
    c.collect.ensures.sorted

pub returns-clause-streams : goal.returns-clause-streams
returns-clause-streams g c = subst (Each (HasStreamsCarried g.N.Node)) (sym c.collect.ensures.lives) c.in_ok-move_to_rest.ensures.whole.streams

pub returns-clause-numbers : goal.returns-clause-numbers
returns-clause-numbers g c = ap numbers_of c.collect.ensures.lives ∙ c.in_ok-move_to_rest.ensures.goes.numbers ∙ c.in_ok-load.ensures.numbers

pub returns-clause-rooms : goal.returns-clause-rooms
returns-clause-rooms g c = ap rooms_in c.collect.ensures.lives ∙ c.in_ok-move_to_rest.ensures.goes.rooms ∙ c.in_ok-load.ensures.rooms

pub returns-clause-sound : goal.returns-clause-sound
returns-clause-sound g c = subst (Each (IsLifeIn g.N.Node)) (sym c.collect.ensures.lives) c.in_ok-move_to_rest.ensures.whole.kept

pub returns-clause-loaded : goal.returns-clause-loaded
returns-clause-loaded g c = ap (plans_in g.N.Node) c.collect.ensures.lives ∙ c.in_ok-move_to_rest.ensures.goes.plans ∙ c.in_ok-load.ensures.plans

pub returns-clause-specs : goal.returns-clause-specs
returns-clause-specs g c = ap (specs_in g.N.Node) c.collect.ensures.lives ∙ c.in_ok-move_to_rest.ensures.goes.specs ∙ c.in_ok-load.ensures.specs
