use Rattle.std.proofs.Common.{◌≡◌, ◌+◌, ◌≤◌, List, drop, length, refl, sym, ap, subst, ◌∙◌, arith}
use Rattle.kap_base.specs.Events.{EventValue}
use Rattle.flow_core.specs.Nets.{numbers_of}
use Rattle.net_epochs.proofs.StandLaws.{courses_rise}
use Rattle.topic_core.specs.Topics.{Trans}
use Rattle.engine_runs.specs.Running.{HasRun, courses_on, life_events}
use Rattle.engine_runs.specs.Spans.{picked}
use Rattle.engine_runs.proofs.RestedLaws.{run_rest}
use Rattle.engine_runs.proofs.RunLaws.{events_more, ran_on}
use Rattle.engine_runs.proofs.runs.EngineRun.run_few.Goals as goal

pub returns-clause-runs : goal.returns-clause-runs
returns-clause-runs g c = λ lives tasks before h.
    let node = g.N.Node in
    let planned = g.N.ScriptNode.planned in
    let new = c.args.points.now in
    let r = subst (λ v. HasRun node planned lives tasks before (length new) v) (sym c.self.view_is) h in
    let count : c.self.inside.points ≡ length before = r.count in
    let long : c.in-Some.upto ≡ c.self.inside.points + length new = omega (arith, c.in-Some.ensures) in
    let last : c.in-Some.upto ≡ length before + length new = omega (arith, long, count) in
    let s = r.lives_run.stands in
    let courses = picked r.lives_run.runs (courses_on node planned lives tasks before) in
    let es_is = c.as_slice.ensures ∙ c.in_ok-effects.ensures.effects (length before) 0 courses last s.ends s.lives (courses_rise node 0 (numbers_of c.self.inside.net.lives) courses s.rise s.numbered) in
    let met = g.met.N.Node g.world.𝓛 g.world.𝓜 g.world.𝓡 (λ s x. x, λ x. x, λ x. x, λ x. x) in
    let low : c.self.inside.net.last.0 ≤ length before = s.last in
    let rested = run_rest node met.folds met.stamped new (record { 0 = c.in-Some.upto }) c.self.inside.net c.run_epoch.new.net c.requires.some (omega (arith, low, last)) c.in_ok-effects.ensures.last
    (record { plans = c.in_ok-effects.ensures.loaded; specs = c.in_ok-effects.ensures.specs; lives = c.in_ok-effects.ensures.sound }) c.in_ok-effects.ensures.rest r.lives_run.rested in
    ran_on node planned lives tasks met.stamped before new 0 (length new) c.as_slice.result.now _ _ r (omega arith) es_is (c.in_ok-effects.ensures.stands (length before) courses last s)
    rested c.in_ok-effects.ensures.numbers refl long c.in_ok-accept_effects.ensures.topics c.in_ok-accept_effects.ensures.times

pub returns-clause-due : goal.returns-clause-due
returns-clause-due g c = λ lives tasks before h is.
    let node = g.N.Node in
    let planned = g.N.ScriptNode.planned in
    let new = c.args.points.now in
    let r = subst (λ v. HasRun node planned lives tasks before (length new) v) (sym c.self.view_is) h in
    let count : c.self.inside.points ≡ length before = r.count in
    let long : c.in-Some.upto ≡ c.self.inside.points + length new = omega (arith, c.in-Some.ensures) in
    let last : c.in-Some.upto ≡ length before + length new = omega (arith, long, count) in
    let s = r.lives_run.stands in
    let courses = picked r.lives_run.runs (courses_on node planned lives tasks before) in
    let es_is = c.as_slice.ensures ∙ c.in_ok-effects.ensures.effects (length before) 0 courses last s.ends s.lives (courses_rise node 0 (numbers_of c.self.inside.net.lives) courses s.rise s.numbered) in
    c.in_ok-accept_effects.ensures.due (life_events node planned lives tasks before) r.topics is
    ∙ ap (λ (evs : List EventValue). drop c.args.stored (Trans evs)) (sym (events_more node planned lives tasks (g.met.N.Node g.world.𝓛 g.world.𝓜 g.world.𝓡 (λ s x. x, λ x. x, λ x. x, λ x. x)).stamped before new (length new) c.as_slice.result.now _ r (omega arith) es_is))
