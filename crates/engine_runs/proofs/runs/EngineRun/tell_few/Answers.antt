use Rattle.std.proofs.Common.{◌≡◌, ◌+◌, ◌≤◌, ◌++◌, List, ap, length, refl, sym, subst, ◌∙◌, arith}
use Rattle.effect_text.specs.Lines.{text_behind}
use Rattle.effect_text.specs.declared.names.TaskNames.{TaskNames}
use Rattle.flow_core.specs.Nets.{numbers_of}
use Rattle.net_epochs.proofs.StandLaws.{courses_rise}
use Rattle.engine_runs.specs.Running.{HasRun, courses_on}
use Rattle.engine_runs.specs.Spans.{picked}
use Rattle.engine_runs.proofs.RestedLaws.{run_rest}
use Rattle.engine_runs.proofs.RunLaws.{ran_on}
use Rattle.engine_runs.proofs.TellLaws.{epoch_told}
use Rattle.engine_runs.proofs.runs.EngineRun.tell_few.Goals as goal

pub returns-clause-runs : goal.returns-clause-runs
returns-clause-runs g c = λ lives tasks before more h.
    let node = g.N.Node in
    let planned = g.N.ScriptNode.planned in
    let new = c.args.points.now in
    let r = subst (λ v. HasRun node planned lives tasks before (length new + more) v) (sym c.self.view_is) h in
    let count : c.self.inside.points ≡ length before = r.count in
    let long : c.in-Some.upto ≡ c.self.inside.points + length new = omega (arith, c.in-Some.ensures) in
    let last : c.in-Some.upto ≡ length before + length new = omega (arith, long, count) in
    let s = r.lives_run.stands in
    let courses = picked r.lives_run.runs (courses_on node planned lives tasks before) in
    let es_is = c.as_slice.ensures ∙ c.in_ok-effects.ensures.effects (length before) 0 courses last s.ends s.lives (courses_rise node 0 (numbers_of c.self.inside.net.lives) courses s.rise s.numbered) in
    let met = g.met.N.Node g.world.𝓛 g.world.𝓜 g.world.𝓡 (λ s x. x, λ x. x, λ x. x, λ x. x) in
    let low : c.self.inside.net.last.0 ≤ length before = s.last in
    let rested = run_rest node met.folds met.stamped new (record { 0 = c.in-Some.upto }) c.self.inside.net c.run_epoch.new.net c.requires.some (omega (arith, low, last)) c.in_ok-effects.ensures.last
    (record { plans = c.in_ok-effects.ensures.loaded; specs = c.in_ok-effects.ensures.specs; lives = c.in_ok-effects.ensures.sound }) c.in_ok-effects.ensures.rest r.lives_run.rested in
    ran_on node planned lives tasks met.stamped before new more (length new + more) c.as_slice.result.now _ _ r (omega arith) es_is (c.in_ok-effects.ensures.stands (length before) courses last s)
    rested c.in_ok-effects.ensures.numbers refl long c.in_ok-tell_effects.ensures.topics c.in_ok-tell_effects.ensures.times

pub returns-clause-tells : goal.returns-clause-tells
returns-clause-tells g c = λ lives tasks before more h.
    let node = g.N.Node in
    let planned = g.N.ScriptNode.planned in
    let new = c.args.points.now in
    let r = subst (λ v. HasRun node planned lives tasks before (length new + more) v) (sym c.self.view_is) h in
    let count : c.self.inside.points ≡ length before = r.count in
    let long : c.in-Some.upto ≡ c.self.inside.points + length new = omega (arith, c.in-Some.ensures) in
    let last : c.in-Some.upto ≡ length before + length new = omega (arith, long, count) in
    let s = r.lives_run.stands in
    let courses = picked r.lives_run.runs (courses_on node planned lives tasks before) in
    let es_is = c.as_slice.ensures ∙ c.in_ok-effects.ensures.effects (length before) 0 courses last s.ends s.lives (courses_rise node 0 (numbers_of c.self.inside.net.lives) courses s.rise s.numbered) in
    let met = g.met.N.Node g.world.𝓛 g.world.𝓜 g.world.𝓡 (λ s x. x, λ x. x, λ x. x, λ x. x) in
    let numbering = (g.met.N.NumberingNode g.world.𝓛 g.world.𝓜 g.world.𝓡 (λ s x. x, λ x. x, λ x. x, λ x. x)).numbers in
    epoch_told node met.stamped numbering planned lives tasks before new (length new + more) c.as_slice.result.now _ c.args.text.now c.tell_effects.new.text c.args.told.now.items c.tell_effects.new.told.items r (omega arith) es_is
    (λ events stands. c.in_ok-tell_effects.ensures.text events stands ∙ ap (λ (ns : List TaskNames). c.args.text.now ++ text_behind ns events c.as_slice.result.now) c.deref.ensures.value) c.in_ok-tell_effects.ensures.told
