use Rattle.std.proofs.Common.{◌≡◌, ◌+◌, ◌<◌, ◌≤◌, ◌++◌, ℕ, List, drop, length, refl, sym, ap, subst, ◌∙◌, arith}
use Rattle.std.proofs.lemmas.List.{take-append-drop}
use Rattle.kap_base.specs.Points.{PointValue}
use Rattle.engine_runs.specs.Running.{HasRun, Tells}
use Rattle.engine_runs.proofs.TellLaws.{on_all, on_next, on_none, on_then}
use Rattle.engine_runs.proofs.runs.EngineRun.run_on.Goals as goal

pub running-init : goal.running-init
running-init g c = record {
  unspent = c.requires;
  names = refl;
  runs = λ lives tasks before more h. on_none g.N.Node g.N.ScriptNode.planned lives tasks before c.args.points.now more c.args.text.now c.args.told.now.items c.args.self.now h;
  streams = λ lt. let none : length c.args.points.now < length c.args.points.now = lt in absurd (omega (arith, none));
}

pub running-preserved : goal.running-preserved
running-preserved g c =
    let rest = c.running.rest.now in
    let n = c.min-count.result in
    let piece = c.split_at.result.0.now in
    let behind = c.split_at.result.1.now in
    let cut : rest ≡ piece ++ behind = sym (take-append-drop n rest) ∙ ap (λ (l : List PointValue). l ++ drop n rest) (sym c.split_at.ensures.front) ∙ ap (λ (l : List PointValue). piece ++ l) (sym c.split_at.ensures.back) in
    record {
      unspent = c.in_ok-tell_few.ensures.spent;
      names = c.tell_few.ensures.names ∙ c.running.invariant.names;
      runs = λ lives tasks before more h.
          let s = c.running.invariant.runs lives tasks before more h in
          let next = on_next g.N.Node g.N.ScriptNode.planned lives tasks before c.args.points.now rest piece behind more c.args.text.now c.running.text c.args.told.now.items c.running.told.items c.running.self s cut in
          on_then g.N.Node g.N.ScriptNode.planned lives tasks before c.args.points.now rest piece behind more c.args.text.now c.running.text c.tell_few.new.text c.args.told.now.items c.running.told.items c.tell_few.new.told.items c.running.self c.tell_few.new.self s cut
          (c.in_ok-tell_few.ensures.runs lives tasks (before ++ s.passed) (length behind + more) next) (c.in_ok-tell_few.ensures.tells lives tasks (before ++ s.passed) (length behind + more) next);
      streams = λ lt. c.in_ok-tell_few.ensures.streams;
    }

pub returns-clause-runs : goal.returns-clause-runs
returns-clause-runs g c = λ lives tasks before more h.
    let s = c.running.invariant.runs lives tasks before more h in
    let none : length c.running.rest.now ≤ 0 = omega (arith, c.running-test.false) in
    let all = on_all g.N.Node g.N.ScriptNode.planned lives tasks before c.args.points.now c.running.rest.now more c.args.text.now c.running.text c.args.told.now.items c.running.told.items c.running.self s none in
    let more_is : length c.running.rest.now + more ≡ more = omega (arith, none) in
    subst (λ (ps : List PointValue). HasRun g.N.Node g.N.ScriptNode.planned lives tasks (before ++ ps) more c.running.self) all
    (subst (λ (k : ℕ). HasRun g.N.Node g.N.ScriptNode.planned lives tasks (before ++ s.passed) k c.running.self) more_is s.runs)

pub returns-clause-tells : goal.returns-clause-tells
returns-clause-tells g c = λ lives tasks before more h.
    let s = c.running.invariant.runs lives tasks before more h in
    let none : length c.running.rest.now ≤ 0 = omega (arith, c.running-test.false) in
    let all = on_all g.N.Node g.N.ScriptNode.planned lives tasks before c.args.points.now c.running.rest.now more c.args.text.now c.running.text c.args.told.now.items c.running.told.items c.running.self s none in
    subst (λ (ps : List PointValue). Tells g.N.Node g.N.ScriptNode.planned lives tasks before ps c.args.text.now c.running.text c.args.told.now.items c.running.told.items) all s.tells
