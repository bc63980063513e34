use Rattle.std.proofs.Common.{◌≡◌, ℕ, ◌+◌, List, [], ◌++◌, length, sym, subst, ◌∙◌}
use Rattle.kap_base.specs.Points.{PointValue}
use Rattle.topic_core.specs.declared.transition.Transition.{Transition}
use Rattle.engine_runs.specs.Running.{HasRun, Tells}
use Rattle.kap_engine.proofs.writing.run_points.Goals as goal

pub returns-clause-runs : goal.returns-clause-runs
returns-clause-runs g c = λ lives tasks before more h.
    let same : c.deref.result.now ≡ c.args.points = c.deref.ensures.value ∙ c.in_ok-points.ensures in
    let here = subst (λ (ps : List PointValue). HasRun g.N.Node g.N.ScriptNode.planned lives tasks before (length ps + more) c.args.run.now) (sym same) h in
    subst (λ (ps : List PointValue). HasRun g.N.Node g.N.ScriptNode.planned lives tasks (before ++ ps) more c.run_on.new.self) same (c.in_ok-run_on.ensures.runs lives tasks before more here)

pub returns-clause-tells : goal.returns-clause-tells
returns-clause-tells g c = λ lives tasks before more h.
    let same : c.deref.result.now ≡ c.args.points = c.deref.ensures.value ∙ c.in_ok-points.ensures in
    let here = subst (λ (ps : List PointValue). HasRun g.N.Node g.N.ScriptNode.planned lives tasks before (length ps + more) c.args.run.now) (sym same) h in
    subst (λ (ps : List PointValue). Tells g.N.Node g.N.ScriptNode.planned lives tasks before ps [] c.run_on.new.text [] c.run_on.new.told.items) same
    (subst (λ (b : List ℕ). Tells g.N.Node g.N.ScriptNode.planned lives tasks before c.deref.result.now b c.run_on.new.text [] c.run_on.new.told.items) c.new-text.ensures
    (subst (λ (ts : List Transition). Tells g.N.Node g.N.ScriptNode.planned lives tasks before c.deref.result.now c.new-text.result c.run_on.new.text ts c.run_on.new.told.items) c.new-told.ensures.items
    (c.in_ok-run_on.ensures.tells lives tasks before more here)))
