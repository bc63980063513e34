use Rattle.std.proofs.Common.{sym, subst, ◌∙◌}
use Rattle.engine_runs.specs.Running.{HasRun}
use Rattle.engine_runs.proofs.RunLaws.{epoch_before}
use Rattle.engine_runs.proofs.runs.EngineRun.epoch_len.Goals as goal

pub returns-clause-runs : goal.returns-clause-runs
returns-clause-runs g c = λ tasks before rise h.
    let node = g.N.Node in
    let planned = g.N.ScriptNode.planned in
    let lives = c.args.lives.now in
    let r = subst (λ v. HasRun node planned lives tasks before 1 v) (sym c.self.view_is) h in
    subst (λ v. HasRun node planned lives tasks before c.points_before.result v) c.self.view_is
    (epoch_before node planned lives tasks before c.points_before.result _ c.len.result c.lives.result.now rise r (c.len.ensures ∙ c.self.inside.names.ok.0) c.lives.ensures.lives c.points_before.ensures.onward c.points_before.ensures.first c.points_before.ensures.soon)
