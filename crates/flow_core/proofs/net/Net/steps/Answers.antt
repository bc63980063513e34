use Rattle.std.proofs.Common.{List, ap, subst, sym, ◌∙◌}
use Rattle.std.specs.Prelude.{Contains}
use Rattle.flow_life.specs.declared.steps.Step.{Step}
use Rattle.flow_core.proofs.LivesLaws.{if_ok}
use Rattle.flow_core.specs.Running.{steps_of}
use Rattle.flow_core.proofs.RunningLaws.{step_listed}
use Rattle.flow_core.proofs.net.Net.steps.Goals as goal

pub returns-clause-all : goal.returns-clause-all
returns-clause-all g c =
    let same = c.deref.ensures.value ∙ ap (λ v. v.lives) c.self.view_is in
    if_ok c.list_steps.result (λ steps is next can. subst (λ (l : List Step). Contains l next) (sym (is ∙ ap steps_of same)) (step_listed c.args.self.now.lives next can)) c.list_steps.ensures.steps
