use Rattle.std.proofs.Common.{◌≡◌, false, map, ap, sym, subst, ◌∙◌}
use Rattle.std.specs.List.{AllByRecursion as Each}
use Rattle.std.proofs.lemmas.Result.{IfOk-weaker}
use Rattle.net_run.specs.Runs.{NetRunValue}
use Rattle.task_run.specs.Lives.{dropped_of}
use Rattle.kap_server.specs.Parts.{dropped_of_runs}
use Rattle.kap_server.proofs.BesideLaws.{dropped_all, unspent_all}
use Rattle.kap_server.proofs.parts.Parts.dropped.Goals as goal

pub dropped_by-requires-after_bounds : goal.dropped_by-requires-after_bounds
dropped_by-requires-after_bounds g c κs within =
    let fresh : c.self.inside.spent ≡ false = ap (λ (r : NetRunValue g.row.N-Spec.Denot). r.spent) c.self.view_is ∙ c.requires in
    subst (λ xs. Each (λ part. part.run.spent ≡ false) xs) (sym c.as_slice.ensures.value) (unspent_all (λ part. part.run) _ _ c.self.inside.parts.items (c.self.invariant fresh).had)

pub returns : goal.returns
returns g c =
    let answer = g.N.Node.answer in
    let fresh : c.self.inside.spent ≡ false = ap (λ (r : NetRunValue g.row.N-Spec.Denot). r.spent) c.self.view_is ∙ c.requires in
    IfOk-weaker c.dropped_by.result _ _ (λ counts is. is
    ∙ ap (λ xs. dropped_of_runs answer (map (λ part. part.run) xs)) c.as_slice.ensures.value
    ∙ dropped_all answer _ _ (map (λ part. part.run) c.self.inside.parts.items) (c.self.invariant fresh).had
    ∙ ap (λ (r : NetRunValue g.row.N-Spec.Denot). dropped_of answer r.lives r.points) c.self.view_is)
    c.dropped_by.ensures
