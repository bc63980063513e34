use Rattle.std.proofs.Common.{◌≡◌, false, length, ap, ◌∙◌}
use Rattle.net_run.specs.Runs.{NetRunValue}
use Rattle.net_run.proofs.runs.NetRun.given.Goals as goal

pub returns : goal.returns
returns g c =
    let fresh : c.self.inside.spent ≡ false = ap (λ (r : NetRunValue g.row.N-Spec.Denot). r.spent) c.self.view_is ∙ c.requires in
    (c.self.invariant fresh).0 ∙ (c.self.invariant fresh).1.last ∙ ap (λ (r : NetRunValue g.row.N-Spec.Denot). length r.points) c.self.view_is
