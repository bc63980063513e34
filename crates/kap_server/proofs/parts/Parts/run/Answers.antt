use Rattle.std.proofs.Common.{◌≡◌, false, map, ap, subst, sym, ◌∙◌}
use Rattle.net_run.specs.Runs.{NetRunValue}
use Rattle.kap_server.specs.Parts.{AreOne, lives_of_runs}
use Rattle.kap_server.proofs.BesideLaws.{beside_with, lives_with, one_of}
use Rattle.kap_server.proofs.parts.Parts.run.Goals as goal

pub invariant_of-self-2 : goal.invariant_of-self-2
invariant_of-self-2 g c = λ e.
    let old = c.self.inside.parts in
    let new = c.args.points.items in
    let fresh : c.self.inside.spent ≡ false = ap (λ (r : NetRunValue g.row.N-Spec.Denot). r.spent) c.self.view_is ∙ c.requires.spent in
    subst AreOne (sym c.in_ok-ran.ensures.runs)
    (one_of _ _ _ (beside_with new (map (λ part. part.run) old.items) (c.self.invariant fresh)))

pub returns-clause-lives : goal.returns-clause-lives
returns-clause-lives g c =
    let old = c.self.inside.parts in
    let new = c.args.points.items in
    ap lives_of_runs c.in_ok-ran.ensures.runs
    ∙ lives_with new (map (λ part. part.run) old.items)
    ∙ ap (λ (r : NetRunValue g.row.N-Spec.Denot). r.lives) c.self.view_is
