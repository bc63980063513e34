use Rattle.std.proofs.Common.{◌≡◌, ℕ, ◌-◌, [], drop, sym, ap, ◌∙◌, subst}
use Rattle.store_records.specs.Histories.{held}
use Rattle.store_kept.specs.Keeping.{AreMarks}
use Rattle.topic_store.specs.Points.{IsBefore, PointsState}
use Rattle.topic_store.proofs.PointLaws.{begins}
use Rattle.topic_store.proofs.store.Store.read_points.Goals as goal

pub returns : goal.returns
returns c =
    rw (← c.self.view_is) (
    λ rs keeps.
    let start = c.points_start-start.result in
    let lead = c.points_start-start.ensures rs (subst (AreMarks rs) (sym c.deref.ensures.value) keeps.marks) in
    let left : c.saturating_sub.result ≡ c.self.inside.kept.points - c.args.after = c.saturating_sub.ensures in
    let is : c.new.result ≡ record { points = []; gate = start.gate; skip = start.skip; left = c.self.inside.kept.points - c.args.after } =
    c.new.ensures ∙ ap (λ (n : ℕ). record { points = []; gate = start.gate; skip = start.skip; left = n }) left in
    subst (λ (r : PointsState). IsBefore rs (drop c.args.after (held rs).points) r) (sym is)
    (begins rs c.args.after c.self.inside.kept.points start lead keeps.keeps.points)
    )
