use Rattle.std.proofs.Common.{◌≡◌, min, List, length, drop, sym, ◌∙◌, subst, arith}
use Rattle.std.proofs.lemmas.Result.{err_from_is_err_and}
use Rattle.kap_base.specs.Points.{PointValue}
use Rattle.topic_store.specs.Points.{IsBefore, state_of}
use Rattle.topic_store.proofs.PointLaws.{gives, gives_fault}
use Rattle.topic_store.proofs.reader.PointsReader.next.Goals as goal

pub returns-in_err-filled-clause-points : goal.returns-in_err-filled-clause-points
returns-in_err-filled-clause-points g c =
    rw (← c.self.view_is, ← c.store.view_is) (
    λ tells rs points on stands.
    let p = err_from_is_err_and c.from_residual.result c.from_residual.ensures.1 in
    rw (p.1, p.2) (gives_fault rs points c.in_err-filled.field-0.0 (c.in_err-filled.ensures.found tells rs points on.stored.follow on.log stands))
    )

pub returns-clause-points : goal.returns-clause-points
returns-clause-points g c =
    rw (← c.self.view_is, ← c.store.view_is) (
    λ tells rs points on stands.
    let filled = c.in_ok-filled.filled in
    let before = c.in_ok-filled.ensures.found tells rs points on.stored.follow on.log stands in
    let least : c.min-count.result ≡ min (length filled.points.items) 4096 = omega (arith, c.min-count.ensures, c.len.ensures, filled.points.ok) in
    let given = gives rs points (state_of filled) before c.min-count.result least c.in_ok-filled.ensures.full in (
      c.in_ok-points.ensures.items ∙ given.0,
      subst (λ (l : List PointValue). IsBefore rs (drop 4096 points) (record { points = l; gate = filled.gate; skip = filled.skip; left = filled.left }))
          (sym c.in_ok-points.ensures.tail) given.1,
    )
    )
