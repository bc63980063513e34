use Rattle.std.proofs.Common.{◌≡◌, ℤ, Ok, inr, subst}
use Rattle.std.specs.Int.{w64}
use Rattle.std.proofs.lemmas.Int.{to_z-of_z}
use Rattle.kap_io.specs.Moments.{weaker}
use Rattle.engine_asks.specs.Replies.{points_asked}
use Rattle.engine_asks.proofs.writing.write.Goals as goal

pub returns-in-Ok-clause-any_moment : goal.returns-in-Ok-clause-any_moment
returns-in-Ok-clause-any_moment g c = λ tells rs at.
    weaker g.D.Disk.moment g.D.Disk.may_leave g.D.Disk.left_since _ _ _ _ (c.write_points.ensures.any_moment tells rs at)
    (λ a b was how. inr (
      c.in-Ok.points,
      subst (λ (t : ℤ). points_asked c.args.ask.now t ≡ Ok c.in-Ok.points) (to_z-of_z w64 c.args.now c.ranges.now) c.in-Ok.ensures.points,
      how,
    ))
