use Rattle.kap_io.specs.Moments.{weaker}
use Rattle.engine_store.proofs.AddLaws.{before_or_after}
use Rattle.engine_store.proofs.adding.add_piece.Goals as goal

pub returns-in-Err-clause-any_moment : goal.returns-in-Err-clause-any_moment
returns-in-Err-clause-any_moment g c = λ tells rs on may some closed.
    weaker g.D.Disk.moment g.D.Disk.may_leave g.D.Disk.left_since _ _ _ _ (c.add.ensures.any_moment tells rs may on) (λ a b was how. before_or_after rs c.args.piece b some closed how)

pub returns-in-Ok-clause-added : goal.returns-in-Ok-clause-added
returns-in-Ok-clause-added g c = λ tells rs on may. c.in-Ok.ensures.added tells rs may on

pub returns-in-Ok-clause-any_moment : goal.returns-in-Ok-clause-any_moment
returns-in-Ok-clause-any_moment g c = λ tells rs on may some closed.
    weaker g.D.Disk.moment g.D.Disk.may_leave g.D.Disk.left_since _ _ _ _ (c.add.ensures.any_moment tells rs may on) (λ a b was how. before_or_after rs c.args.piece b some closed how)
