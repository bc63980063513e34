use Rattle.std.proofs.Common.{inl}
use Rattle.kap_io.specs.Moments.{weaker}
use Rattle.gate_log.proofs.Added.{behind_torn, gate_open, two_writes}
use Rattle.gate_log.proofs.Gate.{opened}
use Rattle.gate_log.proofs.append.add_record.Goals as goal

pub returns-in_err-write_synced-clause-any_moment : goal.returns-in_err-write_synced-clause-any_moment
returns-in_err-write_synced-clause-any_moment g c = λ tells bodies body ready.
    weaker g.D.Disk.moment g.D.Disk.may_leave g.D.Disk.left_since _ _ _ _ (c.write_synced.ensures.any_moment tells)
    (λ d i was on. let torn = behind_torn bodies body c.args.part c.args.gate c.args.piece.now _ _ ready d i was on in record {
      step =
          inl torn.step;
      elsewhere = torn.elsewhere;
    })

pub returns-in_err-write_synced-2-clause-any_moment : goal.returns-in_err-write_synced-2-clause-any_moment
returns-in_err-write_synced-2-clause-any_moment g c = λ tells bodies body ready.
    two_writes g.D.Disk.moment g.D.Disk.may_leave g.D.Disk.left_since g.D.Disk.seen bodies body c.args.part c.args.gate c.args.piece.now _ _ _ ready
    (c.write_synced.ensures.any_moment tells) (c.in_ok-write_synced.ensures.written tells) (c.in_ok-write_synced.ensures.durable tells)
    (c.write_synced-2.ensures.any_moment tells)

pub returns-clause-done : goal.returns-clause-done
returns-clause-done g c = λ tells bodies body ready. record {
  bytes = opened bodies body _ _ ready.file.bytes.fit ready.fits
      (gate_open bodies body c.args.part c.args.gate c.args.piece.now _ _ ready _ _ (c.in_ok-write_synced.ensures.written tells)
      (c.in_ok-write_synced-2.ensures.written tells));
  durable = c.in_ok-write_synced-2.ensures.durable tells;
}

pub returns-clause-any_moment : goal.returns-clause-any_moment
returns-clause-any_moment g c = λ tells bodies body ready.
    two_writes g.D.Disk.moment g.D.Disk.may_leave g.D.Disk.left_since g.D.Disk.seen bodies body c.args.part c.args.gate c.args.piece.now _ _ _ ready
    (c.write_synced.ensures.any_moment tells) (c.in_ok-write_synced.ensures.written tells) (c.in_ok-write_synced.ensures.durable tells)
    (c.write_synced-2.ensures.any_moment tells)
