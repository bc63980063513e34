use Rattle.std.proofs.Common.{◌+◌, inl}
use Rattle.kap_io.specs.Disk.{Torn}
use Rattle.kap_io.specs.Moments.{then_step}
use Rattle.kap_io.specs.declared.disk.Part.TheVariants as part
use Rattle.gate_log.specs.Head.{IsRunOrNext}
use Rattle.gate_log.proofs.Run.{next_torn, open_torn, opened}
use Rattle.gate_log.proofs.switching.switch.Goals as goal

pub returns-in_err-write_synced-clause-any_moment : goal.returns-in_err-write_synced-clause-any_moment
returns-in_err-write_synced-clause-any_moment g c = λ tells settled.
    let d = g.D.Disk in
    let gated = c.in_ok-close_gate.ensures.closed tells settled in
    then_step d.moment d.may_leave d.left_since part.Head (IsRunOrNext c.args.run) (Torn (8 + c.args.run + 1) 1) _ _ _ _
    (c.close_gate.ensures.any_moment tells settled) (c.in_ok-close_gate.ensures.durable tells settled) (c.write_synced.ensures.any_moment tells)
    (λ i torn. inl (next_torn c.args.run _ gated i torn))

pub returns-in_err-write_synced-2-clause-any_moment : goal.returns-in_err-write_synced-2-clause-any_moment
returns-in_err-write_synced-2-clause-any_moment g c = λ tells settled.
    let d = g.D.Disk in
    let gated = c.in_ok-close_gate.ensures.closed tells settled in
    then_step d.moment d.may_leave d.left_since part.Head (IsRunOrNext c.args.run) (Torn (8 + c.args.run) 1) _ _ _ _
    (then_step d.moment d.may_leave d.left_since part.Head (IsRunOrNext c.args.run) (Torn (8 + c.args.run + 1) 1) _ _ _ _
    (c.close_gate.ensures.any_moment tells settled) (c.in_ok-close_gate.ensures.durable tells settled) (c.write_synced.ensures.any_moment tells)
    (λ i torn. inl (next_torn c.args.run _ gated i torn)))
    (c.in_ok-write_synced.ensures.durable tells) (c.write_synced-2.ensures.any_moment tells)
    (λ i torn. open_torn c.args.run _ gated _ i (c.in_ok-write_synced.ensures.written tells) torn)

pub returns-clause-any_moment : goal.returns-clause-any_moment
returns-clause-any_moment g c = λ tells settled.
    let d = g.D.Disk in
    let gated = c.in_ok-close_gate.ensures.closed tells settled in
    then_step d.moment d.may_leave d.left_since part.Head (IsRunOrNext c.args.run) (Torn (8 + c.args.run) 1) _ _ _ _
    (then_step d.moment d.may_leave d.left_since part.Head (IsRunOrNext c.args.run) (Torn (8 + c.args.run + 1) 1) _ _ _ _
    (c.close_gate.ensures.any_moment tells settled) (c.in_ok-close_gate.ensures.durable tells settled) (c.write_synced.ensures.any_moment tells)
    (λ i torn. inl (next_torn c.args.run _ gated i torn)))
    (c.in_ok-write_synced.ensures.durable tells) (c.write_synced-2.ensures.any_moment tells)
    (λ i torn. open_torn c.args.run _ gated _ i (c.in_ok-write_synced.ensures.written tells) torn)

pub returns-clause-switched : goal.returns-clause-switched
returns-clause-switched g c = λ tells settled.
    record {
      head = opened c.args.run _ (c.in_ok-close_gate.ensures.closed tells settled) _ _ (c.in_ok-write_synced.ensures.written tells)
          (c.in_ok-write_synced-2.ensures.written tells);
      durable = c.in_ok-write_synced-2.ensures.durable tells;
    }

pub returns-in_err-close_gate-clause-later : goal.returns-in_err-close_gate-clause-later
returns-in_err-close_gate-clause-later g c = c.close_gate.ensures.later
