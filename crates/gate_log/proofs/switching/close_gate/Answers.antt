use Rattle.std.proofs.Common.{◌+◌, inl, arith}
use Rattle.kap_io.specs.Disk.{Torn}
use Rattle.kap_io.specs.Moments.{stays, then_step}
use Rattle.kap_io.specs.declared.disk.Part.TheVariants as part
use Rattle.gate_log.specs.Head.{IsRunOrNext}
use Rattle.gate_log.proofs.Run.{missing_torn}
use Rattle.gate_log.proofs.switching.close_gate.Goals as goal

pub returns-in_err-write_synced-clause-any_moment : goal.returns-in_err-write_synced-clause-any_moment
returns-in_err-write_synced-clause-any_moment g c = λ tells settled.
    let d = g.D.Disk in
    let head = settled.head in
    let only = settled.durable in
    let file = d.seen c.args.disk.now part.Head in
    then_step d.moment d.may_leave d.left_since part.Head (IsRunOrNext c.args.run) (Torn (8 + c.args.run) 1) file _ _ _
    (stays d.moment d.may_leave d.left_since part.Head (IsRunOrNext c.args.run) file _ _ only (inl head) (c.size.ensures.time tells)
    (c.size.ensures.crash tells))
    (λ i left. only i (c.size.ensures.crash tells i left))
    (c.write_synced.ensures.any_moment tells)
    (λ i torn. missing_torn c.args.run file i head (omega (arith, c.in_ok-size.ensures.size tells)) torn)

pub returns-clause-any_moment : goal.returns-clause-any_moment
returns-clause-any_moment g c = λ tells settled.
    let d = g.D.Disk in
    let head = settled.head in
    let only = settled.durable in
    let file = d.seen c.args.disk.now part.Head in
    then_step d.moment d.may_leave d.left_since part.Head (IsRunOrNext c.args.run) (Torn (8 + c.args.run) 1) file _ _ _
    (stays d.moment d.may_leave d.left_since part.Head (IsRunOrNext c.args.run) file _ _ only (inl head) (c.size.ensures.time tells)
    (c.size.ensures.crash tells))
    (λ i left. only i (c.size.ensures.crash tells i left))
    (c.write_synced.ensures.any_moment tells)
    (λ i torn. missing_torn c.args.run file i head (omega (arith, c.in_ok-size.ensures.size tells)) torn)
