use Rattle.std.proofs.Common.{◌≡◌, length, sym, ap, ◌∙◌, subst, arith}
use Rattle.kap_io.specs.Disk.{Image}
use Rattle.gate_log.specs.Reading.{RecordAt}
use Rattle.gate_log.proofs.Fetching.{inside, there}
use Rattle.gate_log.proofs.body.read_body.Goals as goal

pub returns-clause-found : goal.returns-clause-found
returns-clause-found g c = λ tells before after log is_at.
    let part = c.args.part in
    let long : c.in_ok-size.size ≡ length (g.D.Disk.seen c.args.disk.now part) = c.in_ok-size.ensures.size tells in
    let found = c.record_at.ensures.found tells (long ∙ sym (ap (λ (i : Image). length (i part)) (c.size.ensures.seen tells)))
    (omega (arith, long, inside before after (g.D.Disk.seen c.args.disk.now part) c.args.at log is_at)) in
    there before after (g.D.Disk.seen c.args.disk.now part) c.args.at log is_at _
    (subst (λ (i : Image). RecordAt c.args.at (i part) c.record_at.result) (c.size.ensures.seen tells) found)
