use Rattle.std.proofs.Common.{subst}
use Rattle.std.specs.declared.result.Result.TheVariants.{Ok}
use Rattle.kap_io.specs.Disk.{Image}
use Rattle.kap_io.specs.Moments.{quiet_images}
use Rattle.gate_log.specs.Reading.{StartsAs}
use Rattle.gate_log.proofs.Onward.{begun}
use Rattle.gate_log.proofs.reader.begin.Goals as goal

pub returns-clause-found : goal.returns-clause-found
returns-clause-found g c = λ tells.
    begun (g.D.Disk.seen c.args.disk.now) (g.D.Disk.may_leave c.read_start.new.disk) c.args.part c.in_ok-size.size
    (λ i left. c.in_ok-sync.ensures.durable tells i
    (quiet_images g.D.Disk.seen g.D.Disk.moment g.D.Disk.may_leave g.D.Disk.left_since _ _ (c.read_start.ensures.quiet tells) i left))
    (subst (λ (i : Image). StartsAs (i c.args.part) (Ok c.in_ok-size.size)) (c.sync.ensures.seen tells) (c.in_ok-size.ensures.found tells))
    c.in_ok-size.ensures.some
