use Rattle.std.proofs.Common.{length, true}
use Rattle.kap_io.specs.declared.disk_work.DiskWork.TheVariants.{Read}
use Rattle.kap_io.proofs.MemDiskCalls.{time_one}
use Rattle.kap_io.proofs.mem_disk.MemDiskDisk.read.Goals as goal

pub returns-clause-time : goal.returns-clause-time
returns-clause-time c =
    rw (← c.self.view_is)
    (time_one c.self.inside.start c.self.inside.calls.noted c.admit.new.self.noted c.args.part
    (Read c.args.at (length c.args.buf.now)) true c.in_ok-admit.ensures.noted)
