use Rattle.kap_io.specs.declared.disk_work.DiskWork.TheVariants.{Sync}
use Rattle.kap_io.proofs.MemDiskCalls.{changeless_still}
use Rattle.kap_io.proofs.mem_disk.MemDiskDisk.sync.Goals as goal

pub returns-clause-crash : goal.returns-clause-crash
returns-clause-crash c =
    rw (← c.self.view_is) ((changeless_still c.self.inside.start c.self.inside.calls.noted c.admit.new.self.noted c.args.part Sync tt
    c.in_ok-admit.ensures.noted).images)
