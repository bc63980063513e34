use Rattle.kap_io.specs.declared.disk_work.DiskWork.TheVariants.{Cut}
use Rattle.kap_io.proofs.MemDiskCalls.{changeless_failed, changeless_none, done_images, kept_cut}
use Rattle.kap_io.proofs.mem_disk.MemDiskDisk.cut.Goals as goal

pub returns-in_err-admit-clause-crash : goal.returns-in_err-admit-clause-crash
returns-in_err-admit-clause-crash c =
    let old = c.self.inside.calls.noted in
    rw (← c.self.view_is)
    (kept_cut c.self.inside.start old c.admit.new.self.noted c.args.part c.args.size
    (changeless_failed c.self.inside.start old c.admit.new.self.noted c.args.part (Cut c.args.size) c.in_err-admit.ensures.noted))

pub returns-in-Ok-clause-crash : goal.returns-in-Ok-clause-crash
returns-in-Ok-clause-crash c =
    rw (← c.self.view_is)
    (done_images c.self.inside.start c.self.inside.calls.noted c.admit.new.self.noted c.args.part (Cut c.args.size) c.in_ok-admit.ensures.noted)

pub returns-in-Err-clause-crash : goal.returns-in-Err-clause-crash
returns-in-Err-clause-crash c =
    let old = c.self.inside.calls.noted in
    rw (← c.self.view_is)
    (kept_cut c.self.inside.start old c.take_back.new.self.noted c.args.part c.args.size
    (changeless_none c.self.inside.start old c.take_back.new.self.noted (c.take_back.ensures.noted old _ c.in_ok-admit.ensures.noted)))
