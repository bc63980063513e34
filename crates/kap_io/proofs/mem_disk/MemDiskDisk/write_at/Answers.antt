use Rattle.std.proofs.Common.{rules}
use Rattle.kap_io.specs.declared.disk_work.DiskWork.TheVariants.{Write}
use Rattle.kap_io.proofs.MemDiskCalls.{changeless_failed, changeless_none, done_images, kept_write, time_one}
use Rattle.kap_io.proofs.mem_disk.MemDiskDisk.write_at.Goals as goal

pub returns-in_default-clause-crash : goal.returns-in_default-clause-crash
returns-in_default-clause-crash c =
    let old = c.self.inside.calls.noted in
    rw (← c.self.view_is)
    (kept_write c.self.inside.start old c.refuse.new.self.noted c.args.part c.args.at _
    (changeless_none c.self.inside.start old c.refuse.new.self.noted c.refuse.ensures.noted))

pub returns-in_err-admit-clause-crash : goal.returns-in_err-admit-clause-crash
returns-in_err-admit-clause-crash c =
    let old = c.self.inside.calls.noted in
    rw (← c.self.view_is)
    (kept_write c.self.inside.start old c.admit.new.self.noted c.args.part c.args.at _
    (changeless_failed c.self.inside.start old c.admit.new.self.noted c.args.part _ c.in_err-admit.ensures.noted))

pub returns-in-Ok-write-clause-crash : goal.returns-in-Ok-write-clause-crash
returns-in-Ok-write-clause-crash c =
    rw (← c.self.view_is) (done_images c.self.inside.start c.self.inside.calls.noted c.admit.new.self.noted c.args.part (Write c.args.at c.args.piece.now)
    (search rules))

pub returns-in-Ok-write-clause-time : goal.returns-in-Ok-write-clause-time
returns-in-Ok-write-clause-time c =
    rw (← c.self.view_is) (time_one c.self.inside.start c.self.inside.calls.noted c.admit.new.self.noted c.args.part _ _ c.in_ok-admit.ensures.noted)

pub returns-in-Err-clause-crash : goal.returns-in-Err-clause-crash
returns-in-Err-clause-crash c =
    let old = c.self.inside.calls.noted in
    rw (← c.self.view_is)
    (kept_write c.self.inside.start old c.take_back.new.self.noted c.args.part c.args.at _
    (changeless_none c.self.inside.start old c.take_back.new.self.noted (c.take_back.ensures.noted old _ c.in_ok-admit.ensures.noted)))
