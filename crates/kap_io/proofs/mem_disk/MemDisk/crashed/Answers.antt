use Rattle.std.proofs.Common.{ℕ, List, sym, subst, rules}
use Rattle.kap_io.specs.FileBytes.{file_of}
use Rattle.kap_io.specs.MemDisks.{Leaves, newest_first, works}
use Rattle.kap_io.proofs.CrashLaws.{leaves_picked}
use Rattle.kap_io.proofs.mem_disk.MemDisk.crashed.Goals as goal

pub returns-clause-image : goal.returns-clause-image
returns-clause-image c = λ part.
    let start = file_of c.args.self.now.start part in
    let done = works part (newest_first c.args.self.now.calls.noted) in
    subst (λ (f : List ℕ). Leaves start done f) (sym (search rules)) (leaves_picked c.args.pick start done)
