use Rattle.std.proofs.Common.{◌≡◌, ℕ, List, ◌∙◌, ap, rules}
use Rattle.kap_io.specs.MemDisks.{content, newest_first, works}
use Rattle.kap_io.specs.declared.disk_work.DiskWork.{DiskWork}
use Rattle.kap_io.proofs.CrashLaws.{refilled_none}
use Rattle.kap_io.proofs.crash.redone.Goals as goal

pub returns : goal.returns
returns c =
    let copied : c.in_ok-file.file.items ≡ c.args.start.now = search rules in
    let done = works c.args.part (newest_first c.args.calls.now) in
    c.in_ok-redo_all.ensures
    ∙ ap (λ (w : List DiskWork). content c.in_ok-file.file.items w) (refilled_none done)
    ∙ ap (λ (l : List ℕ). content l done) copied
