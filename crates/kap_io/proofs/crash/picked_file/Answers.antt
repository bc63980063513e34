use Rattle.std.proofs.Common.{◌≡◌, ℕ, List, ◌++◌, map, take, drop, sym, ap, ◌∙◌, take-append-drop}
use Rattle.std.specs.Prelude.{Some}
use Rattle.kap_io.specs.MemDisks.{content, newest_first, refilled, synced, works}
use Rattle.kap_io.specs.declared.disk_work.DiskCall.{DiskCall}
use Rattle.kap_io.specs.declared.disk_work.DiskWork.{DiskWork}
use Rattle.kap_io.proofs.CrashLaws.{unsynced_rest, works_append}
use Rattle.kap_io.proofs.crash.picked_file.Goals as goal

pub returns-in_ok-redo_all-in-Fill : goal.returns-in_ok-redo_all-in-Fill
returns-in_ok-redo_all-in-Fill c =
    let calls = c.args.calls.now in
    let start = c.args.start.now in
    let last = c.last_sync.result in
    let done = λ (l : List DiskCall). works c.args.part (newest_first l) in
    let fill = refilled (Some c.in-Fill.byte) in
    let front : c.split_at.result.0.now ≡ take last calls = c.split_at.ensures.front in
    let back : c.split_at.result.1.now ≡ drop last calls = c.split_at.ensures.back in
    let all : works c.args.part (newest_first calls) ≡ works c.args.part (newest_first (drop last calls)) ++ works c.args.part
    (newest_first (take last calls)) =
    ap (λ (l : List DiskCall). works c.args.part (newest_first l)) (sym (take-append-drop last calls))
    ∙ works_append c.args.part (take last calls) (drop last calls) in
    let since = unsynced_rest _ _ _ all c.last_sync.ensures.synced in
    rw c.in-Fill.is (
    c.in_ok-redo_all-in-Fill.ensures
    ∙ ap (λ (l : List ℕ). content l (map fill (done c.split_at.result.1.now)))
    (c.in_ok-file-in-Fill.ensures ∙ ap (λ (l : List DiskCall). content start (done l)) front
    ∙ ap (λ (w : List DiskWork). content start w) (sym c.last_sync.ensures.synced))
    ∙ ap (λ (w : List DiskWork). content (content start (synced (done calls))) (map fill w)) (ap (λ (l : List DiskCall). done l) back ∙ sym since)
    )
