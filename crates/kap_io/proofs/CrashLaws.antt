-- What a crash leaves of a file, call by call.
use Rattle.std.proofs.Common.{◌≡◌, ℕ, List, [], ◌∷◌, ◌++◌, map, refl, sym, ◌∙◌, ap, subst}
use Rattle.std.specs.Prelude.{Some, None, length, replicate}
use Rattle.std.specs.List.{filter}
use Rattle.std.proofs.lemmas.List.{append_cancel_right, length-replicate, map-append, reverse-append}
use Rattle.std.proofs.lemmas.List.Elements.{filter-append}
use Rattle.kap_io.specs.Disk.{Torn, overwritten}
use Rattle.kap_io.specs.MemDisks.{Leaves, content, newest_first, picked, refilled, synced, unsynced, was_on, works}
use Rattle.kap_io.specs.MemDiskLaws.{leaves_content, stretched_same, stretched_whole, torn_same, torn_whole}
use Rattle.kap_io.specs.declared.disk.Part.{Part}
use Rattle.kap_io.specs.declared.pick.Pick.{Pick}
use Rattle.kap_io.specs.declared.pick.Pick.TheVariants.{Old, New, Fill}
use Rattle.kap_io.specs.declared.disk_work.DiskCall.{DiskCall}
use Rattle.kap_io.specs.declared.disk_work.DiskWork.{DiskWork}
use Rattle.kap_io.specs.declared.disk_work.DiskWork.TheVariants.{Size, Read, Write, Cut, Sync}

-- the calls before, and those since
pub works_append : (part : Part) (before since : List DiskCall)
    → works part (newest_first (before ++ since)) ≡ works part (newest_first since) ++ works part (newest_first before)
works_append part before since =
    ap (λ (l : List DiskCall). works part l) (reverse-append before since)
    ∙ ap (λ (l : List DiskCall). map (λ (c : DiskCall). c.work) l) (filter-append (was_on part) (newest_first since) (newest_first before))
    ∙ map-append (λ (c : DiskCall). c.work) (filter (was_on part) (newest_first since)) (filter (was_on part) (newest_first before))

-- all of it is what was done since the last sync and what was done up to it
parts : (works : List DiskWork) → unsynced works ++ synced works ≡ works
parts [] = refl
parts (Size ∷ works) = ap (λ (l : List DiskWork). Size ∷ l) (parts works)
parts (Read at count ∷ works) = ap (λ (l : List DiskWork). Read at count ∷ l) (parts works)
parts (Write at piece ∷ works) = ap (λ (l : List DiskWork). Write at piece ∷ l) (parts works)
parts (Cut size ∷ works) = ap (λ (l : List DiskWork). Cut size ∷ l) (parts works)
parts (Sync ∷ works) = refl

-- so what was done since is the rest
pub unsynced_rest : (since before works : List DiskWork) → works ≡ since ++ before → synced works ≡ before → unsynced works ≡ since
unsynced_rest since before works all up_to =
    append_cancel_right (unsynced works) since before (ap (λ (l : List DiskWork). unsynced works ++ l) (sym up_to) ∙ parts works ∙ all)

-- with no byte in place of another it is the same
pub refilled_none : (works : List DiskWork) → map (refilled None) works ≡ works
refilled_none [] = refl
refilled_none (work ∷ works) = ap (λ (l : List DiskWork). work ∷ l) (refilled_none works)

-- a crash may leave what was there at the last sync
leaves_synced : (start : List ℕ) (works : List DiskWork) → Leaves start works (content start (synced works))
leaves_synced start [] = refl
leaves_synced start (Size ∷ works) = (_, leaves_synced start works, refl)
leaves_synced start (Read at count ∷ works) = (_, leaves_synced start works, refl)
leaves_synced start (Write at piece ∷ works) = (_, leaves_synced start works, torn_same at (length piece) _)
leaves_synced start (Cut size ∷ works) = (_, leaves_synced start works, stretched_same size _)
leaves_synced start (Sync ∷ works) = (_, leaves_content start works, refl)

-- other bytes may stand where some were written
torn_filled : (at byte : ℕ) (piece file : List ℕ) → Torn at (length piece) file (overwritten at (replicate (length piece) byte) file)
torn_filled at byte piece file =
    subst (λ (n : ℕ). Torn at n file (overwritten at (replicate (length piece) byte) file)) (length-replicate (length piece) byte)
    (torn_whole at (replicate (length piece) byte) file)

leaves_filled : (byte : ℕ) (start : List ℕ) (works : List DiskWork)
    → Leaves start works (content (content start (synced works)) (map (refilled (Some byte)) (unsynced works)))
leaves_filled byte start [] = refl
leaves_filled byte start (Size ∷ works) = (_, leaves_filled byte start works, refl)
leaves_filled byte start (Read at count ∷ works) = (_, leaves_filled byte start works, refl)
leaves_filled byte start (Write at piece ∷ works) = (_, leaves_filled byte start works, torn_filled at byte piece _)
leaves_filled byte start (Cut size ∷ works) = (_, leaves_filled byte start works, stretched_whole size _)
leaves_filled byte start (Sync ∷ works) = (_, leaves_content start works, refl)

-- a crash may leave what is picked
pub leaves_picked : (pick : Pick) (start : List ℕ) (works : List DiskWork) → Leaves start works (picked pick start works)
leaves_picked Old start works = leaves_synced start works
leaves_picked New start works = leaves_content start works
leaves_picked (Fill byte) start works = leaves_filled byte start works
