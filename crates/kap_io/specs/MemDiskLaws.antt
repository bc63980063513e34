-- What holds of the images of a disk in memory.
use Rattle.std.proofs.Common.{◌≡◌, inl, inr, ℕ, ◌+◌, ◌-◌, min, max, List, [], ◌∷◌, ◌++◌, length, take, drop, refl, sym, ◌∙◌, ap, arith, append_assoc, length-append, length-take, length-drop}
use Rattle.std.specs.Prelude.{replicate}
use Rattle.std.proofs.lemmas.List.{drop_at, take-take, take_min, take-append-le, length-replicate}
use Rattle.kap_io.specs.Disk.{Image, Stretched, Torn, overwritten, padded, resized}
use Rattle.kap_io.specs.FileBytes.{FileBytes, file_of}
use Rattle.kap_io.specs.MemDisks.{Becomes, LeftSince, Leaves, MayLeave, MemDiskState, changed, content, holds, leaves, left_from, moment_of, newest_first, works}
use Rattle.kap_io.specs.declared.disk_work.DiskCall.{DiskCall}
use Rattle.kap_io.specs.declared.disk_work.DiskWork.{DiskWork}
use Rattle.kap_io.specs.declared.disk_work.DiskWork.TheVariants.{Size, Read, Write, Cut, Sync}

-- a file that is padded has at least so many bytes, and keeps all of its own
pub length-padded : (n : ℕ) (file : List ℕ) → length (padded n file) ≡ max n (length file)
length-padded n file =
    omega (arith, length-append file (replicate (n - length file) 0), length-replicate {A = ℕ} (n - length file) 0)

length-front : (n : ℕ) (file : List ℕ) → length (take n (padded n file)) ≡ n
length-front n file = omega (arith, length-take n (padded n file), length-padded n file)

front_same : (n : ℕ) (file : List ℕ) → take (min n (length file)) (take n (padded n file)) ≡ take n file
front_same n file =
    take-take (min n (length file)) n (padded n file) (omega arith)
    ∙ take-append-le (min n (length file)) file (replicate (n - length file) 0) (omega arith)
    ∙ take_min n file

-- a write that is done is one that a crash may leave
pub torn_whole : (at : ℕ) (piece file : List ℕ) → Torn at (length piece) file (overwritten at piece file)
torn_whole at piece file =
    let front = take at (padded at file) in
    let rest = drop (at + length piece) file in
    let long : length front ≡ at = length-front at file in
    let both : length (front ++ piece) ≡ at + length piece = omega (arith, long, length-append front piece) in
    let all : length (front ++ piece ++ rest) ≡ at + length piece + (length file - (at + length piece)) =
    omega (arith, both, length-append (front ++ piece) rest, length-drop (at + length piece) file) in
    record {
      before =
          ap (λ (l : List ℕ). take (min at (length file)) l) (append_assoc front piece rest)
          ∙ take-append-le (min at (length file)) front (piece ++ rest) (omega (arith, long))
          ∙ front_same at file;
      after = drop_at (front ++ piece) rest (at + length piece) both;
      no_shorter = omega (arith, all);
      no_longer = omega (arith, all);
    }

-- a change of the length that is done is one that a crash may leave
pub stretched_whole : (n : ℕ) (file : List ℕ) → Stretched n file (resized n file)
stretched_whole n file =
    let long : length (resized n file) ≡ n = length-front n file in
    record {
      same = front_of n file long;
      no_shorter = omega (arith, long);
      no_longer = omega (arith, long);
    }
  where
    shorter : (n m : ℕ) (l : List ℕ) → length l ≡ n → take (min n m) l ≡ take m l
    shorter n m l long = ap (λ (k : ℕ). take k l) (omega (arith, long)) ∙ take_min m l

    front_of : (n : ℕ) (file : List ℕ) → length (resized n file) ≡ n
        → take (length file) (resized n file) ≡ take (length (resized n file)) file
    front_of n file long =
        sym (shorter n (length file) (resized n file) long)
        ∙ front_same n file
        ∙ ap (λ (k : ℕ). take k file) (sym long)

-- a write that isn't done
pub torn_same : (at n : ℕ) (file : List ℕ) → Torn at n file file
torn_same at n file =
    record { before = take_min at file; after = refl; no_shorter = omega arith; no_longer = omega arith }

-- a change of the length that isn't done
pub stretched_same : (n : ℕ) (file : List ℕ) → Stretched n file file
stretched_same n file = record { same = refl; no_shorter = omega arith; no_longer = omega arith }

becomes_changed : (work : DiskWork) (file : List ℕ) → Becomes work file file (changed work file)
becomes_changed Size file = refl
becomes_changed (Read at count) file = refl
becomes_changed (Write at piece) file = torn_whole at piece file
becomes_changed (Cut size) file = stretched_whole size file
becomes_changed Sync file = refl

-- what a file reads as is one of what a crash may leave
pub leaves_content : (start : List ℕ) (works : List DiskWork) → Leaves start works (content start works)
leaves_content start [] = refl
leaves_content start (work ∷ works) =
    (content start works, leaves_content start works, becomes_changed work (content start works))

-- what the disk holds is one of the images that it may leave
pub memory_reads_as : (disk : MemDiskState) → leaves disk (holds disk)
memory_reads_as disk = λ part. leaves_content (file_of disk.start part) (works part (newest_first disk.calls.noted))

counts_now : (start : FileBytes) (t : ℕ) (calls : List DiskCall) (c : Image) → MayLeave start calls c
    → LeftSince start t calls c
counts_now start t [] c now = now
counts_now start t (call ∷ calls) c now = inl now

-- an image of now is one of those since any moment
pub memory_counts_now : (disk : MemDiskState) (t : ℕ) (c : Image) → leaves disk c → left_from disk t c
memory_counts_now disk t c now = counts_now disk.start t (newest_first disk.calls.noted) c now

only_now : (start : FileBytes) (calls : List DiskCall) (c : Image) → LeftSince start (length calls) calls c
    → MayLeave start calls c
only_now start [] c left = left
only_now start (call ∷ calls) c (inl now) = now
only_now start (call ∷ calls) c (inr earlier) = absurd (omega (arith, earlier.0))

-- the images since this moment are those of now
pub memory_only_now : (disk : MemDiskState) (c : Image) → left_from disk (moment_of disk) c → leaves disk c
memory_only_now disk c left = only_now disk.start (newest_first disk.calls.noted) c left
