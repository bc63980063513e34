-- What a call of a disk in memory leaves of what is read, and of what a crash may leave.
use Rattle.std.proofs.Common.{◌≡◌, ◌⊎◌, inl, inr, ⊎_elim, ℕ, Bool, true, false, List, [], ◌∷◌, length, map, refl, sym, ◌∙◌, ap, subst, arith}
use Rattle.std.specs.Prelude.{cond}
use Rattle.std.specs.List.{filter}
use Rattle.std.proofs.Math.Path.{fun_ext}
use Rattle.std.proofs.lemmas.List.{reverse-append}
use Rattle.kap_io.specs.Disk.{Elapses, Follows, Image, Narrows, On, Reached, Stretched, Torn}
use Rattle.kap_io.specs.FileBytes.{FileBytes, file_of, same_part}
use Rattle.kap_io.specs.CallRecords.{Notes, with_call}
use Rattle.kap_io.specs.MemDisks.{Becomes, LeftSince, Leaves, MayLeave, changed, content, contents, newest_first, was_on, works}
use Rattle.kap_io.specs.MemDiskLaws.{leaves_content, stretched_same, torn_same}
use Rattle.kap_io.specs.declared.disk.Part.{Part}
use Rattle.kap_io.specs.declared.disk.Part.TheVariants.{Head, Left, Right}
use Rattle.kap_io.specs.declared.disk_work.DiskCall.{DiskCall}
use Rattle.kap_io.specs.declared.disk_work.DiskWork.{DiskWork}
use Rattle.kap_io.specs.declared.disk_work.DiskWork.TheVariants.{Size, Read, Write, Cut, Sync}

pub same_refl : (part : Part) → same_part part part ≡ true
same_refl Head = refl
same_refl Left = refl
same_refl Right = refl

pub same_other : (q part : Part) → (q ≡ part → ⊥) → same_part q part ≡ false
same_other Head Head apart = absurd (apart refl)
same_other Head Left apart = refl
same_other Head Right apart = refl
same_other Left Head apart = refl
same_other Left Left apart = absurd (apart refl)
same_other Left Right apart = refl
same_other Right Head apart = refl
same_other Right Left apart = refl
same_other Right Right apart = absurd (apart refl)

-- two parts are one, or they aren't
pub same_or : (q part : Part) → (q ≡ part) ⊎ (q ≡ part → ⊥)
same_or Head Head = inl refl
same_or Head Left = inr (λ e. cc)
same_or Head Right = inr (λ e. cc)
same_or Left Head = inr (λ e. cc)
same_or Left Left = inl refl
same_or Left Right = inr (λ e. cc)
same_or Right Head = inr (λ e. cc)
same_or Right Left = inr (λ e. cc)
same_or Right Right = inl refl

-- a call on the record is the newest
pub newest : (old new : List DiskCall) (part : Part) (work : DiskWork) (done : Bool) → new ≡ with_call old part work done
    → newest_first new ≡ record { part = part; work = work; done = done } ∷ newest_first old
newest old new part work done is = ap (λ (l : List DiskCall). newest_first l) is ∙ reverse-append old (record { part = part; work = work; done = done } ∷ [])

module _ (start : FileBytes) (part : Part) (work : DiskWork) (calls : List DiskCall) where
  works_here : works part (record { part = part; work = work; done = true } ∷ calls) ≡ work ∷ works part calls
  works_here =
      let call : DiskCall = record { part = part; work = work; done = true } in
      ap (λ (b : Bool). map (λ (c : DiskCall). c.work) (cond b (call ∷ filter (was_on part) calls) (filter (was_on part) calls))) (same_refl part)

  works_there : (q : Part) → (q ≡ part → ⊥) → works q (record { part = part; work = work; done = true } ∷ calls) ≡ works q calls
  works_there q apart =
      let call : DiskCall = record { part = part; work = work; done = true } in
      ap (λ (b : Bool). map (λ (c : DiskCall). c.work) (cond b (call ∷ filter (was_on q) calls) (filter (was_on q) calls))) (same_other q part apart)

  -- what its file holds then, and the others
  pub contents_here : contents start (record { part = part; work = work; done = true } ∷ calls) part ≡ changed work (contents start calls part)
  contents_here = ap (λ (w : List DiskWork). content (file_of start part) w) works_here

  pub contents_there : (q : Part) → (q ≡ part → ⊥) → contents start (record { part = part; work = work; done = true } ∷ calls) q ≡ contents start calls q
  contents_there q apart = ap (λ (w : List DiskWork). content (file_of start q) w) (works_there q apart)

  -- each image after it is one from before it, with what it does to its file
  pub came : (c : Image) → MayLeave start (record { part = part; work = work; done = true } ∷ calls) c
      → Reached (MayLeave start calls) (On part (Becomes work (contents start calls part))) c
  came c left = record {
    origin = λ q. (step q).0;
    was = λ q. (step q).1;
    how = record { step = (step part).2 refl; elsewhere = λ q apart. (step q).3 apart };
  }
    where
      Step : Part → Type 0
      Step q = (old : List ℕ) × Leaves (file_of start q) (works q calls) old × (q ≡ part → Becomes work (contents start calls part) old (c q))
          × ((q ≡ part → ⊥) → c q ≡ old)

      here : Step part
      here =
          let at_part = subst (λ (w : List DiskWork). Leaves (file_of start part) w (c part)) works_here (left part) in
          (at_part.0, at_part.1, λ same. at_part.2, λ apart. absurd (apart refl))

      there : (q : Part) → (q ≡ part → ⊥) → Step q
      there q apart = (
        c q,
        subst (λ (w : List DiskWork). Leaves (file_of start q) w (c q)) (works_there q apart) (left q),
        λ same. absurd (apart same),
        λ other. refl,
      )

      step : (q : Part) → Step q
      step q = ⊎_elim (λ same. subst (λ (p : Part). Step p) (sym same) here) (λ apart. there q apart) (same_or q part)

-- Calls that change nothing that is read, and add no image.
pub record Changeless (start : FileBytes) (old new : List DiskCall) : Type 0 where
  pub reads : contents start (newest_first new) ≡ contents start (newest_first old)
  pub images : Narrows (MayLeave start (newest_first old)) (MayLeave start (newest_first new))

-- a call that isn't on the record
pub changeless_none : (start : FileBytes) (old new : List DiskCall) → new ≡ old → Changeless start old new
changeless_none start old new same =
    subst (λ (l : List DiskCall). Changeless start old l) (sym same) (record { reads = refl; images = λ c left. left })

-- a call that failed
pub changeless_failed : (start : FileBytes) (old new : List DiskCall) (part : Part) (work : DiskWork) → Notes old new part work true → Changeless start old new
changeless_failed start old new part work (inr same) = changeless_none start old new same
changeless_failed start old new part work (inl is) = record {
  reads = ap (λ (l : List DiskCall). contents start l) (newest old new part work false is);
  images = λ c left. subst (λ (l : List DiskCall). MayLeave start l c) (newest old new part work false is) left;
}

-- a call that only reads, or syncs
abbrev pub IsStill : DiskWork → Type 0
IsStill Size = Unit {0}
IsStill (Read at count) = Unit {0}
IsStill (Write at piece) = ⊥
IsStill (Cut size) = ⊥
IsStill Sync = Unit {0}

still_changes : (work : DiskWork) (file : List ℕ) → IsStill work → changed work file ≡ file
still_changes Size file still = refl
still_changes (Read at count) file still = refl
still_changes (Write at piece) file still = absurd still
still_changes (Cut size) file still = absurd still
still_changes Sync file still = refl

still_leaves : (work : DiskWork) (start : List ℕ) (works : List DiskWork) (old new : List ℕ) → IsStill work → Leaves start works old
    → Becomes work (content start works) old new
    → Leaves start works new
still_leaves Size start works old new still left becomes = subst (λ (f : List ℕ). Leaves start works f) (sym becomes) left
still_leaves (Read at count) start works old new still left becomes = subst (λ (f : List ℕ). Leaves start works f) (sym becomes) left
still_leaves (Write at piece) start works old new still left becomes = absurd still
still_leaves (Cut size) start works old new still left becomes = absurd still
still_leaves Sync start works old new still left becomes = subst (λ (f : List ℕ). Leaves start works f) (sym becomes) (leaves_content start works)

pub changeless_still : (start : FileBytes) (old new : List DiskCall) (part : Part) (work : DiskWork) → IsStill work → new ≡ with_call old part work true
    → Changeless start old new
changeless_still start old new part work still is = record {
  reads = ap (λ (l : List DiskCall). contents start l) first ∙ fun_ext (λ q. reads_of q);
  images = λ c left. images_of c (subst (λ (l : List DiskCall). MayLeave start l c) first left);
}
  where
    calls : List DiskCall
    calls = newest_first old

    first : newest_first new ≡ record { part = part; work = work; done = true } ∷ newest_first old
    first = newest old new part work true is

    reads_of : (q : Part) → contents start (record { part = part; work = work; done = true } ∷ newest_first old) q ≡ contents start (newest_first old) q
    reads_of q = ⊎_elim
        (λ same. subst (λ (p : Part). contents start (record { part = part; work = work; done = true } ∷ newest_first old) p ≡ contents start
        (newest_first old) p) (sym same)
        (contents_here start part work (newest_first old) ∙ still_changes work _ still))
        (λ apart. contents_there start part work (newest_first old) q apart)
        (same_or q part)

    images_of : (c : Image) → MayLeave start (record { part = part; work = work; done = true } ∷ newest_first old) c → MayLeave start (newest_first old) c
    images_of c left q =
        let from = came start part work (newest_first old) c left in
        ⊎_elim
        (λ same. subst (λ (p : Part). Leaves (file_of start p) (works p (newest_first old)) (c p)) (sym same)
        (still_leaves work (file_of start part) (works part (newest_first old)) (from.origin part) (c part) still (from.was part) from.how.step))
        (λ apart. subst (λ (f : List ℕ). Leaves (file_of start q) (works q (newest_first old)) f) (sym (from.how.elsewhere q apart)) (from.was q))
        (same_or q part)

-- what a call that is done leaves in its file, in the others, and to a crash
module _ (start : FileBytes) (old new : List DiskCall) (part : Part) (work : DiskWork) (is : new ≡ with_call old part work true) where
  first : newest_first new ≡ record { part = part; work = work; done = true } ∷ newest_first old
  first = newest old new part work true is

  pub done_images : Follows part (Becomes work (contents start (newest_first old) part)) (MayLeave start (newest_first old)) (MayLeave start (newest_first new))
  done_images c left = came start part work (newest_first old) c (subst (λ (l : List DiskCall). MayLeave start l c) first left)

-- time goes on
abbrev Goes : FileBytes → List DiskCall → List DiskCall → Type 0
Goes start old new = Elapses (length old) (length new) (λ t c. LeftSince start t old c) (λ t c. LeftSince start t new c) (MayLeave start new)

goes_none : (start : FileBytes) (calls : List DiskCall) → Goes start calls calls
goes_none start calls = record { later = omega arith; nothing_else = λ t c le left. inl left; keeps = λ t c le left. left }

goes_one : (start : FileBytes) (call : DiskCall) (calls : List DiskCall) → Goes start calls (call ∷ calls)
goes_one start call calls = record {
  later = omega arith;
  nothing_else = λ t c le left. ⊎_elim (λ now. inr now) (λ earlier. inl earlier.1) left;
  keeps = λ t c le left. inr (le, left);
}

pub time_none : (start : FileBytes) (old new : List DiskCall) → new ≡ old → Goes start (newest_first old) (newest_first new)
time_none start old new same = subst (λ (l : List DiskCall). Goes start (newest_first old) (newest_first l)) (sym same) (goes_none start (newest_first old))

pub time_one : (start : FileBytes) (old new : List DiskCall) (part : Part) (work : DiskWork) (done : Bool) → new ≡ with_call old part work done
    → Goes start (newest_first old) (newest_first new)
time_one start old new part work done is =
    subst (λ (l : List DiskCall). Goes start (newest_first old) l) (sym (newest old new part work done is)) (goes_one start _ (newest_first old))

-- a write that isn't done
pub kept_write : (start : FileBytes) (old new : List DiskCall) (part : Part) (at n : ℕ) → Changeless start old new
    → Follows part (Torn at n) (MayLeave start (newest_first old)) (MayLeave start (newest_first new))
kept_write start old new part at n same c left = record {
  origin = c;
  was = same.images c left;
  how = record { step = torn_same at n (c part); elsewhere = λ q apart. refl };
}

-- a change of the length that isn't done
pub kept_cut : (start : FileBytes) (old new : List DiskCall) (part : Part) (n : ℕ) → Changeless start old new
    → Follows part (Stretched n) (MayLeave start (newest_first old)) (MayLeave start (newest_first new))
kept_cut start old new part n same c left = record {
  origin = c;
  was = same.images c left;
  how = record { step = stretched_same n (c part); elsewhere = λ q apart. refl };
}
