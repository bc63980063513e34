-- What the records behind a place leave as it is.
use Rattle.std.proofs.Common.{◌≡◌, ◌⊎◌, inl, inr, ⊎_elim, ℕ, ◌<◌, ◌≤◌, Bool, true, false, ◌&&◌, cond, List, [], ◌∷◌, length, Option, Some, refl, ◌∙◌, arith}
use Rattle.std.specs.Prelude.{◌==◌}
use Rattle.std.specs.List.{AllByRecursion as Each}
use Rattle.std.specs.Str.{bytes_eq}
use Rattle.std.proofs.lemmas.Bool.Decides.{nat_tests}
use Rattle.kap_base.proofs.TestLaws.{first_false, second_false}
use Rattle.store_records.specs.Held.{Held, after, begun, end_life, ended, is_called, is_enabled, later_of, snap_in, tasks_after}
use Rattle.store_records.specs.Histories.{held_from, next_gate}
use Rattle.store_records.specs.declared.rec.Rec.{Rec}
use Rattle.store_records.specs.declared.rec.Rec.TheVariants as kinds
use Rattle.store_records.specs.declared.task.Life.{Life}
use Rattle.store_records.specs.declared.task.Snapshot.{Snapshot}
use Rattle.store_records.specs.declared.task.StoredTask.{StoredTask}
use Rattle.store_compact.specs.Staying.{has_lived, is_there}
use Rattle.store_compact.proofs.Lives.{lived_end, lived_front}
use Rattle.store_compact.proofs.Tasks.{each_found, each_putting, each_removing, each_setting}

-- ---- a life that was

lived_if : (at : ℕ) (b : Bool) (id : List ℕ) (n : ℕ) (ls : List Life) → has_lived at (cond b (end_life id n ls) ls) ≡ has_lived at ls
lived_if at true id n ls = lived_end at id n ls
lived_if at false id n ls = refl

lived_ended : (at n : ℕ) (r : Rec) (tasks : List StoredTask) (ls : List Life) → has_lived at (ended n r tasks ls) ≡ has_lived at ls
lived_ended at n (kinds.Define id script enabled) tasks ls = refl
lived_ended at n (kinds.Enable id) tasks ls = refl
lived_ended at n (kinds.Disable id) tasks ls = lived_if at (is_enabled id tasks) id n ls
lived_ended at n (kinds.Delete id) tasks ls = lived_if at (is_enabled id tasks) id n ls
lived_ended at n (kinds.Batch db rp points) tasks ls = refl
lived_ended at n (kinds.Trans transitions) tasks ls = refl
lived_ended at n (kinds.Snap points trans states) tasks ls = refl

-- it was behind one more record
pub lived_after : (at : ℕ) (h : Held) (gate : ℕ) (r : Rec) → has_lived at h.lives ≡ true → has_lived at (after h gate r).lives ≡ true
lived_after at h gate r lived = lived_front at (ended (length h.points) r h.tasks h.lives) (begun (length h.points) gate r h.tasks)
    (lived_ended at (length h.points) r h.tasks h.lives ∙ lived)

pub lived_later : (at : ℕ) (h : Held) (gate : ℕ) (rs : List Rec) → has_lived at h.lives ≡ true → has_lived at (held_from h gate rs).lives ≡ true
lived_later at h gate [] lived = lived
lived_later at h gate (r ∷ rs) lived = lived_later at (after h gate r) (next_gate gate r) rs (lived_after at h gate r lived)

-- ---- a task that is gone

same_number : (a b : ℕ) → (a == b) ≡ true → a ≡ b
same_number a b e = grind (arith, nat_tests)

pub other_number : (a b : ℕ) → a < b → (b == a) ≡ false
other_number a b lt = grind (arith, nat_tests)

pub own_number : (a : ℕ) → (a == a) ≡ true
own_number a = grind (arith, nat_tests)

-- the task isn't the one of this id that the record at this offset defined
abbrev pub IsOther : List ℕ → ℕ → StoredTask → Type 0
IsOther id at task = (is_called id task && (task.define_at == at)) ≡ false

pub not_there : (id : List ℕ) (at : ℕ) (xs : List StoredTask) → Each (IsOther id at) xs → is_there id at xs ≡ false
not_there id at [] each = refl
not_there id at (x ∷ xs) each = rw each.0 (not_there id at xs each.1)

others_of : (id : List ℕ) (at : ℕ) (xs : List StoredTask) → is_there id at xs ≡ false → Each (IsOther id at) xs
others_of id at [] none = tt
others_of id at (x ∷ xs) none =
    (first_false (is_called id x && (x.define_at == at)) (is_there id at xs) none, others_of id at xs (second_false (is_called id x && (x.define_at == at)) (is_there id at xs) none))

pub both_false : (a b : Bool) → b ≡ false → (a && b) ≡ false
both_false true b e = e
both_false false b e = refl

module _ (id : List ℕ) (at : ℕ) where
  gone_after : (gate : ℕ) (r : Rec) (tasks : List StoredTask) → at < gate → Each (IsOther id at) tasks → Each (IsOther id at) (tasks_after gate r tasks)
  gone_after gate (kinds.Define name script enabled) tasks lt each =
      each_putting (IsOther id at) (record { id = name; script = script; enabled = enabled; define_at = gate }) tasks (both_false (bytes_eq name id) (gate == at) (other_number at gate lt)) each
  gone_after gate (kinds.Enable name) tasks lt each = each_setting (IsOther id at) name true tasks (λ t there. each_found (IsOther id at) name tasks t there each) each
  gone_after gate (kinds.Disable name) tasks lt each = each_setting (IsOther id at) name false tasks (λ t there. each_found (IsOther id at) name tasks t there each) each
  gone_after gate (kinds.Delete name) tasks lt each = each_removing (IsOther id at) name tasks each
  gone_after gate (kinds.Batch db rp points) tasks lt each = each
  gone_after gate (kinds.Trans transitions) tasks lt each = each
  gone_after gate (kinds.Snap points trans states) tasks lt each = each

  gone_from : (h : Held) (gate : ℕ) (rs : List Rec) → at < gate → Each (IsOther id at) h.tasks → Each (IsOther id at) (held_from h gate rs).tasks
  gone_from h gate [] lt each = each
  gone_from h gate (r ∷ rs) lt each = gone_from (after h gate r) (next_gate gate r) rs (omega (arith, lt)) (gone_after gate r h.tasks lt each)

  -- it doesn't come again
  pub gone_later : (h : Held) (gate : ℕ) (rs : List Rec) → at < gate → is_there id at h.tasks ≡ false → is_there id at (held_from h gate rs).tasks ≡ false
  gone_later h gate rs lt none = not_there id at (held_from h gate rs).tasks (gone_from h gate rs lt (others_of id at h.tasks none))

-- ---- the last snapshot

-- it is the same, or one behind this gate
pub record HasLater (gate : ℕ) (snap : Option Snapshot) : Type 0 where
  pub last : Snapshot
  pub is : snap ≡ Some last
  pub behind : gate ≤ last.at

pub snap_later : (h : Held) (gate : ℕ) (rs : List Rec) → ((held_from h gate rs).snap ≡ h.snap) ⊎ HasLater gate (held_from h gate rs).snap
snap_later h gate [] = inl refl
snap_later h gate (r ∷ rs) = ⊎_elim
    (λ same. of_first r same)
    (λ late. inr (record { last = late.last; is = late.is; behind = omega (arith, late.behind) }))
    (snap_later (after h gate r) (next_gate gate r) rs)
  where
    whole : Option Snapshot
    whole = (held_from (after h gate r) (next_gate gate r) rs).snap

    of_first : (q : Rec) → whole ≡ later_of (snap_in gate q h.lives) h.snap → (whole ≡ h.snap) ⊎ HasLater gate whole
    of_first (kinds.Define id script enabled) same = inl same
    of_first (kinds.Enable id) same = inl same
    of_first (kinds.Disable id) same = inl same
    of_first (kinds.Delete id) same = inl same
    of_first (kinds.Batch db rp points) same = inl same
    of_first (kinds.Trans transitions) same = inl same
    of_first (kinds.Snap points trans states) same = inr (record { last = _; is = same; behind = omega arith })
