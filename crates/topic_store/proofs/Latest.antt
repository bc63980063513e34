-- The last snapshot among records.
use Rattle.std.proofs.Common.{◌≡◌, ◌⊎◌, inl, inr, ⊎_elim, ℕ, List, [], ◌∷◌, refl, sym, ap, ◌∙◌}
use Rattle.std.specs.Prelude.{false, Option, Some, None, Err}
use Rattle.std.specs.List.{list_any}
use Rattle.store_records.specs.Held.{Held, after, nothing, open_from}
use Rattle.store_records.specs.Histories.{end_from, first_gate, held, held_from, next_gate}
use Rattle.store_records.specs.declared.rec.Rec.{Rec}
use Rattle.store_records.specs.declared.rec.Rec.TheVariants as kinds
use Rattle.store_records.specs.declared.task.Life.{Life}
use Rattle.store_records.specs.declared.task.Snapshot.{Snapshot}
use Rattle.topic_store.specs.Snapshots.{IsLastSnap, LastSnap, SnapOrNot, StatesOrNot, is_snap}
use Rattle.topic_store.specs.declared.fault.StoreFault.{StoreFault}
use Rattle.topic_store.specs.declared.fault.StoreFault.TheVariants.{NotStore, DiskFault, Long, NoMemory}

-- the snapshot that a record is
abbrev snap_with : ℕ → ℕ → ℕ → List Life → Snapshot
snap_with at points trans lives = record { at = at; points = points; transitions = trans; lives = open_from 1 lives }

-- the last snapshot among records, the first of whose gates stands at this offset, is this one
record Latest (h : Held) (at : ℕ) (rs : List Rec) (s : Snapshot) : Type 0 where
  pub snap : LastSnap rs
  pub is : s ≡ snap_with (end_from at snap.before) snap.points snap.trans (held_from h at snap.before).lives

-- there is none among them, or it is the last one
abbrev Kept : Held → ℕ → List Rec → Option Snapshot → Type 0
Kept h at rs snap = ((snap ≡ h.snap) × (list_any is_snap rs ≡ false)) ⊎ ((s : Snapshot) × (snap ≡ Some s) × Latest h at rs s)

-- one record more in front, which is no snapshot
module _ (h : Held) (at : ℕ) (r : Rec) (rs : List Rec) (other : is_snap r ≡ false) (same : (after h at r).snap ≡ h.snap) where
  one_more : (s : Snapshot) → Latest (after h at r) (next_gate at r) rs s → Latest h at (r ∷ rs) s
  one_more s latest = record {
    snap = record {
      before = r ∷ latest.snap.before;
      points = latest.snap.points;
      trans = latest.snap.trans;
      states = latest.snap.states;
      behind = latest.snap.behind;
      split = ap (λ (l : List Rec). r ∷ l) latest.snap.split;
      none_behind = latest.snap.none_behind;
    };
    is = latest.is;
  }

  behind_other : (snap : Option Snapshot) → Kept (after h at r) (next_gate at r) rs snap → Kept h at (r ∷ rs) snap
  behind_other snap kept = ⊎_elim (λ old. inl (old.0 ∙ same, rw (other, old.1) refl)) (λ new. inr (new.0, new.1, one_more new.0 new.2)) kept

behind_snap : (h : Held) (at points trans : ℕ) (states : List ℕ) (rs : List Rec) (snap : Option Snapshot)
    → Kept (after h at (kinds.Snap points trans states)) (next_gate at (kinds.Snap points trans states)) rs snap
    → Kept h at (kinds.Snap points trans states ∷ rs) snap
behind_snap h at points trans states rs snap kept = ⊎_elim
    (λ old. inr (
      snap_with at points trans h.lives,
      old.0,
      record {
        snap = record { before = []; points = points; trans = trans; states = states; behind = rs; split = refl; none_behind = old.1 };
        is = refl;
      },
    ))
    (λ new. inr (
      new.0,
      new.1,
      record {
        snap = record {
          before = kinds.Snap points trans states ∷ new.2.snap.before;
          points = new.2.snap.points;
          trans = new.2.snap.trans;
          states = new.2.snap.states;
          behind = new.2.snap.behind;
          split = ap (λ (l : List Rec). kinds.Snap points trans states ∷ l) new.2.snap.split;
          none_behind = new.2.snap.none_behind;
        };
        is = new.2.is;
      },
    )) kept

kept_from : (h : Held) (at : ℕ) (rs : List Rec) → Kept h at rs (held_from h at rs).snap
kept_from h at [] = inl (refl, refl)
kept_from h at (kinds.Define id script enabled ∷ rs) = behind_other h at (kinds.Define id script enabled) rs refl refl _ (kept_from (after h at (kinds.Define id script enabled)) (next_gate at (kinds.Define id script enabled)) rs)
kept_from h at (kinds.Enable id ∷ rs) = behind_other h at (kinds.Enable id) rs refl refl _ (kept_from (after h at (kinds.Enable id)) (next_gate at (kinds.Enable id)) rs)
kept_from h at (kinds.Disable id ∷ rs) = behind_other h at (kinds.Disable id) rs refl refl _ (kept_from (after h at (kinds.Disable id)) (next_gate at (kinds.Disable id)) rs)
kept_from h at (kinds.Delete id ∷ rs) = behind_other h at (kinds.Delete id) rs refl refl _ (kept_from (after h at (kinds.Delete id)) (next_gate at (kinds.Delete id)) rs)
kept_from h at (kinds.Batch db rp points ∷ rs) = behind_other h at (kinds.Batch db rp points) rs refl refl _ (kept_from (after h at (kinds.Batch db rp points)) (next_gate at (kinds.Batch db rp points)) rs)
kept_from h at (kinds.Trans transitions ∷ rs) = behind_other h at (kinds.Trans transitions) rs refl refl _ (kept_from (after h at (kinds.Trans transitions)) (next_gate at (kinds.Trans transitions)) rs)
kept_from h at (kinds.Snap points trans states ∷ rs) = behind_snap h at points trans states rs _ (kept_from (after h at (kinds.Snap points trans states)) (next_gate at (kinds.Snap points trans states)) rs)

-- no snapshot is kept
pub none_kept : (rs : List Rec) → (held rs).snap ≡ None → list_any is_snap rs ≡ false
none_kept rs none = ⊎_elim (λ old. old.1) (λ new. absurd (cc (none, new.1))) (kept_from nothing first_gate rs)

-- what is kept of the last snapshot
pub record IsLatest (rs : List Rec) (s : Snapshot) : Type 0 where
  pub snap : LastSnap rs
  pub is : s ≡ snap_with (end_from first_gate snap.before) snap.points snap.trans (held snap.before).lives

same_some : (s t : Snapshot) → Some s ≡ Some t → s ≡ t
same_some s t e = cc

pub latest : (rs : List Rec) (s : Snapshot) → (held rs).snap ≡ Some s → IsLatest rs s
latest rs s some = ⊎_elim (λ old. absurd (cc (some, old.0)))
    (λ new. record { snap = new.2.snap; is = same_some s new.0 (sym some ∙ new.1) ∙ new.2.is }) (kept_from nothing first_gate rs)

-- ---- what is read of it

pub snap_fault : (rs : List Rec) (states : List ℕ) (fault : StoreFault) → StatesOrNot states (Err fault) → SnapOrNot rs (Err fault)
snap_fault rs states (NotStore part offset) found = found
snap_fault rs states DiskFault found = tt
snap_fault rs states Long found = found
snap_fault rs states NoMemory found = tt

pub snap_there : (rs : List Rec) (s : Snapshot) (is : IsLatest rs s) (lives states : List ℕ) → lives ≡ s.lives → states ≡ is.snap.states
    → IsLastSnap rs (s.at, lives, states)
snap_there rs s is lives states lives_are states_are = record {
  snap = is.snap;
  gate = ap (λ (t : Snapshot). t.at) is.is;
  lives = lives_are ∙ ap (λ (t : Snapshot). t.lives) is.is;
  states = states_are;
}
