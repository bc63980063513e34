-- The last snapshot of a store.
use Rattle.std.specs.Prelude.{◌≡◌, ℕ, Bool, true, false, List, ◌∷◌, ◌++◌, Option, Some, None, Result, Ok, Err, ⊤}
use Rattle.std.specs.List.{list_any}
use Rattle.store_records.specs.Held.{open_from}
use Rattle.store_records.specs.Histories.{end_of, held}
use Rattle.store_records.specs.declared.rec.Rec.{Rec}
use Rattle.store_records.specs.declared.rec.Rec.TheVariants as kinds
use Rattle.topic_store.specs.declared.fault.StoreFault.{StoreFault}
use Rattle.topic_store.specs.declared.fault.StoreFault.TheVariants.{DiskFault, NoMemory}

-- whether the record is a snapshot
abbrev pub is_snap : Rec → Bool
is_snap (kinds.Snap points trans states) = true
is_snap r = false

-- the states of a snapshot
abbrev pub states_in : Rec → Option (List ℕ)
states_in (kinds.Snap points trans states) = Some states
states_in r = None

-- the last of the records that is a snapshot
pub record LastSnap (rs : List Rec) : Type 0 where
  pub before : List Rec
  pub points : ℕ
  pub trans : ℕ
  pub states : List ℕ
  pub behind : List Rec
  pub split : rs ≡ before ++ kinds.Snap points trans states ∷ behind
  pub none_behind : list_any is_snap behind ≡ false

-- the gate of the last snapshot's record, the numbers of the lives that are open at it, and its states
pub record IsLastSnap (rs : List Rec) (found : ℕ × List ℕ × List ℕ) : Type 0 where
  pub snap : LastSnap rs
  pub gate : found.0 ≡ end_of snap.before
  pub lives : found.1 ≡ open_from 1 (held snap.before).lives
  pub states : found.2 ≡ snap.states

-- the last snapshot among the records, None where there is none, unless the disk failed or memory ran out
abbrev pub SnapOrNot : List Rec → Result (Option (ℕ × List ℕ × List ℕ)) StoreFault → Type 0
SnapOrNot rs (Ok None) = list_any is_snap rs ≡ false
SnapOrNot rs (Ok (Some found)) = IsLastSnap rs found
SnapOrNot rs (Err DiskFault) = ⊤
SnapOrNot rs (Err NoMemory) = ⊤
SnapOrNot rs (Err fault) = ⊥

-- it is these states, unless the disk failed or memory ran out
abbrev pub StatesOrNot : List ℕ → Result (List ℕ) StoreFault → Type 0
StatesOrNot states (Ok found) = found ≡ states
StatesOrNot states (Err DiskFault) = ⊤
StatesOrNot states (Err NoMemory) = ⊤
StatesOrNot states (Err fault) = ⊥
