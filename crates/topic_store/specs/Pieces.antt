-- Points and transitions, in pieces.
use Rattle.std.specs.Prelude.{◌≡◌, ◌⊎◌, ℕ, ◌+◌, ◌-◌, List, ◌++◌, length, take, drop, Result, Ok, Err, ⊤}
use Rattle.std.specs.List.{flat_map}
use Rattle.store_records.specs.Histories.{end_of, first_gate}
use Rattle.store_records.specs.declared.rec.Rec.{Rec}
use Rattle.topic_store.specs.declared.fault.StoreFault.{StoreFault}
use Rattle.topic_store.specs.declared.fault.StoreFault.TheVariants.{DiskFault, NoMemory}
use Rattle.topic_store.specs.declared.pieces.Start.{Start}

-- the piece of a list behind a number: of what lies behind so many, the first 4,096, or all where there are no more
abbrev pub piece_behind : {T : Type 0} → ℕ → List T → List T
piece_behind number items = take 4096 (drop number items)

-- it is this piece, unless the disk failed or memory ran out
abbrev pub PieceOrNot : {T : Type 0} → List T → Result (List T) StoreFault → Type 0
PieceOrNot piece (Ok found) = found ≡ piece
PieceOrNot piece (Err DiskFault) = ⊤
PieceOrNot piece (Err NoMemory) = ⊤
PieceOrNot piece (Err fault) = ⊥

-- What the records store behind the number is what those from the start's gate on store behind the first `skip`.
pub record LeadsTo {T : Type 0} (stored : Rec → List T) (rs : List Rec) (number : ℕ) (start : Start) : Type 0 where
  pub before : List Rec
  pub behind : List Rec
  pub split : rs ≡ before ++ behind
  pub at_gate : start.gate ≡ end_of before
  pub number_is : number ≡ length (flat_map stored before) + start.skip

-- a start behind a number: at a gate before which so many are stored, or at the first gate
abbrev pub IsFrom : ℕ → ℕ → ℕ → Start → Type 0
IsFrom gate before number start =
    ((start.gate ≡ gate) × (number ≡ before + start.skip)) ⊎ ((start.gate ≡ first_gate) × (start.skip ≡ number))

-- Of the records from the start's gate on some were read: the piece has what they store behind the first `skip`, as far
-- as it is wanted, and of what those behind them store the first `left` are still to be skipped.
pub record HasPassed {T : Type 0} (stored : Rec → List T) (before behind : List Rec) (skip wanted gate left : ℕ)
    (piece : List T) : Type 0 where
  pub passed : List Rec
  pub rest : List Rec
  pub split : behind ≡ passed ++ rest
  pub at_gate : gate ≡ end_of (before ++ passed)
  pub piece_is : piece ≡ take wanted (drop skip (flat_map stored passed))
  pub left_is : left ≡ skip - length (flat_map stored passed)
