-- Points that a reader gives, one after the other, until an epoch ends.
use Rattle.std.specs.Prelude.{◌≡◌, ◌<◌, ◌≤◌, ◌++◌, false, ℕ, List, [], ◌∷◌, Option, None, Some, IsTrue, length}
use Rattle.kap_base.specs.Points.{PointValue}
use Rattle.kap_base.specs.Words.{HasRisen}
use Rattle.net_run.specs.declared.TheConstants.{EPOCH_LIMIT}
use Rattle.recording_file.specs.declared.fault.RecFault.TheVariants.{ReadFault}
use Rattle.recording_file.specs.declared.lines.TheConstants.{RECORDING_LIMIT}
use Rattle.recording_file.specs.Reading.{BeginsWith, Fails, GaveAll, HasRead, ReaderReads, ReaderState}
use Rattle.kap_server.specs.declared.reading.Epoch.{Epoch}
use Rattle.kap_server.specs.declared.reading.Pause.{Pause}
use Rattle.kap_server.specs.declared.reading.Pause.TheVariants.{More, End, Fault}

-- whatever may follow the bytes that were read, reading them all gives these points first
abbrev pub GaveFirst : ReaderState → Type 0
GaveFirst reader = (more : List ℕ) → (IsTrue reader.ended → more ≡ []) → BeginsWith reader reader.given more

-- a reader gave these points, one after the other, while it read its source on
pub record GavePoints (a b : ReaderState) (t u : Option (List ℕ)) (points : List PointValue) : Type 0 where
  pub read : (s : Option (List ℕ)) → HasRead a s t → HasRead b s u
  pub given : b.given ≡ a.given ++ points
  pub first : GaveFirst a → GaveFirst b

-- the reader can go on
pub record GoesOn (a b : ReaderState) (t u : Option (List ℕ)) (points : List PointValue) : Type 0 where
  pub gave : GavePoints a b t u points
  pub unspent : b.spent ≡ false
  pub some : 0 < length points
  pub few : length b.given ≤ RECORDING_LIMIT

-- behind the points the reader gave none, for this reason
pub record StopsBehind (a b : ReaderState) (t u : Option (List ℕ)) (points : List PointValue) (why : ReaderState
    → ReaderState → Type 0) : Type 0 where
  pub last : ReaderState
  pub left : Option (List ℕ)
  pub gave : GavePoints a last t left points
  pub reads : ReaderReads last b left u
  pub stops : why last b

-- an epoch has these points, and ends so
abbrev pub Pauses : Pause → ReaderState → ReaderState → Option (List ℕ) → Option (List ℕ) → List PointValue → Type 0
Pauses More a b t u points = GoesOn a b t u points
Pauses End a b t u points = StopsBehind a b t u points GaveAll
Pauses (Fault fault) a b t u points = StopsBehind a b t u points (λ last b. Fails last b fault)

-- an epoch of few points was read, and a read fault ends it only where the source's count of faults rose
pub record IsEpoch (before now : ReaderState) (t u : Option (List ℕ)) (faults_before faults : ℕ) (e : Epoch) : Type 0 where
  pub pauses : Pauses e.pause before now t u e.points.items
  pub few : length e.points.items ≤ EPOCH_LIMIT
  pub rose : e.pause ≡ Fault ReadFault → HasRisen faults_before faults

-- Between the two the reader has read the next epoch ahead, or nothing. It has asked no source: whatever is left of its
-- own is left.
abbrev pub IsAhead : ReaderState → ReaderState → Option Epoch → Type 0
IsAhead before now None = now ≡ before
IsAhead before now (Some e) = (t : Option (List ℕ)) (faults : ℕ) → IsEpoch before now t t faults faults e

-- a byte is left of a source
abbrev pub IsLeft : Option (List ℕ) → Type 0
IsLeft s = s ≡ Some (0 ∷ [])
