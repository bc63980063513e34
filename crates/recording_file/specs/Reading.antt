-- What a reader says of the points that it has given and of the bytes that it has read.
use Rattle.std.specs.Prelude.{◌≡◌, ◌⊎◌, ◌++◌, ◌∷◌, ◌+◌, ◌*◌, ◌≤◌, Bool, false, ℕ, Option, None, Some, List, [], IsTrue, length}
use Rattle.std.specs.Io.KnownBytes.{Consumes}
use Rattle.std.specs.List.{count_by}
use Rattle.recording_file.specs.Lines.{is_feed}
use Rattle.kap_base.specs.Points.{PointValue}
use Rattle.recording_file.specs.declared.fault.RecFault.{RecFault}
use Rattle.recording_file.specs.declared.fault.RecFault.TheVariants.{Line, Truncated, Long, ReadFault, NoMemory}
use Rattle.recording_file.specs.declared.lines.TheConstants.{RECORDING_LIMIT}
use Rattle.recording_file.specs.Recording.{Recording, Stop, Faulty, Undecided, reading_of, reading_so_far}

-- a reader: the points given so far, the bytes read so far, whether these are all, and whether a call has failed
pub record ReaderState : Type 0 where
  pub given : List PointValue
  pub got : List ℕ
  pub ended : Bool
  pub spent : Bool

-- a source that tells has nothing left
abbrev pub HasEnded : Option (List ℕ) → Option (List ℕ) → Type 0
HasEnded None after = Unit {0}
HasEnded (Some before) None = ⊥
HasEnded (Some before) (Some after) = after ≡ []

-- a call reads the next bytes of a source, behind those that were read; a source that has ended isn't asked again
pub record ReadsOn
    (old_got new_got : List ℕ) (was_ended is_ended : Bool)
    (before after : Option (List ℕ)) : Type 0 where
  pub piece : List ℕ
  pub got : new_got ≡ old_got ++ piece
  pub took : Consumes before after piece
  pub stays_ended : IsTrue was_ended → IsTrue is_ended
  pub none : IsTrue was_ended → piece ≡ []
  pub ends : IsTrue is_ended → IsTrue was_ended ⊎ HasEnded before after

-- so a call of a reader reads
abbrev pub ReaderReads : ReaderState → ReaderState → Option (List ℕ) → Option (List ℕ) → Type 0
ReaderReads old new before after = ReadsOn old.got new.got old.ended new.ended before after

-- whatever may follow the bytes that were read, reading them all gives these points first
pub record BeginsWith
    (reader : ReaderState) (points : List PointValue) (more : List ℕ) : Type 0 where
  pub others : List PointValue
  pub all : (reading_of (reader.got ++ more)).points ≡ points ++ others

-- a point was given: it is the next one, whatever may follow the bytes that were read
pub record Gives (old new : ReaderState) (p : PointValue) : Type 0 where
  pub given : new.given ≡ old.given ++ p ∷ []
  pub few : length new.given ≤ RECORDING_LIMIT
  pub next : (more : List ℕ) → (IsTrue new.ended → more ≡ []) → BeginsWith new new.given more

-- the three lines of the group behind those of the points that were given are closed by line feeds in the bytes that
-- were read, or these are all
abbrev pub HoldsGroup : ReaderState → Type 0
HoldsGroup reader =
    IsTrue reader.ended ⊎ (3 * (1 + length reader.given) ≤ count_by is_feed reader.got)

-- a reader that holds the next group leaves the source as it was
pub record LeavesSource {S : Type 0} (reader : ReaderState) (before after : S) : Type 0 where
  pub held : HoldsGroup reader → after ≡ before

-- the source has ended, what it gave is a recording, and its points were given
pub record GaveAll (old new : ReaderState) : Type 0 where
  pub given : new.given ≡ old.given
  pub ended : IsTrue new.ended
  pub whole : Recording new.got new.given

-- whatever may follow the bytes that were read, reading them all stops so behind the points that were given
abbrev pub StopsAt : ReaderState → Stop → Type 0
StopsAt reader stop =
    (more : List ℕ) → (IsTrue reader.ended → more ≡ [])
    → reading_of (reader.got ++ more) ≡ record { points = reader.given; stop = stop }

-- the source failed, and the bytes that were read don't decide how reading goes on behind the points that were given
pub record StaysOpen (reader : ReaderState) : Type 0 where
  pub not_ended : reader.ended ≡ false
  pub undecided : reading_so_far reader.got ≡ record { points = reader.given; stop = Undecided }

-- why no point was given
abbrev pub StopsBy : ReaderState → RecFault → Type 0
StopsBy reader (Line n fault) = StopsAt reader (Faulty (Line n fault))
StopsBy reader (Truncated n) = StopsAt reader (Faulty (Truncated n))
StopsBy reader Long = StopsAt reader (Faulty Long)
StopsBy reader ReadFault = StaysOpen reader
StopsBy reader NoMemory = Unit {0}

-- a call failed, so: no point was given
pub record Fails (old new : ReaderState) (fault : RecFault) : Type 0 where
  pub given : new.given ≡ old.given
  pub why : StopsBy new fault

-- what a reader has read of a source: the bytes that it has got, and all of them where the source has ended
pub record HasRead (reader : ReaderState) (before after : Option (List ℕ)) : Type 0 where
  pub took : Consumes before after reader.got
  pub ends : IsTrue reader.ended → HasEnded before after
