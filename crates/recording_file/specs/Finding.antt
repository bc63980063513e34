-- How the next line of a recording is found among the bytes that were read.
use Rattle.std.specs.Prelude.{◌≡◌, ◌⊎◌, ℕ, ◌+◌, ◌-◌, ◌<◌, ◌≤◌, Bool, true, false, Option, IsTrue, min, List, [], ◌++◌, length, drop, take}
use Rattle.std.specs.List.{count_by, position_or_len}
use Rattle.line_points.specs.declared.fault.LineFault.TheVariants as faults
use Rattle.line_points.specs.Body.{without_return}
use Rattle.recording_file.specs.declared.fault.RecFault.{RecFault}
use Rattle.recording_file.specs.declared.fault.RecFault.TheVariants as rec_faults
use Rattle.recording_file.specs.declared.lines.TheConstants.{RECORDING_LIMIT}
use Rattle.recording_file.specs.Lines.{is_feed, is_long}
use Rattle.recording_file.specs.Reading.{ReadsOn}

-- the bytes that were read and not yet passed, all bytes that were read, the number of the next line, how many bytes
-- were passed, and whether the source has ended, so that it isn't asked again
pub record ReadPlace : Type 0 where
  pub bytes : List ℕ
  pub got : List ℕ
  pub line : ℕ
  pub passed : ℕ
  pub ended : Bool

-- a call reads a piece of the source behind the bytes that were there, and asks a source that has ended no more
abbrev pub Reads : ReadPlace → ReadPlace → Option (List ℕ) → Option (List ℕ) → Type 0
Reads old new before after = ReadsOn old.got new.got old.ended new.ended before after

-- the next lines, so many, are closed by line feeds in the bytes that were read, or these are all
abbrev pub HoldsLines : ℕ → ReadPlace → Type 0
HoldsLines n at = IsTrue at.ended ⊎ (at.line + n ≤ count_by is_feed at.got + 1)

-- it reads, and passes no line
pub record Stays (old new : ReadPlace) (before after : Option (List ℕ)) : Type 0 where
  pub reads : Reads old new before after
  pub bytes : new.bytes ≡ old.bytes ++ reads.piece
  pub line : new.line ≡ old.line
  pub passed : new.passed ≡ old.passed

-- it reads to the source's end, where no line is left
pub record FindsEnd (old new : ReadPlace) (before after : Option (List ℕ)) : Type 0 where
  pub stays : Stays old new before after
  pub bytes : new.bytes ≡ []
  pub ended : IsTrue new.ended

-- how many bytes may still be passed
abbrev pub room : ReadPlace → ℕ
room at = RECORDING_LIMIT - at.passed

-- how many bytes a line of this size takes, with its line feed where it has one
abbrev pub size_with_feed : ℕ → List ℕ → ℕ
size_with_feed size bytes = min (size + 1) (length bytes)

-- the next line has this size, and it and its line feed may be passed
pub record IsLine (at : ReadPlace) (size : ℕ) : Type 0 where
  pub ends : size ≡ position_or_len is_feed at.bytes
  pub within : size ≤ length at.bytes
  pub some : 0 < length at.bytes
  pub fits : size_with_feed size at.bytes ≤ room at
  pub last : size ≡ length at.bytes → IsTrue at.ended

-- the next line was passed
pub record Passes (old new : ReadPlace) (size : ℕ) : Type 0 where
  pub bytes : new.bytes ≡ drop (size + 1) old.bytes
  pub got : new.got ≡ old.got
  pub line : new.line ≡ old.line + 1
  pub passed : new.passed ≡ old.passed + size_with_feed size old.bytes
  pub ended : new.ended ≡ old.ended

-- more bytes were passed, and not more than a recording has
pub record CountRises (old new : ReadPlace) : Type 0 where
  pub more : old.passed < new.passed
  pub within : new.passed ≤ RECORDING_LIMIT

-- the first bytes of the next line, which may be passed and have no line feed, are too many for a line
pub record IsTooLong (at : ReadPlace) : Type 0 where
  pub size : ℕ
  pub no_feed : size ≤ position_or_len is_feed at.bytes
  pub there : size ≤ length at.bytes
  pub within : size ≤ room at
  pub long : is_long (without_return (take size at.bytes)) ≡ true

-- the next line isn't ended within the limit, and more follows; what stands within isn't too long for a line
pub record IsPastLimit (at : ReadPlace) : Type 0 where
  pub no_feed : room at ≤ position_or_len is_feed at.bytes
  pub more : room at < length at.bytes
  pub short : is_long (without_return (take (room at) at.bytes)) ≡ false

-- the bytes that are there don't end the next line, and it may go on
pub record IsUndecided (at : ReadPlace) : Type 0 where
  pub no_feed : position_or_len is_feed at.bytes ≡ length at.bytes
  pub fits : length at.bytes ≤ room at
  pub short : is_long (without_return at.bytes) ≡ false

-- no next line is found, and why: it is too long, or the recording is, or the source failed before that could be told
abbrev pub FindsNone : ReadPlace → RecFault → Type 0
FindsNone at (rec_faults.Line n fault) = (n ≡ at.line) × (fault ≡ faults.Long) × IsTooLong at
FindsNone at (rec_faults.Truncated n) = ⊥
FindsNone at rec_faults.Long = IsPastLimit at
FindsNone at rec_faults.ReadFault = IsUndecided at × (at.ended ≡ false)
FindsNone at rec_faults.NoMemory = Unit {0}
