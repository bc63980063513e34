-- What stands after a replay.
use Rattle.std.specs.Prelude.{◌≡◌, ◌⊎◌, ◌++◌, ℕ, List, [], Option, None, Some, IsTrue}
use Rattle.std.specs.Io.KnownBytes.{Appends, Consumes}
use Rattle.kap_base.specs.Points.{PointValue}
use Rattle.kap_base.specs.Words.{HasRisen}
use Rattle.kap_io.specs.Pieces.{AppendsPrefix}
use Rattle.recording_file.specs.declared.fault.RecFault.TheVariants as faults
use Rattle.recording_file.specs.Reading.{ReaderState, HasRead, BeginsWith}
use Rattle.recording_file.specs.Recording.{Stop, Ended, Faulty, Undecided, reading_of, reading_so_far}
use Rattle.kap_server.specs.declared.status.Status.{Status}
use Rattle.kap_server.specs.declared.status.Status.TheVariants.{Ok, Usage, Script, Line, Truncated, NotStore, NoTask, Exists, TooManyTasks, TooLong, NoMemory, ReadFault, WriteFault, DiskFault}

-- a text of points
abbrev pub TextOf : Type 0
TextOf = List PointValue → List ℕ

-- reading the whole input stops so, and the text of all its points was appended
abbrev pub Writes : TextOf → Option (List ℕ) → Option (List ℕ) → Option (List ℕ) → Stop → Type 0
Writes text None w v stop = Unit {0}
Writes text (Some input) w v stop =
    ((reading_of input).stop ≡ stop) × Appends w v (text (reading_of input).points)

-- the text of points, and of a whole recording the rest behind it
abbrev pub due_of : TextOf → TextOf → List PointValue → Stop → List ℕ
due_of text rest points Ended = text points ++ rest points
due_of text rest points (Faulty fault) = text points
due_of text rest points Undecided = text points

-- a prefix of what is due of the whole input was appended
abbrev pub WritesPrefix : TextOf → TextOf → Option (List ℕ) → Option (List ℕ) → Option (List ℕ) → Type 0
WritesPrefix text rest None w v = Unit {0}
WritesPrefix text rest (Some input) w v =
    AppendsPrefix w v (due_of text rest (reading_of input).points (reading_of input).stop)

-- the bytes that were read don't decide how reading goes on, and the text of the points in them was appended
pub record WritesSoFar (text : TextOf) (s t w v : Option (List ℕ)) : Type 0 where
  pub got : List ℕ
  pub took : Consumes s t got
  pub undecided : (reading_so_far got).stop ≡ Undecided
  pub written : Appends w v (text (reading_so_far got).points)

-- By the status, where s and t are what was left of the input before and after, and w and v what was written: at Ok the
-- input ends between two groups, and the text of its points was appended, and then the rest; at a fault of the input
-- that is its first fault, and the text of the points before it was appended; after a read fault that of the points
-- that were read; after a write fault, and after want of memory, a prefix of what is due.
abbrev pub Replayed : TextOf → TextOf → Status → Option (List ℕ) → Option (List ℕ) → Option (List ℕ) → Option (List ℕ)
    → Type 0
Replayed text rest Ok s t w v = Writes (λ points. text points ++ rest points) s w v Ended
Replayed text rest Usage s t w v = ⊥
Replayed text rest (Script fault) s t w v = ⊥
Replayed text rest (Line n fault) s t w v = Writes text s w v (Faulty (faults.Line n fault))
Replayed text rest (Truncated n) s t w v = Writes text s w v (Faulty (faults.Truncated n))
Replayed text rest (NotStore part offset) s t w v = ⊥
Replayed text rest Exists s t w v = ⊥
Replayed text rest NoTask s t w v = ⊥
Replayed text rest TooManyTasks s t w v = ⊥
Replayed text rest TooLong s t w v = Writes text s w v (Faulty faults.Long)
Replayed text rest NoMemory s t w v = WritesPrefix text rest s w v
Replayed text rest ReadFault s t w v = WritesSoFar text s t w v
Replayed text rest WriteFault s t w v = WritesPrefix text rest s w v
Replayed text rest DiskFault s t w v = ⊥

-- ---- on the way

-- the text of more points begins with that of the first ones
abbrev pub Grows : TextOf → Type 0
Grows text = (points others : List PointValue) → (more : List ℕ) × (text (points ++ others) ≡ text points ++ more)

-- the text of points behind others was added to what is due
pub record AddsText (text : TextOf) (points new : List PointValue) (due due_after : List ℕ) : Type 0 where
  pub lines : List ℕ
  pub added : due_after ≡ due ++ lines
  pub are : text (points ++ new) ≡ text points ++ lines

-- a prefix of what is due was appended, and the rest is still due
pub record WritesSome (due left : List ℕ) (w v : Option (List ℕ)) : Type 0 where
  pub piece : List ℕ
  pub written : Appends w v piece
  pub rest : due ≡ piece ++ left

-- the points so far are the first of the input, and the text of them was appended, but for what is due
pub record HasWritten (text : TextOf) (due : List ℕ) (reader : ReaderState) (s t w v : Option (List ℕ)) : Type 0 where
  pub read : HasRead reader s t
  pub first : (more : List ℕ) → (IsTrue reader.ended → more ≡ [])
      → BeginsWith reader reader.given more
  pub done : List ℕ
  pub written : Appends w v done
  pub is : text reader.given ≡ done ++ due

-- the rest of the text was written, or the output failed
abbrev pub IsWritten : Status → Status → Option (List ℕ) → Option (List ℕ) → List ℕ → ℕ → ℕ → Type 0
IsWritten status result w v due before after =
    ((result ≡ status) × Appends w v due)
    ⊎ ((result ≡ WriteFault) × AppendsPrefix w v due × HasRisen before after)
