-- The steps of a reader: a line, and the rest of a group behind its database or behind its policy.
use Rattle.std.specs.Prelude.{◌≡◌, ◌≢◌, ℕ, ◌+◌, ◌*◌, ◌++◌, Bool, false, List, [], ◌∷◌, IsTrue, Result, Ok, Err, length, ◌≤◌}
use Rattle.kap_base.specs.Points.{PointValue}
use Rattle.line_points.specs.declared.fault.LineFault.{LineFault}
use Rattle.line_points.specs.declared.fault.LineFault.TheVariants as faults
use Rattle.line_points.specs.declared.mode.Mode.TheVariants as modes
use Rattle.line_points.specs.Line.{line_of}
use Rattle.recording_file.specs.declared.fault.RecFault.{RecFault}
use Rattle.recording_file.specs.declared.fault.RecFault.TheVariants.{Line, Truncated, Long, ReadFault, NoMemory}
use Rattle.recording_file.specs.Finding.{ReadPlace, room}
use Rattle.recording_file.specs.Recording.{Stop, Faulty, Undecided, Reading, LinesRead, name_of_line, at_line, unless_fault, no_points, with_line, with_points, groups, of_input_so_far, of_input, read, reading_of, reading_so_far}

-- a line before others
abbrev pub before : List ℕ → LinesRead → LinesRead
before line seen = record { lines = line ∷ seen.lines; stop = seen.stop }

-- what lines behind a database and a policy give
abbrev pub behind_policy : List ℕ → List ℕ → (Bool → ℕ → Stop) → ℕ → List (List ℕ) → Reading
behind_policy d r stop n [] = no_points (stop false n)
behind_policy d r stop n (line ∷ rest) =
    unless_fault (at_line n (line_of d r modes.Recording line)) (λ o.
    with_line o (groups stop (n + 1) rest))

-- what lines behind a database give
abbrev pub behind_database : List ℕ → (Bool → ℕ → Stop) → ℕ → List (List ℕ) → Reading
behind_database d stop n [] = no_points (stop false n)
behind_database d stop n (rp ∷ rest) =
    unless_fault (at_line n (name_of_line rp)) (λ r. behind_policy d r stop (n + 1) rest)

-- what is read behind a database and a policy, the first line with the number n
abbrev pub read_policy : List ℕ → List ℕ → ℕ → LinesRead → Reading
read_policy d r n seen = behind_policy d r seen.stop n seen.lines

-- what is read behind a database
abbrev pub read_database : List ℕ → ℕ → LinesRead → Reading
read_database d n seen = behind_database d seen.stop n seen.lines

-- Whatever may follow the bytes that were read, reading them all gives these points first, and then what R reads ahead
-- of this place.
pub record Ahead
    (R : ℕ → LinesRead → Reading) (points : List PointValue) (at : ReadPlace) : Type 0 where
  pub whole : (more : List ℕ) → (IsTrue at.ended → more ≡ [])
      → reading_of (at.got ++ more)
      ≡ with_points points (R at.line (of_input (room at) (at.bytes ++ more)))
  pub prefix : (more : List ℕ) → at.ended ≡ false
      → reading_so_far (at.got ++ more)
      ≡ with_points points (R at.line (of_input_so_far (at.bytes ++ more)))

-- reading stops so behind these points
abbrev pub StopsWith : List PointValue → ReadPlace → Stop → Type 0
StopsWith points at stop =
    (more : List ℕ) → (IsTrue at.ended → more ≡ [])
    → reading_of (at.got ++ more) ≡ record { points = points; stop = stop }

-- the bytes that were read don't decide how reading goes on behind these points
pub record StaysUndecided (points : List PointValue) (at : ReadPlace) : Type 0 where
  pub not_ended : at.ended ≡ false
  pub undecided : reading_so_far at.got ≡ record { points = points; stop = Undecided }

-- why no further point is given
abbrev pub Refuses : List PointValue → ReadPlace → RecFault → Type 0
Refuses points at (Line n fault) = StopsWith points at (Faulty (Line n fault))
Refuses points at (Truncated n) = StopsWith points at (Faulty (Truncated n))
Refuses points at Long = StopsWith points at (Faulty Long)
Refuses points at ReadFault = StaysUndecided points at
Refuses points at NoMemory = Unit {0}

-- where R reads ahead of the old place, `read` reads ahead of the new one, one point further
abbrev pub GivesPoint : (ℕ → LinesRead → Reading) → ReadPlace → ReadPlace → PointValue → Type 0
GivesPoint R old new p =
    (points : List PointValue) → Ahead R points old → Ahead read (points ++ p ∷ []) new

-- where R reads ahead of the old place, no further point is given, for this fault
abbrev pub FailsBy : (ℕ → LinesRead → Reading) → ReadPlace → ReadPlace → RecFault → Type 0
FailsBy R old new fault = (points : List PointValue) → Ahead R points old → Refuses points new fault

-- the fault is that of what was read from this line
abbrev pub FaultAt : {A : Type 0} → ℕ → Result A LineFault → RecFault → Type 0
FaultAt n read (Line m fault) = (m ≡ n) × (fault ≢ faults.NoMemory) × (read ≡ Err fault)
FaultAt n read (Truncated m) = ⊥
FaultAt n read Long = ⊥
FaultAt n read ReadFault = ⊥
FaultAt n read NoMemory = Unit {0}

-- reading stops at the first line that is seen, whichever line of a group it is
pub record Halts (n : ℕ) (stop : Stop) (seen : LinesRead) : Type 0 where
  pub group : read n seen ≡ no_points stop
  pub database : (d : List ℕ) → read_database d n seen ≡ no_points stop
  pub policy : (d r : List ℕ) → read_policy d r n seen ≡ no_points stop

-- R reads a name first: a database or a policy
pub record ReadsName (R : ℕ → LinesRead → Reading) : Type 0 where
  pub halts : (n : ℕ) (stop : Stop) (seen : LinesRead) → Halts n stop seen
      → R n seen ≡ no_points stop
  pub faulty : (n : ℕ) (line : List ℕ) (e : LineFault) (seen : LinesRead)
      → name_of_line line ≡ Err e
      → R n (before line seen) ≡ no_points (Faulty (Line n e))

-- a line with this name was passed: where R reads it and then Q reads on, Q reads ahead of the new place
abbrev pub PassesName : List ℕ → ReadPlace → ReadPlace → Type 0
PassesName name old new =
    (R Q : ℕ → LinesRead → Reading) (points : List PointValue)
    → ((n : ℕ) (line : List ℕ) (seen : LinesRead) → name_of_line line ≡ Ok name
    → R n (before line seen) ≡ Q (n + 1) seen)
    → Ahead R points old → Ahead Q points new

-- no name was passed, for this fault
abbrev pub RefusesName : ReadPlace → ReadPlace → RecFault → Type 0
RefusesName old new fault =
    (R : ℕ → LinesRead → Reading) (points : List PointValue) → ReadsName R
    → Ahead R points old → Refuses points new fault

-- these points were given of the bytes that were read, and what is ahead of this place gives the others
pub record StandsAt (points : List PointValue) (at : ReadPlace) : Type 0 where
  pub ahead : Ahead read points at
  pub few : length points ≤ at.passed
  pub line : at.line ≡ 3 * length points + 1
