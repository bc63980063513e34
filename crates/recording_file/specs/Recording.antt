-- Recordings: groups of three lines, a database, a policy and a line of the line protocol, each of which gives a point.
use Rattle.std.specs.Prelude.{◌≡◌, ℕ, ◌+◌, ◌≤◌, Bool, true, false, IsTrue, Option, None, Some, List, [], ◌∷◌, ◌++◌, length, take, Result, Ok, Err, nat_le, if◌then◌else◌}
use Rattle.std.specs.Str.{is_utf8}
use Rattle.kap_base.specs.Points.{PointValue}
use Rattle.line_points.specs.declared.fault.LineFault.{LineFault}
use Rattle.line_points.specs.declared.fault.LineFault.TheVariants as faults
use Rattle.line_points.specs.declared.line.TheConstants.{LINE_LIMIT}
use Rattle.line_points.specs.declared.mode.Mode.TheVariants as modes
use Rattle.line_points.specs.Body.{without_return}
use Rattle.line_points.specs.Line.{Reads, line_of}
use Rattle.recording_file.specs.declared.fault.RecFault.{RecFault}
use Rattle.recording_file.specs.declared.fault.RecFault.TheVariants as rec_faults
use Rattle.recording_file.specs.declared.lines.TheConstants.{RECORDING_LIMIT}
use Rattle.recording_file.specs.Lines.{is_long, raw_lines, closed_lines, all_lines, last_part}

-- ---- what a recording is

-- a database or a policy: a text that is no longer than a line
pub record IsName (line : List ℕ) : Type 0 where
  pub utf8 : IsTrue (is_utf8 line)
  pub within : length line ≤ LINE_LIMIT

-- the lines are groups of three, and each group gives the next point
abbrev pub AreGroups : List (List ℕ) → List PointValue → Type 0
AreGroups [] [] = Unit {0}
AreGroups [] (p ∷ ps) = ⊥
AreGroups (db ∷ []) ps = ⊥
AreGroups (db ∷ rp ∷ []) ps = ⊥
AreGroups (db ∷ rp ∷ line ∷ rest) [] = ⊥
AreGroups (db ∷ rp ∷ line ∷ rest) (p ∷ ps) =
    IsName db × IsName rp × Reads db rp modes.Recording line p × AreGroups rest ps

-- the bytes are a recording, and these are its points
pub record Recording (bytes : List ℕ) (points : List PointValue) : Type 0 where
  pub within : length bytes ≤ RECORDING_LIMIT
  pub groups : AreGroups (all_lines (raw_lines bytes)) points

-- ---- what bytes give, whether they are one or not

-- how reading stops: at the end between two groups, at a fault, or where only further bytes decide
pub data Stop : Type 0 where
  Ended : Stop
  Faulty : (fault : RecFault) → Stop
  Undecided : Stop

-- the points of the groups that were wholly read, and how reading stops behind them
pub record Reading : Type 0 where
  pub points : List PointValue
  pub stop : Stop

-- no point
abbrev pub no_points : Stop → Reading
no_points stop = record { points = []; stop = stop }

-- a point before others
abbrev pub with_first : PointValue → Reading → Reading
with_first p others = record { points = p ∷ others.points; stop = others.stop }

-- points before others
abbrev pub with_points : List PointValue → Reading → Reading
with_points ps others = record { points = ps ++ others.points; stop = others.stop }

-- what a line gave, before the points of others; in a recording each line gives a point
abbrev pub with_line : Option PointValue → Reading → Reading
with_line None others = others
with_line (Some p) others = with_first p others

-- a database or a policy
abbrev pub name_of_line : List ℕ → Result (List ℕ) LineFault
name_of_line line =
    if is_long line then Err faults.Long else if is_utf8 line then Ok line else Err faults.NotUtf8

-- the fault of a line with its number
abbrev pub at_line : {A : Type 0} → ℕ → Result A LineFault → Result A RecFault
at_line n (Ok x) = Ok x
at_line n (Err fault) = Err (rec_faults.Line n fault)

-- what follows where there is no fault
abbrev pub unless_fault : {A : Type 0} → Result A RecFault → (A → Reading) → Reading
unless_fault (Ok x) follows = follows x
unless_fault (Err fault) follows = no_points (Faulty fault)

-- what the groups of these lines give, the first line with the number n; `stop` says, of the first line that is
-- missing, how reading stops there: whether it would begin a group, and its number
abbrev pub groups : (Bool → ℕ → Stop) → ℕ → List (List ℕ) → Reading
groups stop n [] = no_points (stop true n)
groups stop n (db ∷ []) =
    unless_fault (at_line n (name_of_line db)) (λ d. no_points (stop false (n + 1)))
groups stop n (db ∷ rp ∷ []) =
    unless_fault (at_line n (name_of_line db)) (λ d.
    unless_fault (at_line (n + 1) (name_of_line rp)) (λ r. no_points (stop false (n + 1 + 1))))
groups stop n (db ∷ rp ∷ line ∷ rest) =
    unless_fault (at_line n (name_of_line db)) (λ d.
    unless_fault (at_line (n + 1) (name_of_line rp)) (λ r.
    unless_fault (at_line (n + 1 + 1) (line_of d r modes.Recording line)) (λ o.
    with_line o (groups stop (n + 1 + 1 + 1) rest))))

-- at the end of the input: an end between two groups, else a line is missing
abbrev pub at_end : Bool → ℕ → Stop
at_end true n = Ended
at_end false n = Faulty (rec_faults.Truncated n)

-- where bytes may follow those of a last line: it may be too long already, whatever follows
abbrev pub at_open : List ℕ → Bool → ℕ → Stop
at_open last first n =
    if is_long (without_return last) then Faulty (rec_faults.Line n faults.Long) else Undecided

-- where the bytes up to the limit are there, and more follow
abbrev pub at_limit : List ℕ → Bool → ℕ → Stop
at_limit last first n =
    Faulty (if is_long (without_return last)
    then rec_faults.Line n faults.Long else rec_faults.Long)

-- lines, and how reading stops where one is missing behind them
pub record LinesRead : Type 0 where
  pub lines : List (List ℕ)
  pub stop : Bool → ℕ → Stop

-- of bytes that are all
abbrev pub of_whole_input : List ℕ → LinesRead
of_whole_input bytes = record { lines = all_lines (raw_lines bytes); stop = at_end }

-- of bytes that others may follow
abbrev pub of_input_so_far : List ℕ → LinesRead
of_input_so_far bytes =
    record { lines = closed_lines (raw_lines bytes); stop = at_open (last_part (raw_lines bytes)) }

-- of bytes that others follow, which go beyond the limit
abbrev pub of_input_past_limit : List ℕ → LinesRead
of_input_past_limit bytes =
    record { lines = closed_lines (raw_lines bytes); stop = at_limit (last_part (raw_lines bytes)) }

-- of bytes of which at most so many may come
abbrev pub of_input : ℕ → List ℕ → LinesRead
of_input limit bytes =
    if nat_le (length bytes) limit
    then of_whole_input bytes else of_input_past_limit (take limit bytes)

-- what they give, the first line with the number n
abbrev pub read : ℕ → LinesRead → Reading
read n seen = groups seen.stop n seen.lines

-- what bytes give that are a whole input: their points in order, and how reading stops
abbrev pub reading_of : List ℕ → Reading
reading_of bytes = read 1 (of_input RECORDING_LIMIT bytes)

-- what bytes give that others may follow
abbrev pub reading_so_far : List ℕ → Reading
reading_so_far bytes = read 1 (of_input_so_far bytes)

-- what bytes give, against what they give with others behind them: its points come first there, and its fault stays
pub record GoesOn (part whole : Reading) : Type 0 where
  pub others : List PointValue
  pub points : whole.points ≡ part.points ++ others
  pub same : (fault : RecFault) → part.stop ≡ Faulty fault → whole ≡ part
