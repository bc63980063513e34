-- What stands after a check.
use Rattle.std.specs.Prelude.{◌≡◌, ℕ, ◌<◌, List, length, Option, None, IfSome}
use Rattle.std.specs.Io.KnownBytes.{Appends, Keeps}
use Rattle.kap_io.specs.Pieces.{AppendsPrefix}
use Rattle.lambda_types.specs.Faults.{Refusal}
use Rattle.kap_base.specs.declared.limits.TheConstants.{SCRIPT_LIMIT}
use Rattle.tick_parser.specs.Trees.{StmtTree}
use Rattle.tick_print.specs.Print.{script_text}
use Rattle.tick_compile.specs.Scripts.{Accepts, Parses, Refuses}
use Rattle.tick_compile.specs.Tasks.{refusal_in}
use Rattle.tick_compile.specs.declared.tasks.Task.{Task}
use Rattle.kap_server.specs.declared.status.Status.{Status}
use Rattle.kap_server.specs.declared.status.Status.TheVariants.{Ok, Usage, Script, Line, Truncated, NotStore, NoTask, Exists, TooManyTasks, TooLong, NoMemory, ReadFault, WriteFault, DiskFault}
use Rattle.kap_server.specs.ReadingIn.{IsShort, IsLong, ReadsFew}

-- the text is a task's script, and its canonical form is this
pub record HasForm (text form : List ℕ) : Type 0 where
  pub script : List StmtTree
  pub task : Task
  pub short : IsShort text
  pub parsed : Parses text script
  pub accepted : Accepts None text task
  pub printed : form ≡ script_text script

-- the canonical form of the input was appended
abbrev pub WritesForm : List ℕ → Option (List ℕ) → Option (List ℕ) → Type 0
WritesForm text w v = (form : List ℕ) × HasForm text form × Appends w v form

-- a prefix of the canonical form of the input was appended
abbrev pub WritesFormPrefix : List ℕ → Option (List ℕ) → Option (List ℕ) → Type 0
WritesFormPrefix text w v = (form : List ℕ) × HasForm text form × AppendsPrefix w v form

-- By the status, where `refused` is the pattern that was refused last, s and t are what was left of the input before
-- and after, and w and v what was written: at Ok the input is a task's script and its canonical form was appended; at a
-- fault of the script that is its first one; else it is too long or couldn't be read to its end, and then nothing was
-- appended; after a write fault a prefix of the form was.
abbrev pub Checked : List ℕ → Status → Option (List ℕ) → Option (List ℕ) → Option (List ℕ) → Option (List ℕ) → Type 0
Checked refused Ok s t w v = IfSome s (λ text. WritesForm text w v)
Checked refused Usage s t w v = ⊥
Checked refused (Script fault) s t w v =
    IfSome s (λ text. IsShort text × Refuses (refusal_in fault refused) text fault) × Keeps w v
Checked refused (Line n fault) s t w v = ⊥
Checked refused (Truncated n) s t w v = ⊥
Checked refused (NotStore part offset) s t w v = ⊥
Checked refused Exists s t w v = ⊥
Checked refused NoTask s t w v = ⊥
Checked refused TooManyTasks s t w v = ⊥
Checked refused TooLong s t w v = IsLong s × Keeps w v
Checked refused NoMemory s t w v = Keeps w v
Checked refused ReadFault s t w v = ReadsFew s t × Keeps w v
Checked refused WriteFault s t w v = IfSome s (λ text. WritesFormPrefix text w v)
Checked refused DiskFault s t w v = ⊥

-- the status of a check of this text, where this pattern is refused, or none is
abbrev pub ChecksTo : Option Refusal → List ℕ → Status → Type 0
ChecksTo refused text Ok = IsShort text × ((task : Task) × Accepts refused text task)
ChecksTo refused text (Script fault) = IsShort text × Refuses refused text fault
ChecksTo refused text TooLong = SCRIPT_LIMIT < length text
ChecksTo refused text other = ⊥
