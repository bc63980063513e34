-- What stands after points were written to a store.
use Rattle.std.specs.Prelude.{◌≡◌, ◌⊎◌, ⊤, ℕ, ◌<◌, List, length, Option, Some, IfSome, Ok as read_ok, Err as read_err}
use Rattle.std.specs.List.{AllByRecursion as Each}
use Rattle.std.specs.Io.KnownBytes.{Appends, Keeps}
use Rattle.kap_base.specs.Points.{PointValue}
use Rattle.kap_base.specs.Words.{HasRisen}
use Rattle.kap_io.specs.Disk.{Image}
use Rattle.kap_io.specs.Moments.{Moments}
use Rattle.kap_io.specs.Pieces.{AppendsPrefix}
use Rattle.flow_core.specs.Nets.{HasStreamsCarried, NetValue}
use Rattle.line_points.specs.Body.{body_of}
use Rattle.line_points.specs.declared.mode.Mode.{Mode}
use Rattle.node_core.specs.declared.node.Node.{Ghosts}
use Rattle.node_set.specs.Tasks.{Planned}
use Rattle.store_records.specs.Histories.{held}
use Rattle.store_records.specs.declared.rec.Rec.{Rec}
use Rattle.tick_compile.specs.declared.tasks.Task.{Task}
use Rattle.topic_store.specs.Stores.{Stands}
use Rattle.engine_runs.specs.Running.{HasRun, RunValue}
use Rattle.engine_store.specs.Good.{IsFull, IsGood}
use Rattle.kap_engine.specs.Writing.{HasPoints, HasSnapped, StandsWriting, TellsOf}
use Rattle.kap_server.specs.declared.status.Status.{Status}
use Rattle.kap_server.specs.declared.status.Status.TheVariants.{Ok, Usage, Script, Line, Truncated, NotStore, NoTask, Exists, TooManyTasks, TooLong, NoMemory, ReadFault, WriteFault, DiskFault}
use Rattle.kap_server.specs.declared.writing.TheConstants.{BODY_LIMIT}
use Rattle.kap_server.specs.ReadingIn.{IsAll, IsBeyond, IsWithin, ReadsWithin}

-- ---- what is read first

module _ (db rp : List ℕ) (mode : Mode) where
  -- these are the points of the lines of a text, which is no longer than it may be
  pub record AreOfBody (body : List ℕ) (points : List PointValue) : Type 0 where
    pub short : IsWithin BODY_LIMIT body
    pub read : body_of db rp mode body ≡ read_ok points

  -- the lines of a text have points, and it is no longer than it may be
  abbrev pub HasPointsIn : List ℕ → Type 0
  HasPointsIn body = (points : List PointValue) × AreOfBody body points

  -- By the status, where s and t are what was left of the input before and after: each of its lines was read; or this
  -- line is the first that is faulty; or it is too long; or it couldn't be read to its end.
  abbrev pub ReadsLines : Option (List ℕ) → Option (List ℕ) → Status → Type 0
  ReadsLines s t Ok = IfSome s HasPointsIn
  ReadsLines s t Usage = ⊥
  ReadsLines s t (Script fault) = ⊥
  ReadsLines s t (Line n fault) =
      IfSome s (λ body. IsWithin BODY_LIMIT body
      × (body_of db rp mode body ≡ read_err (record { line = n; fault = fault })))
  ReadsLines s t (Truncated n) = ⊥
  ReadsLines s t (NotStore part offset) = IfSome s HasPointsIn
  ReadsLines s t NoTask = ⊥
  ReadsLines s t Exists = ⊥
  ReadsLines s t TooManyTasks = ⊥
  ReadsLines s t TooLong = IsBeyond BODY_LIMIT s
  ReadsLines s t NoMemory = ⊤
  ReadsLines s t ReadFault = ReadsWithin BODY_LIMIT s t
  ReadsLines s t WriteFault = IfSome s HasPointsIn
  ReadsLines s t DiskFault = IfSome s HasPointsIn

  -- the status of a write of these lines
  abbrev pub WritesTo : List ℕ → Status → Type 0
  WritesTo body Ok = HasPointsIn body
  WritesTo body (Line n fault) =
      IsWithin BODY_LIMIT body
      × (body_of db rp mode body ≡ read_err (record { line = n; fault = fault }))
  WritesTo body TooLong = BODY_LIMIT < length body
  WritesTo body other = ⊥

-- how points of lines that were read can be written, on any disk
abbrev pub EndsWriting : Status → Type 0
EndsWriting Ok = ⊤
EndsWriting (NotStore part offset) = ⊤
EndsWriting NoMemory = ⊤
EndsWriting WriteFault = ⊤
EndsWriting DiskFault = ⊤
EndsWriting other = ⊥

module _ {N P S : Type 0} (g : Ghosts N P S) (planned : Planned P) where
  -- ---- the points more

  -- The files, and each image that a crash may leave, stand for a right store that holds what these records do, these
  -- points and all transitions that are due. Few points stand behind its last snapshot, unless one that is due is longer
  -- than a log takes. The text tells what the lives did at the points.
  pub record LeavesWritten (rs : List Rec) (tasks : List Task) (new : List PointValue) (seen : Image)
      (images : Image → Type 0) (text : List ℕ) : Type 0 where
    pub records : List Rec
    pub full : IsFull g planned records
    pub points : HasPoints new (held rs) (held records)
    pub snapped : HasSnapped g planned rs records tasks
    pub reads : Stands records seen
    pub leaves : (files : Image) → images files → Stands records files
    pub tells : TellsOf g planned rs tasks new text

  -- an image is as it was, or stands for a right store with all of the points or none, and the first of the transitions
  -- that are due
  abbrev pub stays_or_writing : List Rec → List PointValue → Image → Image → Type 0
  stays_or_writing rs new old files = (files ≡ old) ⊎ StandsWriting g planned rs new files

  -- There is a net at rest. Its lives are those that are open, each with the nodes of its task, and they have run on all
  -- points; where points were written each edge has carried, since the last epoch began, what its parent gives out.
  pub record HoldsWritten (records : List Rec) (tasks : List Task) (new : List PointValue)
      (ran : Option (NetValue N)) : Type 0 where
    pub run : RunValue N
    pub is : ran ≡ Some run.net
    pub runs : HasRun g planned (held records).lives tasks (held records).points 1 run
    pub streams : 0 < length new → Each (HasStreamsCarried g) run.net.lives

  -- ---- by the status

  -- what was written stands in the store, its text was appended, and the net is there
  pub record Wrote (rs : List Rec) (tasks : List Task) (new : List PointValue) (seen : Image)
      (images : Image → Type 0) (w v : Option (List ℕ)) (ran : Option (NetValue N)) : Type 0 where
    pub text : List ℕ
    pub leaves : LeavesWritten rs tasks new seen images text
    pub written : Appends w v text
    pub net : HoldsWritten leaves.records leaves.full.good.tasks new ran

  -- it stands there, and a prefix of its text was appended
  pub record WrotePrefix (rs : List Rec) (tasks : List Task) (new : List PointValue) (seen : Image)
      (images : Image → Type 0) (w v : Option (List ℕ)) : Type 0 where
    pub text : List ℕ
    pub leaves : LeavesWritten rs tasks new seen images text
    pub written : AppendsPrefix w v text

  -- Behind records of a right store, where w and v are what was written before and after: at Ok and behind a write fault
  -- all points are there; else nothing was appended, and a place is told only where a pattern was refused.
  abbrev pub WrittenTo : (rs : List Rec) → IsGood g planned rs → List PointValue → ℕ → ℕ → Image → (Image → Type 0)
      → Option (List ℕ) → Option (List ℕ) → Option (NetValue N) → Status → Type 0
  WrittenTo rs good new before after seen images w v ran Ok = Wrote rs good.tasks new seen images w v ran
  WrittenTo rs good new before after seen images w v ran WriteFault = WrotePrefix rs good.tasks new seen images w v
  WrittenTo rs good new before after seen images w v ran (NotStore part offset) = HasRisen before after × Keeps w v
  WrittenTo rs good new before after seen images w v ran NoMemory = Keeps w v
  WrittenTo rs good new before after seen images w v ran DiskFault = Keeps w v
  WrittenTo rs good new before after seen images w v ran other = ⊥

  -- ---- on a disk

  module _ {D : Type 0} (seen : D → Image) (moment : D → ℕ) (may_leave : D → Image → Type 0)
      (left_since : D → ℕ → Image → Type 0) where
    -- the points of the lines that the input gives were written, as the status says, and so each image at each moment;
    -- s is what was left of it before
    pub record Writes (db rp : List ℕ) (mode : Mode) (rs : List Rec) (good : IsGood g planned rs)
        (s w v : Option (List ℕ)) (before after : ℕ) (old new : D) (ran : Option (NetValue N))
        (result : Status) : Type 0 where
      pub body : List ℕ
      pub all : IsAll s body
      pub points : List PointValue
      pub are : AreOfBody db rp mode body points
      pub ends : WrittenTo rs good points before after (seen new) (may_leave new) w v ran result
      pub any_moment : Moments moment may_leave left_since old new (stays_or_writing rs points)
