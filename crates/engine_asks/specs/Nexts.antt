-- What stands behind an ask.
use Rattle.std.specs.Prelude.{◌≡◌, ◌⊎◌, ◌≤◌, ℕ, ◌+◌, ℤ, Bool, true, false, if◌then◌else◌, List, [], ◌∷◌, ◌++◌, Result, Ok}
use Rattle.kap_base.specs.Points.{PointValue}
use Rattle.kap_io.specs.Disk.{Image}
use Rattle.kap_http.specs.AskValues.{DefineValue, WriteValue}
use Rattle.kap_http.specs.declared.ask.Ask.{Ask}
use Rattle.kap_http.specs.declared.ask.Ask.TheVariants as asks
use Rattle.kap_http.specs.declared.ask.TaskAct.{TaskAct}
use Rattle.kap_http.specs.declared.ask.TaskAct.TheVariants as acts
use Rattle.line_points.specs.declared.fault.BodyFault.{BodyFault}
use Rattle.node_core.specs.declared.node.Node.{Ghosts}
use Rattle.node_set.specs.Tasks.{Planned}
use Rattle.store_records.specs.Histories.{held}
use Rattle.store_records.specs.declared.rec.Rec.{Rec}
use Rattle.store_records.specs.declared.rec.Rec.TheVariants as kinds
use Rattle.tick_compile.specs.declared.tasks.Task.{Task}
use Rattle.topic_core.specs.declared.transition.Transition.{Transition}
use Rattle.topic_store.specs.Stores.{Stands}
use Rattle.engine_store.specs.Good.{IsGood}
use Rattle.kap_engine.specs.Changing.{StandsFull, stands_full_before_or_after}
use Rattle.kap_engine.specs.Engines.{EngineValue, IsEngine}
use Rattle.kap_engine.specs.Writing.{HasWritten, StandsWriting}
use Rattle.reply_bodies.specs.Asks.{change_of, is_changing, is_done}
use Rattle.engine_asks.specs.Replies.{points_asked}

-- the record that defines a task
abbrev pub definition : DefineValue → Rec
definition d = kinds.Define d.id d.script d.enabled

module _ {N P S : Type 0} (g : Ghosts N P S) (planned : Planned P) (rs : List Rec) where
  -- ---- the engine

  -- it stands as before, over the same records; `stored` are the transitions that the change before stored
  pub record Stays (stored : List Transition) (seen : Image) (images : Image → Type 0) (e : EngineValue N) : Type 0 where
    pub engine : IsEngine g planned rs seen images e
    pub same : e.stored ≡ stored

  -- it stands over one record more, and no transition came
  pub record HasRecord (r : Rec) (seen : Image) (images : Image → Type 0) (e : EngineValue N) : Type 0 where
    pub engine : IsEngine g planned (rs ++ r ∷ []) seen images e
    pub none : e.stored ≡ []

  -- the points of the lines were written
  pub record HasPointsOf (tasks : List Task) (lines : Result (List PointValue) BodyFault) (seen : Image)
      (images : Image → Type 0) (e : EngineValue N) : Type 0 where
    pub points : List PointValue
    pub are : lines ≡ Ok points
    pub text : List ℕ
    pub written : HasWritten g planned rs tasks points seen images e text

  module _ (stored : List Transition) (seen : Image) (images : Image → Type 0) (e : EngineValue N) where
    -- what stands behind what was done with a task
    abbrev pub NextOfAct : List ℕ → TaskAct → Type 0
    NextOfAct id acts.Show = Stays stored seen images e
    NextOfAct id acts.Enable = HasRecord (kinds.Enable id) seen images e
    NextOfAct id acts.Disable = HasRecord (kinds.Disable id) seen images e
    NextOfAct id acts.Delete = HasRecord (kinds.Delete id) seen images e

  module _ (tasks : List Task) (stored : List Transition) (seen : Image) (images : Image → Type 0) (e : EngineValue N)
    where
      -- what stands behind an ask that was done
      abbrev pub NextOf : Ask → ℤ → Type 0
      NextOf asks.Ping now = Stays stored seen images e
      NextOf (asks.Write w) now = HasPointsOf tasks (points_asked w now) seen images e
      NextOf asks.Tasks now = Stays stored seen images e
      NextOf (asks.Define d) now = HasRecord (definition d) seen images e
      NextOf (asks.Task t) now = NextOfAct stored seen images e t.id t.act
      NextOf asks.Topics now = Stays stored seen images e
      NextOf (asks.Topic t) now = Stays stored seen images e

      -- whether it was done or refused
      abbrev pub IsNextIf : Bool → Ask → ℤ → Type 0
      IsNextIf true ask now = NextOf ask now
      IsNextIf false ask now = Stays stored seen images e

      -- The store behind an ask that was answered with this status, where no failure was told: the change is there where it
      -- was done, and else all is as before.
      abbrev pub IsNext : Ask → ℤ → ℕ → Type 0
      IsNext ask now status = IsNextIf (is_done status) ask now

  -- ---- images

  -- the files stand for the store as it was
  abbrev pub as_before : Image → Image → Type 0
  as_before old files = StandsFull g planned rs files

  -- while something is done with a task, they stand for the store as it was, or with the change
  abbrev pub before_or_acted : List ℕ → TaskAct → Image → Image → Type 0
  before_or_acted id acts.Show old files = StandsFull g planned rs files
  before_or_acted id acts.Enable old files = stands_full_before_or_after g planned rs (kinds.Enable id) old files
  before_or_acted id acts.Disable old files = stands_full_before_or_after g planned rs (kinds.Disable id) old files
  before_or_acted id acts.Delete old files = stands_full_before_or_after g planned rs (kinds.Delete id) old files

  -- while points are written, they stand for the store as it was, or with all of the points or none and the first of the
  -- transitions that these make
  abbrev pub before_or_written : WriteValue → ℤ → Image → Image → Type 0
  before_or_written w now old files =
      StandsFull g planned rs files
      ⊎ ((points : List PointValue) × (points_asked w now ≡ Ok points) × StandsWriting g planned rs points files)

  -- while an ask is answered, the files stand for a right store, as it was or with the change
  abbrev pub before_or_next : Ask → ℤ → Image → Image → Type 0
  before_or_next asks.Ping now old files = StandsFull g planned rs files
  before_or_next (asks.Write w) now old files = before_or_written w now old files
  before_or_next asks.Tasks now old files = StandsFull g planned rs files
  before_or_next (asks.Define d) now old files = stands_full_before_or_after g planned rs (definition d) old files
  before_or_next (asks.Task t) now old files = before_or_acted t.id t.act old files
  before_or_next asks.Topics now old files = StandsFull g planned rs files
  before_or_next (asks.Topic t) now old files = StandsFull g planned rs files

  -- ---- how many changes and which transitions

  -- What is counted behind an ask that was answered with this status, where no failure was told: the store has one change
  -- more exactly where one was asked for and is done; and it has no transition more, or just those that are told of as
  -- stored.
  pub record IsCounted (ask : Ask) (status : ℕ) (seen : Image) (images : Image → Type 0) (e : EngineValue N) : Type 0 where
    pub records : List Rec
    pub engine : IsEngine g planned records seen images e
    pub changes : (held records).changes ≡ (held rs).changes + change_of ask status
    pub own : ((held records).transitions ≡ (held rs).transitions)
        ⊎ ((held records).transitions ≡ (held rs).transitions ++ e.stored)

  -- While an ask is answered, the files stand for a right store which has as many changes as before, or one more where the
  -- ask is for one; and its transitions begin with those that were stored before.
  pub record StandsCounted (ask : Ask) (files : Image) : Type 0 where
    pub records : List Rec
    pub stands : Stands records files
    pub good : IsGood g planned records
    pub least : (held rs).changes ≤ (held records).changes
    pub most : (held records).changes ≤ (held rs).changes + (if is_changing ask then 1 else 0)
    pub some : List Transition
    pub transitions : (held records).transitions ≡ (held rs).transitions ++ some

  -- whatever stood there before
  abbrev pub stands_counted : Ask → Image → Image → Type 0
  stands_counted ask old files = StandsCounted ask files
