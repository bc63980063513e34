-- What stands after a list of what a store holds.
use Rattle.std.specs.Prelude.{◌⊎◌, ℕ, List, Option, ⊤}
use Rattle.std.specs.Io.KnownBytes.{Appends, Keeps}
use Rattle.kap_io.specs.Disk.{Image}
use Rattle.kap_io.specs.Pieces.{AppendsPrefix}
use Rattle.node_core.specs.declared.node.Node.{Ghosts}
use Rattle.node_set.specs.Tasks.{Planned}
use Rattle.store_records.specs.Held.{Held}
use Rattle.store_records.specs.Histories.{held}
use Rattle.store_records.specs.declared.rec.Rec.{Rec}
use Rattle.topic_core.specs.Topics.{topics_after}
use Rattle.topic_core.specs.declared.transition.Transition.{Transition}
use Rattle.topic_store.specs.Stores.{Stands}
use Rattle.engine_runs.specs.Whole.{due_of}
use Rattle.engine_store.specs.Adding.{HasAdded}
use Rattle.engine_store.specs.Faults.{IsAsked, IsNoGood}
use Rattle.engine_store.specs.Good.{IsFull, IsGood, graphs_in}
use Rattle.store_lists.specs.Lists.{points_text, tasks_text, topics_text, transitions_text}
use Rattle.kap_server.specs.declared.status.Status.{Status}
use Rattle.kap_server.specs.declared.status.Status.TheVariants.{Ok, Usage, Script, Line, Truncated, NotStore, NoTask, Exists, TooManyTasks, TooLong, NoMemory, ReadFault, WriteFault, DiskFault}
use Rattle.kap_server.specs.declared.words.Listing.{Listing}
use Rattle.kap_server.specs.declared.words.Listing.TheVariants.{Tasks, Topics, Alerts, Export}

-- the list of what a store holds: its tasks, the topics of its transitions, these, or its points
abbrev pub list_text : Listing → Held → List ℕ
list_text Tasks h = tasks_text h.tasks
list_text Topics h = topics_text (topics_after h.transitions).levels
list_text Alerts h = transitions_text h.transitions
list_text Export h = points_text h.points

-- By the status, where w and v are what was written before and after: at Ok the text was appended; nothing where no
-- store was opened; else, where a device failed or memory ran out, a prefix of it.
abbrev pub Shows : List ℕ → Status → Option (List ℕ) → Option (List ℕ) → Type 0
Shows text Ok w v = Appends w v text
Shows text Usage w v = ⊥
Shows text (Script fault) w v = ⊥
Shows text (Line n fault) w v = ⊥
Shows text (Truncated n) w v = ⊥
Shows text (NotStore part offset) w v = Keeps w v
Shows text Exists w v = ⊥
Shows text NoTask w v = ⊥
Shows text TooManyTasks w v = ⊥
Shows text TooLong w v = ⊥
Shows text NoMemory w v = AppendsPrefix w v text
Shows text ReadFault w v = ⊥
Shows text WriteFault w v = AppendsPrefix w v text
Shows text DiskFault w v = AppendsPrefix w v text

-- it is a status in which a list ends, on any disk
abbrev pub IsOfList : Status → Type 0
IsOfList Ok = ⊤
IsOfList (NotStore part offset) = ⊤
IsOfList NoMemory = ⊤
IsOfList WriteFault = ⊤
IsOfList DiskFault = ⊤
IsOfList other = ⊥

module _ {N P S : Type 0} (g : Ghosts N P S) (planned : Planned P) where
  -- the files stand for a store whose scripts are those of tasks, and whose last snapshot is one of their nodes
  pub record AreAsked (files : Image) : Type 0 where
    pub records : List Rec
    pub stands : Stands records files
    pub asked : IsAsked g planned records

  -- They stand for such a store, and it isn't right: somebody else wrote it. What its transitions are isn't known, nor
  -- what is made of it.
  pub record AreOthers (files : Image) : Type 0 where
    pub asked : AreAsked files
    pub wrong : IsGood g planned asked.records → ⊥

  -- By the status, of the files that were opened: they are those of a store that may be opened; or none, at the place
  -- that is told, or no right one; or it isn't known, since memory ran out or the disk failed. The numbers are how often a pattern was
  -- refused before and after, and `refused` is the last one.
  abbrev pub Opens : ℕ → ℕ → List ℕ → Image → Status → Type 0
  Opens before after refused files Ok = AreAsked files
  Opens before after refused files WriteFault = AreAsked files
  Opens before after refused files (NotStore part offset) =
      IsNoGood g planned before after refused files part offset ⊎ AreOthers files
  Opens before after refused files NoMemory = ⊤
  Opens before after refused files DiskFault = ⊤
  Opens before after refused files other = ⊥

  -- the transitions that a right store is to hold: those that its lives make of its points
  abbrev pub all_transitions : (rs : List Rec) → IsGood g planned rs → List Transition
  all_transitions rs good = due_of g.answer (graphs_in g planned rs good.tasks) (held rs)

  -- what it holds with all of them
  abbrev pub held_whole : (rs : List Rec) → IsGood g planned rs → Held
  held_whole rs good = record (held rs) { transitions = all_transitions rs good }

  -- the files, and each image that a crash may leave, stand for a store that holds what these records do, and all
  -- transitions that are due
  pub record LeavesFull (rs : List Rec) (seen : Image) (images : Image → Type 0) : Type 0 where
    pub records : List Rec
    pub more : List Transition
    pub added : HasAdded rs more records
    pub full : IsFull g planned records
    pub reads : Stands records seen
    pub leaves : (files : Image) → images files → Stands records files
