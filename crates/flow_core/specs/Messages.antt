-- The messages of a load: its points with their stamps, and its barriers.
use Rattle.std.specs.Prelude.{ℕ, ◌+◌, ◌-◌, ◌<◌, ⊤, ◌==◌, if◌then◌else◌, List, [], ◌∷◌, ◌++◌, length}
use Rattle.kap_base.specs.Points.{PointValue}
use Rattle.kap_base.specs.declared.items.Item.{Item}
use Rattle.kap_base.specs.declared.items.Msg.{Msg}
use Rattle.kap_base.specs.declared.items.Msg.TheVariants as messages
use Rattle.kap_base.specs.declared.items.Stamp.{Stamp}
use Rattle.task_run.specs.Graphs.{stamped_from}

-- a barrier, where the first mark is this stamp
abbrev pub barrier_at : ℕ → List Stamp → List Msg
barrier_at stamp [] = []
barrier_at stamp (m ∷ marks) = if m.0 == stamp then messages.Barrier m ∷ [] else []

-- the marks behind it
abbrev pub marks_behind : ℕ → List Stamp → List Stamp
marks_behind stamp [] = []
marks_behind stamp (m ∷ marks) = if m.0 == stamp then marks else m ∷ marks

-- items, and behind the one with the stamp of the next mark its barrier
abbrev pub marked : List Item → List Stamp → List Msg
marked [] marks = []
marked (x ∷ items) marks = messages.Item x ∷ barrier_at x.stamp.0 marks ++ marked items (marks_behind x.stamp.0 marks)

-- points with the stamps that end at this one
abbrev pub stamped_up_to : Stamp → List PointValue → List Item
stamped_up_to upto points = stamped_from (upto.0 - length points + 1) points

-- the messages of a load: the points with the stamps that end at `upto`, a barrier behind each mark and one behind the
-- last point
abbrev pub load_messages : List PointValue → Stamp → List Stamp → List Msg
load_messages points upto marks = marked (stamped_up_to upto points) marks ++ messages.Barrier upto ∷ []

-- stamps that rise strictly, above the one and below the other
abbrev pub AreMarks : ℕ → ℕ → List Stamp → Type 0
AreMarks above below [] = ⊤
AreMarks above below (m ∷ marks) = (above < m.0) × (m.0 < below) × AreMarks m.0 below marks

-- marks of a load: they lie above the stamp before the first point and below the last
abbrev pub AreMarksOf : List PointValue → Stamp → List Stamp → Type 0
AreMarksOf points upto marks = AreMarks (upto.0 - length points) upto.0 marks
