-- The lines of what a store holds.
use Rattle.std.specs.Prelude.{ℕ, ◌++◌, List, codes, if◌then◌else◌, unwrap_or}
use Rattle.std.specs.FinMap as map
use Rattle.std.specs.List.{flat_map}
use Rattle.kap_base.specs.Levels.{level_name}
use Rattle.kap_base.specs.Maps.{KeyMap}
use Rattle.kap_base.specs.Points.{PointValue}
use Rattle.kap_base.specs.declared.items.Level.{Level}
use Rattle.kap_base.specs.declared.items.Level.TheVariants.{Fine}
use Rattle.recording_file.specs.Printed.{record_text}
use Rattle.store_records.specs.declared.task.StoredTask.{StoredTask}
use Rattle.topic_core.specs.Print.{EscW, transition_line}
use Rattle.topic_core.specs.Topics.{topic_level}
use Rattle.topic_core.specs.declared.transition.Transition.{Transition}

-- ---- tasks

-- the line of a task: its id, and whether it is enabled
abbrev pub task_line : StoredTask → List ℕ
task_line task = task.id ++ (if task.enabled then codes " enabled\n" else codes " disabled\n")

-- those of tasks
abbrev pub tasks_text : List StoredTask → List ℕ
tasks_text tasks = flat_map task_line tasks

-- ---- topics

-- a line: a word, a level, and what has this level
abbrev pub level_line : List ℕ → Level → List ℕ → List ℕ
level_line word level name = word ++ level_name level ++ codes " " ++ EscW name ++ codes "\n"

-- the line of an id
abbrev pub id_line : List ℕ × Level → List ℕ
id_line id = level_line (codes "id ") id.1 id.0

-- the level of a topic: the greatest of its ids, OK where it has none
abbrev pub level_in : KeyMap (KeyMap Level) → List ℕ → Level
level_in levels topic = unwrap_or (topic_level levels topic) Fine

-- the line of a topic, and those of its ids in byte order
abbrev pub topic_lines : KeyMap (KeyMap Level) → List ℕ × KeyMap Level → List ℕ
topic_lines levels topic =
    level_line (codes "topic ") (level_in levels topic.0) topic.0 ++ flat_map id_line (map.entries topic.1)

-- those of topics, in byte order
abbrev pub topics_text : KeyMap (KeyMap Level) → List ℕ
topics_text levels = flat_map (topic_lines levels) (map.entries levels)

-- ---- transitions and points

-- the lines of transitions, as a replay prints them
abbrev pub transitions_text : List Transition → List ℕ
transitions_text transitions = flat_map transition_line transitions

-- the recording of points
abbrev pub points_text : List PointValue → List ℕ
points_text points = flat_map record_text points
