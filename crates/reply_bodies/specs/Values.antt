-- The values that the texts of replies are read back as.
use Rattle.std.specs.Prelude.{ℕ, Bool, List, codes, map}
use Rattle.std.specs.FinMap.{entries}
use Rattle.kap_base.specs.Levels.{level_name}
use Rattle.kap_base.specs.Maps.{KeyMap}
use Rattle.kap_base.specs.declared.items.Level.{Level}
use Rattle.serde_json.specs.Data.{Data, array, member, no_members, object, string}
use Rattle.serde_json.specs.View.{items_of}
use Rattle.store_records.specs.declared.task.StoredTask.{StoredTask}
use Rattle.topic_core.specs.Topics.{greatest_level}
use Rattle.reply_bodies.specs.Texts.{status_word}

-- a task, of which this word says whether it is enabled
abbrev pub worded_value : List ℕ → List ℕ → List ℕ → Data
worded_value id script word =
    object (member (codes "id") (string id) (member (codes "script") (string script)
    (member (codes "status") (string word) (member (codes "type") (string (codes "stream")) no_members))))

-- a task: its id, its script, and whether it is enabled
abbrev pub task_value : List ℕ → List ℕ → Bool → Data
task_value id script enabled = worded_value id script (status_word enabled)

-- a task of a store
abbrev pub stored_value : StoredTask → Data
stored_value task = task_value task.id task.script task.enabled

-- the tasks of a store
abbrev pub tasks_value : List StoredTask → Data
tasks_value tasks = object (member (codes "tasks") (array (items_of (map stored_value tasks))) no_members)

-- what has a level
abbrev pub level_value : List ℕ → Level → Data
level_value name level =
    object (member (codes "id") (string name) (member (codes "level") (string (level_name level)) no_members))

-- a topic
abbrev pub entry_value : List ℕ × KeyMap Level → Data
entry_value topic = level_value topic.0 (greatest_level (entries topic.1))

-- the topics
abbrev pub topics_value : KeyMap (KeyMap Level) → Data
topics_value levels = object (member (codes "topics") (array (items_of (map entry_value (entries levels)))) no_members)

-- an id of a topic
abbrev pub id_value : List ℕ × Level → Data
id_value id = level_value id.0 id.1

-- a topic, with its ids
abbrev pub topic_value : List ℕ → KeyMap Level → Data
topic_value name ids =
    object (member (codes "events") (array (items_of (map id_value (entries ids)))) (member (codes "id") (string name)
    (member (codes "level") (string (level_name (greatest_level (entries ids)))) no_members)))
