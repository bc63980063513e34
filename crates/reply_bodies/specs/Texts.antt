-- The JSON texts of replies: tasks, topics and ids (Kapacitor 1.6: HTTP API).
use Rattle.std.specs.Prelude.{ℕ, Bool, List, [], ◌∷◌, ◌++◌, codes, map, if◌then◌else◌}
use Rattle.std.specs.FinMap.{entries}
use Rattle.std.specs.List.{flat_map}
use Rattle.json.specs.Print.{quoted}
use Rattle.kap_base.specs.Levels.{level_name}
use Rattle.kap_base.specs.Maps.{KeyMap}
use Rattle.kap_base.specs.declared.items.Level.{Level}
use Rattle.store_records.specs.declared.task.StoredTask.{StoredTask}
use Rattle.topic_core.specs.Topics.{greatest_level}

-- texts, with a comma between each two
abbrev pub joined : List (List ℕ) → List ℕ
joined [] = []
joined (text ∷ texts) = text ++ flat_map (λ other. codes "," ++ other) texts

-- ---- tasks

-- whether a task runs
abbrev pub status_word : Bool → List ℕ
status_word enabled = if enabled then codes "enabled" else codes "disabled"

-- a task: its id, its script as it was given, and whether it is enabled
abbrev pub task_text : List ℕ → List ℕ → Bool → List ℕ
task_text id script enabled =
    codes "{\"id\":" ++ quoted id ++ codes ",\"script\":" ++ quoted script
    ++ codes ",\"status\":" ++ quoted (status_word enabled) ++ codes ",\"type\":\"stream\"}"

-- a task of a store
abbrev pub stored_text : StoredTask → List ℕ
stored_text task = task_text task.id task.script task.enabled

-- the tasks of a store, in its order
abbrev pub tasks_text : List StoredTask → List ℕ
tasks_text tasks = codes "{\"tasks\":[" ++ joined (map stored_text tasks) ++ codes "]}"

-- ---- topics

-- what has a level: a topic, or an id of a topic
abbrev pub level_text : List ℕ → Level → List ℕ
level_text name level = codes "{\"id\":" ++ quoted name ++ codes ",\"level\":" ++ quoted (level_name level) ++ codes "}"

-- a topic, with the greatest of the levels of its ids
abbrev pub topic_entry : List ℕ × KeyMap Level → List ℕ
topic_entry topic = level_text topic.0 (greatest_level (entries topic.1))

-- the topics, in byte order
abbrev pub topics_text : KeyMap (KeyMap Level) → List ℕ
topics_text levels = codes "{\"topics\":[" ++ joined (map topic_entry (entries levels)) ++ codes "]}"

-- an id of a topic, with its last level
abbrev pub id_entry : List ℕ × Level → List ℕ
id_entry id = level_text id.0 id.1

-- a topic: its ids in byte order, its name, and the greatest of the levels of its ids
abbrev pub topic_text : List ℕ → KeyMap Level → List ℕ
topic_text name ids =
    codes "{\"events\":[" ++ joined (map id_entry (entries ids)) ++ codes "],\"id\":" ++ quoted name
    ++ codes ",\"level\":" ++ quoted (level_name (greatest_level (entries ids))) ++ codes "}"
