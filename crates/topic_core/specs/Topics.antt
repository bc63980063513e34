-- The transitions of a list of events, and what is kept of the events so far.
use Rattle.std.specs.Prelude.{◌≡◌, ℕ, ◌+◌, ◌-◌, ◌^◌, min, Bool, ◌&&◌, nat_lt, if◌then◌else◌, List, [], ◌∷◌, ◌++◌, fold, length, Option, Some, None, option_map, unwrap_or, is_some}
use Rattle.std.specs.FinMap.{get, contains_key, insert, empty, entries}
use Rattle.std.specs.List.{list_any}
use Rattle.std.specs.Option.{option_map_or}
use Rattle.std.specs.Ordering.{eq_by_cmp}
use Rattle.kap_base.specs.declared.items.Level.{Level}
use Rattle.kap_base.specs.declared.items.Level.TheVariants.{Fine}
use Rattle.kap_base.specs.Levels.{level_rank, same_level}
use Rattle.kap_base.specs.Events.{EventValue}
use Rattle.kap_base.specs.Maps.{KeyMap, byte_order}
use Rattle.topic_core.specs.declared.transition.Transition.{Transition}

-- ---- levels

-- the worse of two levels
abbrev pub worse_level : Level → Level → Level
worse_level one other = if nat_lt (level_rank one) (level_rank other) then other else one

-- the worst of a level and those of these ids
unfoldable pub worst_level : Level → List (List ℕ × Level) → Level
worst_level level [] = level
worst_level level (id ∷ ids) = worst_level (worse_level level id.1) ids

-- the greatest level of these ids, and OK where there are none
abbrev pub greatest_level : List (List ℕ × Level) → Level
greatest_level ids = worst_level Fine ids

-- ---- events and their transitions

-- the two texts have the same bytes
abbrev pub same_text : List ℕ → List ℕ → Bool
same_text one other = eq_by_cmp byte_order one other

-- an event, or a transition, of this topic and id
abbrev pub is_of : List ℕ → List ℕ → List ℕ → List ℕ → Bool
is_of topic id its_topic its_id = same_text topic its_topic && same_text id its_id

-- the level of the last of these events that is of this topic and id, and `level` where there is none
unfoldable pub last_level : List ℕ → List ℕ → Level → List EventValue → Level
last_level topic id level [] = level
last_level topic id level (e ∷ es) = last_level topic id (if is_of topic id e.topic e.id then e.level else level) es

-- the event with the level before it, where its own level differs
abbrev pub change : Level → EventValue → List (Level × EventValue)
change old e = if same_level old e.level then [] else (old, e) ∷ []

-- The later events whose level differs from that of the last event before of the same topic and id, OK at first. Each
-- stands with that level; `earlier` are the events before the later ones.
unfoldable pub changes : List EventValue → List EventValue → List (Level × EventValue)
changes earlier [] = []
changes earlier (e ∷ later) = change (last_level e.topic e.id Fine earlier) e ++ changes (earlier ++ e ∷ []) later

-- the transition of this number: the number stands still at the end of its type
abbrev pub transition : ℕ → Level → EventValue → Transition
transition n old e =
    record {
      number = min n (2 ^ 64 - 1);
      topic = e.topic;
      id = e.id;
      old_level = old;
      new_level = e.level;
      time = e.time;
      message = e.message;
    }

-- the transitions of these changes, numbered from n on
unfoldable pub numbered : ℕ → List (Level × EventValue) → List Transition
numbered n [] = []
numbered n (c ∷ cs) = transition n c.0 c.1 ∷ numbered (n + 1) cs

-- The transitions of a list of events: those whose level differs from the last earlier event of the same topic and id,
-- OK at first, numbered from 1.
abbrev pub Trans : List EventValue → List Transition
Trans events = numbered 1 (changes [] events)

-- the event that a transition was
abbrev pub event_of : Transition → EventValue
event_of t = record { topic = t.topic; id = t.id; level = t.new_level; time = t.time; message = t.message }

-- ---- what is kept

-- the number of transitions so far, and for each topic and id that had one its last level
pub record TopicsValue : Type 0 where
  pub count : ℕ
  pub levels : KeyMap (KeyMap Level)

-- the level that is kept of a topic and id
abbrev pub level_at : KeyMap (KeyMap Level) → List ℕ → List ℕ → Option Level
level_at levels topic id = option_map_or (λ ids. get ids id) (get levels topic) None

-- the same, OK where none is kept
abbrev pub level_before : KeyMap (KeyMap Level) → List ℕ → List ℕ → Level
level_before levels topic id = unwrap_or (level_at levels topic id) Fine

-- the greatest level of the ids of a topic
abbrev pub topic_level : KeyMap (KeyMap Level) → List ℕ → Option Level
topic_level levels topic = option_map (λ ids. greatest_level (entries ids)) (get levels topic)

-- with this level of a topic and id
abbrev pub put_level : KeyMap (KeyMap Level) → List ℕ → List ℕ → Level → KeyMap (KeyMap Level)
put_level levels topic id level = insert levels topic (insert (unwrap_or (get levels topic) empty) id level)

-- What is kept stands for these events: the count is that of their transitions, the level of a topic and id is that of
-- the last event, and the topics and ids that are kept are those that had a transition.
pub record StandsFor (events : List EventValue) (kept : TopicsValue) : Type 0 where
  pub count : kept.count ≡ min (length (Trans events)) (2 ^ 64 - 1)
  pub level : (topic id : List ℕ) → level_before kept.levels topic id ≡ last_level topic id Fine events
  pub ids : (topic id : List ℕ)
      → is_some (level_at kept.levels topic id) ≡ list_any (λ t. is_of topic id t.topic t.id) (Trans events)
  pub topics : (topic : List ℕ)
      → contains_key kept.levels topic ≡ list_any (λ t. same_text topic t.topic) (Trans events)

-- the answer to the next event
abbrev pub answer : TopicsValue → EventValue → Option Transition
answer kept e =
    let old = level_before kept.levels e.topic e.id in
    if same_level old e.level then None else Some (transition (kept.count + 1) old e)

-- what is kept after the next event
abbrev pub kept_after : TopicsValue → EventValue → TopicsValue
kept_after kept e =
    if same_level (level_before kept.levels e.topic e.id) e.level then kept
    else record { count = min (kept.count + 1) (2 ^ 64 - 1); levels = put_level kept.levels e.topic e.id e.level }

-- ---- what is kept of transitions

-- what is kept before any event
abbrev pub no_topics : TopicsValue
no_topics = record { count = 0; levels = empty }

-- what is kept after a transition more: its level is the last one of its topic and id
abbrev pub with_transition : TopicsValue → Transition → TopicsValue
with_transition kept t =
    record { count = min (kept.count + 1) (2 ^ 64 - 1); levels = put_level kept.levels t.topic t.id t.new_level }

-- what is kept after these transitions
abbrev pub topics_after : List Transition → TopicsValue
topics_after ts = fold with_transition no_topics ts
