-- The lines that tell what the nodes of tasks did.
use Rattle.std.specs.Prelude.{ℕ, ◌-◌, if◌then◌else◌, nat_lt, List, [], ◌∷◌, ◌++◌, drop, length, Option, None, codes}
use Rattle.std.specs.List.{flat_map, slice_get}
use Rattle.std.specs.Option.{option_map_or}
use Rattle.std.specs.Fmt.{decimal}
use Rattle.kap_base.specs.Points.{PointValue}
use Rattle.kap_base.specs.declared.items.Effect.{Effect}
use Rattle.kap_base.specs.Events.{EventValue}
use Rattle.kap_base.specs.declared.items.What.{What}
use Rattle.kap_base.specs.declared.items.What.TheVariants as what
use Rattle.line_points.specs.Print.{Print}
use Rattle.topic_core.specs.Print.{transition_line}
use Rattle.topic_core.specs.Topics.{Trans}
use Rattle.topic_core.specs.declared.transition.Transition.{Transition}
use Rattle.effect_text.specs.declared.names.TaskNames.{TaskNames}

-- `out`, the task's id, the node's name, and the point's canonical line
abbrev pub out_line : List ℕ → List ℕ → PointValue → List ℕ
out_line id node p = codes "out " ++ id ++ codes " " ++ node ++ codes " " ++ Print p ++ codes "\n"

-- `dropped`, the task's id, the node's name, and how many points it dropped, where it dropped some
abbrev pub dropped_line : List ℕ → List ℕ → ℕ → List ℕ
dropped_line id node n =
    if nat_lt 0 n then codes "dropped " ++ id ++ codes " " ++ node ++ codes " " ++ decimal n ++ codes "\n" else []

-- the task of a life: lives are numbered from 1 in the order of the tasks
abbrev pub task_of : List TaskNames → ℕ → Option TaskNames
task_of tasks life = if nat_lt 0 life then slice_get tasks (life - 1) else None

-- the id of the task of a life
abbrev pub id_of : List TaskNames → ℕ → List ℕ
id_of tasks life = option_map_or (λ task. task.id) (task_of tasks life) []

-- the name of a node of the task of a life
abbrev pub node_of : List TaskNames → ℕ → ℕ → List ℕ
node_of tasks life node =
    option_map_or (λ task. option_map_or (λ name. name) (slice_get task.nodes node) []) (task_of tasks life) []

-- the transitions that the list of all events has with this one behind the events before it
abbrev pub new_transitions : List EventValue → EventValue → List Transition
new_transitions events e = drop (length (Trans events)) (Trans (events ++ e ∷ []))

-- the lines of an effect that comes behind these events: of a logged point its line, of an event those of its
-- transition
abbrev pub what_lines : List ℕ → List ℕ → List EventValue → What → List ℕ
what_lines id node events (what.Line p) = out_line id node p
what_lines id node events (what.Event e) = flat_map transition_line (new_transitions events e)

-- the lines of an effect that comes behind these events, with the names of its task and its node
abbrev pub effect_lines : List TaskNames → List EventValue → Effect → List ℕ
effect_lines tasks events e = what_lines (id_of tasks e.life) (node_of tasks e.life e.node) events e.what

-- the event of an effect, if it is one
abbrev pub event_in : What → List EventValue
event_in (what.Line p) = []
event_in (what.Event e) = e ∷ []

-- the events of effects
abbrev pub events_of : List Effect → List EventValue
events_of effects = flat_map (λ e. event_in e.what) effects

-- the text of effects that come behind these events
unfoldable pub text_behind : List TaskNames → List EventValue → List Effect → List ℕ
text_behind tasks events [] = []
text_behind tasks events (e ∷ effects) =
    effect_lines tasks events e ++ text_behind tasks (events ++ event_in e.what) effects

-- The text of effects: a line for each logged point, and one for each transition of the events, with its number, in the
-- order of the effects.
abbrev pub text_of : List TaskNames → List Effect → List ℕ
text_of tasks effects = text_behind tasks [] effects

-- the lines of what the nodes of a task dropped, in their order
unfoldable pub dropped_lines : List ℕ → List (List ℕ) → List ℕ → List ℕ
dropped_lines id [] counts = []
dropped_lines id (node ∷ nodes) [] = []
dropped_lines id (node ∷ nodes) (n ∷ counts) = dropped_line id node n ++ dropped_lines id nodes counts

-- the lines of what the nodes of tasks dropped, task by task
unfoldable pub dropped_text : List TaskNames → List (List ℕ) → List ℕ
dropped_text [] counts = []
dropped_text (task ∷ tasks) [] = []
dropped_text (task ∷ tasks) (c ∷ counts) = dropped_lines task.id task.nodes c ++ dropped_text tasks counts
