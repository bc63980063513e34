-- What the alerts of a store have to do with a replay of what it exports.
use Rattle.std.specs.Prelude.{◌≡◌, ℕ, ◌≤◌, true, false, Bool, List, Option, [], filter, length, map}
use Rattle.std.specs.List.{AllByRecursion as Each, list_any}
use Rattle.kap_base.specs.declared.items.Effect.{Effect}
use Rattle.kap_base.specs.declared.items.What.{What}
use Rattle.kap_base.specs.declared.items.What.TheVariants as what
use Rattle.kap_base.specs.Tree.{Tree}
use Rattle.effect_text.specs.Lines.{text_of}
use Rattle.effect_text.specs.declared.names.TaskNames.{TaskNames}
use Rattle.life_effects.specs.OpenAlone.{AreOpenAlone, of_open}
use Rattle.node_core.specs.Meaning.{Answer, Saying}
use Rattle.node_core.specs.Numbering.{stamped}
use Rattle.node_set.specs.Tasks.{Planned}
use Rattle.recording_file.specs.Recording.{Recording}
use Rattle.recording_file.specs.declared.lines.TheConstants.{RECORDING_LIMIT}
use Rattle.store_lists.specs.Exports.{HasShortLines}
use Rattle.store_lists.specs.Lists.{points_text}
use Rattle.store_records.specs.Held.{Held, is_open}
use Rattle.store_records.specs.declared.task.Life.{Life}
use Rattle.task_graph.specs.declared.spec.NodeSpec.{NodeSpec}
use Rattle.task_run.specs.Lives.{effects_of}
use Rattle.tick_compile.specs.declared.tasks.Task.{Task}
use Rattle.kap_server.specs.Listing.{Shows}
use Rattle.kap_server.specs.Pairs.{AreTasks, task_names}
use Rattle.kap_server.specs.Runs.{lives_from}
use Rattle.kap_server.specs.Words.{Pair}
use Rattle.kap_server.specs.declared.status.Status.{Status}

-- whether an effect is an event
abbrev pub is_event : What → Bool
is_event (what.Line p) = false
is_event (what.Event e) = true

-- of effects those that are events
abbrev pub event_effects : List Effect → List Effect
event_effects effects = filter (λ e. is_event e.what) effects

-- the lines of alerts in the text of effects: the text without the lines of logged points
abbrev pub alert_text : List TaskNames → List Effect → List ℕ
alert_text names effects = text_of names (event_effects effects)

-- the pair of a life: its task's id and its script
abbrev pub pair_of : Life → Pair
pair_of life = record { id = life.task; script = life.script }

-- those of the open lives, in their order
abbrev pub open_pairs : List Life → List Pair
open_pairs lives = map pair_of (of_open lives lives)

-- A replay may take what a store exports, and does what the store's lives did: some life is open; each open one began
-- before the first point, and no other one has seen a point; each point's three lines are read again, and all of them
-- are no longer than a recording.
pub record IsExportable (h : Held) : Type 0 where
  pub some : list_any is_open h.lives ≡ true
  pub alone : AreOpenAlone h.points h.lives
  pub lines : Each HasShortLines h.points
  pub fits : length (points_text h.points) ≤ RECORDING_LIMIT

-- Nodes that scripts make say the same in each life: what the node says, stamped by the life's number and its own.
abbrev pub SayInEachLife : {P : Type 0} → (P → Answer) → Planned P → Type 0
SayInEachLife {P} answer planned =
    (task : List ℕ) (number : ℕ) (node : NodeSpec Tree) → (saying : Saying)
    × ((life : ℕ) → answer (planned task life number node) ≡ stamped life number saying)

-- What `alerts` writes of a store, whose lives have these tasks, is what a replay of its export writes for the pairs of
-- its open lives, without the lines of logged points.
pub record TellsAsReplay {P : Type 0} (answer : P → Answer) (planned : Planned P) (h : Held) (tasks : List Task)
    (result : Status) (w v : Option (List ℕ)) : Type 0 where
  pub pairs : AreTasks [] (open_pairs h.lives) (of_open h.lives tasks)
  pub read : Recording (points_text h.points) h.points
  pub alerts : Shows
      (alert_text (task_names (open_pairs h.lives) (of_open h.lives tasks))
      (effects_of answer (lives_from planned 1 (open_pairs h.lives) (of_open h.lives tasks)) h.points))
      result w v
