-- What an alert says of a point, by the points of its group before it.
use Rattle.std.specs.Prelude.{ℕ, if◌then◌else◌, List, [], ◌∷◌, unwrap_or}
use Rattle.kap_base.specs.declared.items.Level.{Level}
use Rattle.kap_base.specs.declared.items.What.TheVariants as whats
use Rattle.kap_base.specs.Points.{PointValue}
use Rattle.lambda_types.specs.declared.lambda.Lambda.{Lambda}
use Rattle.node_core.specs.declared.said.Said.{Said}
use Rattle.node_core.specs.Groups.{GroupAnswer}
use Rattle.node_core.specs.Meaning.{Turn, silence}
use Rattle.task_graph.specs.declared.spec.AlertSpec.{AlertSpec}
use Rattle.alert_node.specs.declared.alert.Alert.{Alert}
use Rattle.alert_node.specs.declared.watch.Watch.{Watch}
use Rattle.alert_node.specs.Events.{default_id, default_message, default_topic, event_of, tells}
use Rattle.alert_node.specs.Watches.{watch_in, watched}

-- at most an event, and nothing is given on: nothing stands under an alert
abbrev pub said_at : Alert → Level → Level → PointValue → Said
said_at alert before now p =
    if tells alert before now then record { bodies = []; deeds = whats.Event (event_of alert now p) ∷ []; drops = 0 }
    else silence

-- what is said of a point behind what is kept of its group
abbrev pub said_behind : Alert → Watch → PointValue → Said
said_behind alert watch p = said_at alert watch.level (watched alert watch p).level p

-- what is said of a point, by the points of its group before it
abbrev pub alert_says : Alert → GroupAnswer
alert_says alert before port p = said_behind alert (watch_in alert before) p

-- ---- the machine

-- a step, by what is kept
abbrev pub alert_step : Alert → Watch → ℕ → PointValue → Turn Watch
alert_step alert watch port p = record { state = watched alert watch p; said = said_behind alert watch p }

-- ---- what a script hands to it

-- in a task of this id, as the node of this name
abbrev pub alert_of : List ℕ → List ℕ → AlertSpec Lambda → Alert
alert_of task name spec =
    record {
      expressions = spec.levels;
      resets = spec.resets;
      id = unwrap_or spec.id default_id;
      message = unwrap_or spec.message default_message;
      topic = unwrap_or spec.topic (default_topic task name);
      task = task;
      state_changes_only = spec.state_changes_only;
      no_recoveries = spec.no_recoveries;
    }
