-- alert: its properties.
use Rattle.std.specs.Prelude.{ℕ, Bool, true, false, if◌then◌else◌, List, [], ◌∷◌, ◌++◌, Some, None, Result, Ok, Err, codes, bytes_eq}
use Rattle.std.specs.List.{list_any}
use Rattle.kap_base.specs.Words.{◌>>=◌}
use Rattle.msg_template.specs.declared.template.Part.{Part}
use Rattle.task_graph.specs.declared.spec.AlertSpec.{AlertSpec}
use Rattle.task_graph.specs.declared.spec.Conditions.{Conditions}
use Rattle.task_graph.specs.declared.spec.Spec.{Spec}
use Rattle.task_graph.specs.declared.spec.Spec.TheVariants as specs
use Rattle.tick_compile.specs.declared.node_fault.NodeFault.{NodeFault}
use Rattle.tick_compile.specs.declared.node_fault.NodeFault.TheVariants.{Handler}
use Rattle.tick_compile.specs.declared.given.Node.{Node}
use Rattle.tick_compile.specs.declared.given.Setting.{Setting}
use Rattle.tick_compile.specs.Words.{needed}
use Rattle.tick_compile.specs.Sorts.{as_lambda, as_text, nothing, one}
use Rattle.tick_compile.specs.Templates.{template_given}
use Rattle.tick_compile.specs.Rows.{Row, all_set, row, set_by}

-- the conditions of the levels
abbrev pub level_rows : {L : Type 0} → List (Row L (AlertSpec L))
level_rows =
    row (codes "info") (one as_lambda) (λ l alert. record alert { levels = record (alert.levels) { info = Some l } })
    ∷ row (codes "warn") (one as_lambda) (λ l alert. record alert { levels = record (alert.levels) { warn = Some l } })
    ∷ row (codes "crit") (one as_lambda) (λ l alert. record alert { levels = record (alert.levels) { crit = Some l } })
    ∷ []

-- the conditions of leaving them
abbrev pub reset_rows : {L : Type 0} → List (Row L (AlertSpec L))
reset_rows =
    row (codes "infoReset") (one as_lambda)
    (λ l alert. record alert { resets = record (alert.resets) { info = Some l } })
    ∷ row (codes "warnReset") (one as_lambda)
    (λ l alert. record alert { resets = record (alert.resets) { warn = Some l } })
    ∷ row (codes "critReset") (one as_lambda)
    (λ l alert. record alert { resets = record (alert.resets) { crit = Some l } })
    ∷ []

-- a property that takes a template, of an id or not
abbrev pub template_row : {L S : Type 0} → List ℕ → Bool → (List Part → S → S) → Row L S
template_row name of_id puts =
    record { name = name; sets = λ at args so_far. template_given of_id at args >>= λ t. Ok (puts t so_far) }

-- the other properties
abbrev pub other_rows : {L : Type 0} → List (Row L (AlertSpec L))
other_rows =
    template_row (codes "id") true (λ t alert. record alert { id = Some t })
    ∷ template_row (codes "message") false (λ t alert. record alert { message = Some t })
    ∷ row (codes "topic") (one as_text) (λ s alert. record alert { topic = Some s })
    ∷ row (codes "log") (one as_text) (λ s alert. record alert { path = Some s })
    ∷ row (codes "stateChangesOnly") nothing (λ _ alert. record alert { state_changes_only = true })
    ∷ row (codes "noRecoveries") nothing (λ _ alert. record alert { no_recoveries = true })
    ∷ []

-- the properties that an alert has
abbrev pub alert_rows : {L : Type 0} → List (Row L (AlertSpec L))
alert_rows = level_rows ++ (reset_rows ++ other_rows)

-- the handlers that an alert has in Kapacitor, and not here
abbrev pub handlers : List (List ℕ)
handlers =
    codes "email" ∷ codes "slack" ∷ codes "pagerDuty" ∷ codes "post" ∷ codes "tcp" ∷ codes "exec" ∷ codes "telegram" ∷
    codes "victorOps"
    ∷ codes "opsGenie" ∷ codes "hipChat" ∷ codes "sensu" ∷ codes "snmpTrap" ∷ []

-- the name is that of a handler that an alert has in Kapacitor, and not here
abbrev pub is_handler : List ℕ → Bool
is_handler name = list_any (bytes_eq name) handlers

-- one property more: a handler is a fault whatever it is given
abbrev pub alert_sets : {L : Type 0} → AlertSpec L → Setting L → Result (AlertSpec L) NodeFault
alert_sets alert prop = if is_handler prop.name then Err (Handler prop.at) else set_by alert_rows alert prop

-- no conditions of levels
abbrev pub no_conditions : {L : Type 0} → Conditions L
no_conditions = record { info = None; warn = None; crit = None }

-- an alert of which no property is set
abbrev pub no_alert : {L : Type 0} → AlertSpec L
no_alert = record {
  levels = no_conditions;
  resets = no_conditions;
  id = None;
  message = None;
  topic = None;
  path = None;
  state_changes_only = false;
  no_recoveries = false;
}

-- alert()
abbrev pub alert_spec : {L : Type 0} → Node L → Result (Spec L) NodeFault
alert_spec node = needed node.at (nothing node.args) >>= λ _. all_set alert_sets no_alert node.props
    >>= λ alert. Ok (specs.Alert alert)
