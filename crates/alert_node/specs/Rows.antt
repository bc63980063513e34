-- Examples: the levels of a group's points, what is evaluated for each, and of which points events tell.
use Rattle.std.specs.Prelude.{◌≡◌, ℕ, Bool, true, false, nat_lt, if◌then◌else◌, List, [], ◌∷◌, ◌++◌, Option, Some, None}
use Rattle.kap_base.specs.declared.items.Level.{Level}
use Rattle.kap_base.specs.declared.items.Level.TheVariants.{Fine, Info, Warning, Critical}
use Rattle.lambda_types.specs.declared.lambda.Lambda.{Lambda}
use Rattle.task_graph.specs.declared.spec.Conditions.{Conditions}
use Rattle.alert_node.specs.declared.alert.Alert.{Alert}
use Rattle.alert_node.specs.declared.watch.Ask.{Ask}
use Rattle.alert_node.specs.declared.watch.Ask.TheVariants.{Expression, Reset}
use Rattle.alert_node.specs.Events.{tells}
use Rattle.alert_node.specs.Levels.{asks_at, evaluated, level_of}

-- ---- levels

-- WARNING above 50 and CRITICAL above 80, by a point's value; CRITICAL is held until a value is below 60
abbrev pub truth : ℕ → Ask → Option Bool
truth x (Expression Critical) = Some (nat_lt 80 x)
truth x (Expression Warning) = Some (nat_lt 50 x)
truth x (Expression Info) = None
truth x (Expression Fine) = None
truth x (Reset Critical) = Some (nat_lt x 60)
truth x (Reset Warning) = None
truth x (Reset Info) = None
truth x (Reset Fine) = None

-- the levels of points of these values, behind a level
abbrev pub levels_behind : Level → List ℕ → List Level
levels_behind level [] = []
levels_behind level (x ∷ xs) = level_of (truth x) level ∷ levels_behind (level_of (truth x) level) xs

-- 70 is held, 55 isn't, and is above 50
abbrev pub HeldByAReset : Type 0
HeldByAReset = levels_behind Fine (90 ∷ 70 ∷ 55 ∷ 10 ∷ []) ≡ Critical ∷ Critical ∷ Warning ∷ Fine ∷ []

-- ---- what is evaluated, in order

-- the highest level that is true decides
abbrev pub HighestFirst : Type 0
HighestFirst = evaluated (truth 90) (asks_at Fine) ≡ Expression Critical ∷ []

-- a reset that isn't true decides
abbrev pub ResetDecides : Type 0
ResetDecides = evaluated (truth 70) (asks_at Critical) ≡ Reset Critical ∷ []

-- behind one that is true come the expressions, from the same level down
abbrev pub BehindAReset : Type 0
BehindAReset = evaluated (truth 55) (asks_at Critical) ≡ Reset Critical ∷ Expression Critical ∷ Expression Warning ∷ []

-- levels above the group's come before it, and what isn't there isn't evaluated
abbrev pub AboveFirst : Type 0
AboveFirst = evaluated (truth 10) (asks_at Warning) ≡ Expression Critical ∷ Expression Warning ∷ []

-- ---- events

-- no condition
abbrev pub no_conditions : Conditions Lambda
no_conditions = record { info = None; warn = None; crit = None }

-- an alert without conditions
abbrev pub plain : Alert
plain = record {
  expressions = no_conditions;
  resets = no_conditions;
  id = [];
  message = [];
  topic = [];
  task = [];
  state_changes_only = false;
  no_recoveries = false;
}

-- the levels of these points of which events tell, behind a level
abbrev pub told : Alert → Level → List Level → List Level
told alert before [] = []
told alert before (now ∷ rest) = (if tells alert before now then now ∷ [] else []) ++ told alert now rest

-- each point above OK, and the first one at OK
abbrev pub EachAboveOk : Type 0
EachAboveOk = told plain Fine (Fine ∷ Critical ∷ Critical ∷ Fine ∷ Fine ∷ []) ≡ Critical ∷ Critical ∷ Fine ∷ []

-- with `.stateChangesOnly` those whose level differs from the one before
abbrev pub ChangesOnly : Type 0
ChangesOnly =
    told (record plain { state_changes_only = true }) Fine (Fine ∷ Critical ∷ Critical ∷ Fine ∷ Fine ∷ [])
    ≡ Critical ∷ Fine ∷ []

-- with `.noRecoveries` none at OK
abbrev pub NoRecoveries : Type 0
NoRecoveries =
    told (record plain { no_recoveries = true }) Fine (Fine ∷ Critical ∷ Critical ∷ Fine ∷ Fine ∷ [])
    ≡ Critical ∷ Critical ∷ []
