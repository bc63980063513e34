-- The level of a group, and how often each expression and each reset was evaluated at its points.
use Rattle.std.specs.Prelude.{ℕ, ◌+◌, Bool, false, List, [], ◌∷◌, ◌++◌, fold, Option, Some, None}
use Rattle.kap_base.specs.declared.items.Level.{Level}
use Rattle.kap_base.specs.declared.items.Level.TheVariants.{Fine, Info, Warning, Critical}
use Rattle.kap_base.specs.Points.{PointValue}
use Rattle.lambda_eval.specs.Outcomes.{is_true, value_or_none}
use Rattle.lambda_eval.specs.Values.{val}
use Rattle.lambda_types.specs.declared.lambda.Lambda.{Lambda}
use Rattle.node_core.specs.Groups.{Came}
use Rattle.task_graph.specs.declared.spec.Conditions.{Conditions}
use Rattle.alert_node.specs.declared.alert.Alert.{Alert}
use Rattle.alert_node.specs.declared.watch.Ask.{Ask}
use Rattle.alert_node.specs.declared.watch.Ask.TheVariants.{Expression, Reset}
use Rattle.alert_node.specs.declared.watch.Counts.{Counts}
use Rattle.alert_node.specs.declared.watch.Watch.{Watch}
use Rattle.kap_base.specs.Levels.{same_level}
use Rattle.alert_node.specs.Levels.{asks_at, evaluated, level_of}

-- ---- numbers

-- that of a level; OK has neither an expression nor a reset
abbrev pub number_of : Counts → Level → ℕ
number_of counts Fine = 0
number_of counts Info = counts.info
number_of counts Warning = counts.warn
number_of counts Critical = counts.crit

-- the numbers with one more at a level; OK has none
abbrev pub one_more : Counts → Level → Counts
one_more counts Fine = counts
one_more counts Info = record counts { info = counts.info + 1 }
one_more counts Warning = record counts { warn = counts.warn + 1 }
one_more counts Critical = record counts { crit = counts.crit + 1 }

-- how often it was evaluated
abbrev pub count_of : Watch → Ask → ℕ
count_of watch (Expression level) = number_of watch.expressions level
count_of watch (Reset level) = number_of watch.resets level

-- one evaluation more
abbrev pub counted : Watch → Ask → Watch
counted watch (Expression level) = record watch { expressions = one_more watch.expressions level }
counted watch (Reset level) = record watch { resets = one_more watch.resets level }

-- ---- conditions

-- that of a level, if there is one
abbrev pub condition_of : Conditions Lambda → Level → Option Lambda
condition_of conditions Fine = None
condition_of conditions Info = conditions.info
condition_of conditions Warning = conditions.warn
condition_of conditions Critical = conditions.crit

-- the expression or the reset
abbrev pub lambda_of : Alert → Ask → Option Lambda
lambda_of alert (Expression level) = condition_of alert.expressions level
lambda_of alert (Reset level) = condition_of alert.resets level

-- Whether a condition is true at a point, where it was evaluated so often before in the point's group. A condition that
-- has a fault there isn't true. None where there is no condition.
abbrev pub truth_at : Option Lambda → ℕ → PointValue → Option Bool
truth_at None k p = None
truth_at (Some lambda) k p = Some (is_true (value_or_none (val lambda k p)))

-- whether an expression or a reset is true at a point of a group, by how often each was evaluated before
abbrev pub truth_of : Alert → Watch → PointValue → Ask → Option Bool
truth_of alert watch p ask = truth_at (lambda_of alert ask) (count_of watch ask) p

-- ---- a group

-- what is evaluated at a point
abbrev pub evaluated_at : Alert → Watch → PointValue → List Ask
evaluated_at alert watch p = evaluated (truth_of alert watch p) (asks_at watch.level)

-- behind a point: its level, and each evaluation counted
abbrev pub watched : Alert → Watch → PointValue → Watch
watched alert watch p =
    record (fold counted watch (evaluated_at alert watch p)) { level = level_of (truth_of alert watch p) watch.level }

-- of a group without points
abbrev pub unwatched : Watch
unwatched =
    let none : Counts = record { info = 0; warn = 0; crit = 0 } in
    record { level = Fine; expressions = none; resets = none }

-- the level of a group and its numbers, by its points
abbrev pub watch_in : Alert → List Came → Watch
watch_in alert points = fold (λ watch c. watched alert watch c.1) unwatched points

-- ---- the same numbers, one by one

-- the same expression, or the same reset
abbrev pub same_ask : Ask → Ask → Bool
same_ask (Expression one) (Expression other) = same_level one other
same_ask (Expression one) (Reset other) = false
same_ask (Reset one) (Expression other) = false
same_ask (Reset one) (Reset other) = same_level one other

-- what is evaluated at these points, which came behind others, in order
abbrev pub evaluations_behind : Alert → Watch → List Came → List Ask
evaluations_behind alert watch [] = []
evaluations_behind alert watch (c ∷ cs) =
    evaluated_at alert watch c.1 ++ evaluations_behind alert (watched alert watch c.1) cs

-- what is evaluated at a group's points, in order
abbrev pub evaluations : Alert → List Came → List Ask
evaluations alert points = evaluations_behind alert unwatched points
