-- What an `eval` says of a point, by the points of its group before it.
use Rattle.std.specs.Prelude.{ℕ, ◌+◌, ◌==◌, ◌&&◌, Bool, true, if◌then◌else◌, List, [], ◌∷◌, ◌++◌, take, Option, Some, None, is_some, bytes_eq, slice_get}
use Rattle.std.specs.FinMap.{len, retain_keys}
use Rattle.std.specs.List.{list_any}
use Rattle.kap_base.specs.declared.items.Body.TheVariants as bodies
use Rattle.kap_base.specs.Points.{PointValue}
use Rattle.kap_base.specs.Tree.{Tree}
use Rattle.node_core.specs.declared.said.Said.{Said}
use Rattle.node_core.specs.Groups.{Came, GroupAnswer}
use Rattle.node_core.specs.Meaning.{Turn, a_drop}
use Rattle.task_graph.specs.declared.spec.EvalResult.{EvalResult}
use Rattle.task_graph.specs.declared.spec.EvalSpec.{EvalSpec}
use Rattle.task_graph.specs.declared.spec.Keep.{Keep}
use Rattle.task_graph.specs.declared.spec.Keep.TheVariants.{Results, All, Names}
use Rattle.eval_node.specs.Evaluations.{evaluated}

-- ---- a point

-- whether a field of this name is kept
abbrev pub is_kept : Keep → List (EvalResult Tree) → List ℕ → Bool
is_kept Results results name = list_any (λ x. bytes_eq x.name name) results
is_kept All results name = true
is_kept (Names names) results name = list_any (λ n. bytes_eq n name) names

-- a point with results among its fields, and of these fields the kept ones alone
abbrev pub with_kept : EvalSpec Tree → PointValue → PointValue
with_kept eval p = record p { fields = retain_keys p.fields (is_kept eval.keep eval.results) }

-- a point without fields is dropped and counted
abbrev pub unless_empty : PointValue → Said
unless_empty p = if len p.fields == 0 then a_drop else record { bodies = bodies.Point p ∷ []; deeds = []; drops = 0 }

-- and so is one at which a lambda had a fault
abbrev pub said_of : EvalSpec Tree → Option PointValue → Said
said_of eval None = a_drop
said_of eval (Some p) = unless_empty (with_kept eval p)

-- ---- a group

-- how often each lambda was evaluated at these points too, which came behind points with these numbers
abbrev pub counts_behind : List (EvalResult Tree) → List ℕ → List Came → List ℕ
counts_behind results counts [] = counts
counts_behind results counts (c ∷ cs) = counts_behind results (evaluated results counts c.1).counts cs

-- how often each lambda was evaluated at a group's points
abbrev pub counts_in : EvalSpec Tree → List Came → List ℕ
counts_in eval before = counts_behind eval.results [] before

-- what is said of a point, by the points of its group before it
abbrev pub eval_says : EvalSpec Tree → GroupAnswer
eval_says eval before port p = said_of eval (evaluated eval.results (counts_in eval before) p).point

-- ---- the same numbers, one by one

-- the lambda at this place is evaluated at a point: each lambda before it has a value there
abbrev pub is_reached : List (EvalResult Tree) → List ℕ → PointValue → ℕ → Bool
is_reached results counts p place =
    is_some (slice_get results place) && is_some (evaluated (take place results) counts p).point

-- at how many of these points it is evaluated, which came behind others of the group
abbrev pub evaluations_behind : EvalSpec Tree → ℕ → List Came → List Came → ℕ
evaluations_behind eval place before [] = 0
evaluations_behind eval place before (c ∷ cs) =
    (if is_reached eval.results (counts_in eval before) c.1 place then 1 else 0) + evaluations_behind eval place (before
    ++ c ∷ []) cs

-- at how many of a group's points it is evaluated
abbrev pub evaluations : EvalSpec Tree → ℕ → List Came → ℕ
evaluations eval place points = evaluations_behind eval place [] points

-- ---- the machine

-- a step, by what is kept
abbrev pub eval_step : EvalSpec Tree → List ℕ → ℕ → PointValue → Turn (List ℕ)
eval_step eval counts port p =
    let r = evaluated eval.results counts p in record { state = r.counts; said = said_of eval r.point }
