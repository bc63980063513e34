-- Examples: which lambdas of an `eval` are evaluated, and which fields stay.
use Rattle.std.specs.Prelude.{◌≡◌, ℕ, pos, true, false, codes, List, [], ◌∷◌}
use Rattle.std.specs.FinMap.{empty}
use Rattle.kap_base.specs.declared.expr.Lit.TheVariants as lits
use Rattle.kap_base.specs.declared.expr.Op.TheVariants.{Div, Eq}
use Rattle.kap_base.specs.Points.{PointValue}
use Rattle.kap_base.specs.Tree.{Tree, LitTree, CallTree, BinTree, NoTrees, MoreTrees}
use Rattle.node_core.specs.Groups.{Came}
use Rattle.node_core.specs.Meaning.{a_drop}
use Rattle.task_graph.specs.declared.spec.EvalResult.{EvalResult}
use Rattle.task_graph.specs.declared.spec.EvalSpec.{EvalSpec}
use Rattle.task_graph.specs.declared.spec.Keep.TheVariants.{Results, All, Names}
use Rattle.eval_node.specs.Evals.{counts_in, eval_says, is_kept}

-- the lambda `count()`
abbrev pub count : Tree
count = CallTree (codes "count") NoTrees 0

-- an integer of a script
abbrev pub number : ℕ → Tree
number n = LitTree (lits.Int (pos n)) 0

-- the lambda `if(count() == 2, 1 / 0, 7)`, which has a fault where it is evaluated for the second time
abbrev pub second_fails : Tree
second_fails =
    CallTree (codes "if")
    (MoreTrees (BinTree Eq count (number 2) 0)
    (MoreTrees (BinTree Div (number 1) (number 0) 0) (MoreTrees (number 7) NoTrees))) 0

-- these two, as `q` and `k`
abbrev pub results : List (EvalResult Tree)
results = record { lambda = second_fails; name = codes "q" } ∷ record { lambda = count; name = codes "k" } ∷ []

-- an `eval` of them
abbrev pub two : EvalSpec Tree
two = record { results = results; keep = Results }

-- some point
abbrev pub point : PointValue
point = record { db = []; rp = []; name = []; tags = empty; fields = empty; dims = []; by_name = false; time = pos 0 }

-- so it came
abbrev pub came : Came
came = (0, point)

-- behind a fault the later lambdas aren't evaluated, and the point is dropped and counted
abbrev pub FaultIsDropped : Type 0
FaultIsDropped = eval_says two (came ∷ []) 0 point ≡ a_drop

-- so that the second lambda was evaluated at two of three points
abbrev pub LaterAreNotEvaluated : Type 0
LaterAreNotEvaluated = counts_in two (came ∷ came ∷ came ∷ []) ≡ 3 ∷ 2 ∷ []

-- without `.keep` a field that is no result goes
abbrev pub ResultsAlone : Type 0
ResultsAlone = is_kept Results results (codes "x") ≡ false

-- with `.keep()` it stays
abbrev pub KeepAll : Type 0
KeepAll = is_kept All results (codes "x") ≡ true

-- with names a result goes that isn't named
abbrev pub KeepNames : Type 0
KeepNames = is_kept (Names (codes "x" ∷ [])) results (codes "q") ≡ false
