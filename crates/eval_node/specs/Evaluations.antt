-- The lambdas of an `eval` at a point, in order.
use Rattle.std.specs.Prelude.{ℕ, ◌+◌, List, [], ◌∷◌, Option, Some, None}
use Rattle.std.specs.FinMap.{insert}
use Rattle.kap_base.specs.declared.value.Value.{Value}
use Rattle.kap_base.specs.Points.{PointValue}
use Rattle.kap_base.specs.Tree.{Tree}
use Rattle.lambda_eval.specs.Outcomes.{value_or_none}
use Rattle.lambda_eval.specs.Values.{val}
use Rattle.task_graph.specs.declared.spec.EvalResult.{EvalResult}

-- how often each lambda was evaluated, in their order; a number that is missing is 0
abbrev pub first_count : List ℕ → ℕ
first_count [] = 0
first_count (k ∷ ks) = k

-- the numbers of the lambdas behind the first
abbrev pub other_counts : List ℕ → List ℕ
other_counts [] = []
other_counts (k ∷ ks) = ks

-- these numbers behind a point, and the point with all results among its fields, or nothing where a lambda had a fault
pub record Evaluated : Type 0 where
  pub counts : List ℕ
  pub point : Option PointValue

-- the point with a result among its fields, in the place of a field of that name
abbrev pub with_result : List ℕ → Value → PointValue → PointValue
with_result name value p = record p { fields = insert p.fields name value }

-- one evaluation more of the first lambda
abbrev pub counted : ℕ → Evaluated → Evaluated
counted k others = record { counts = (k + 1) ∷ others.counts; point = others.point }

-- What follows the value of a lambda that was evaluated k times before: the others, which see it. Behind a fault they
-- aren't evaluated, and their numbers stay.
abbrev pub followed : ℕ → List ℕ → List ℕ → PointValue → (List ℕ → PointValue → Evaluated) → Option Value → Evaluated
followed k counts name p others None = record { counts = (k + 1) ∷ counts; point = None }
followed k counts name p others (Some value) = counted k (others counts (with_result name value p))

-- lambdas in order, which were evaluated so often before in the point's group
abbrev pub evaluated : List (EvalResult Tree) → List ℕ → PointValue → Evaluated
evaluated [] counts p = record { counts = counts; point = Some p }
evaluated (x ∷ xs) counts p =
    followed (first_count counts) (other_counts counts) x.name p (evaluated xs)
    (value_or_none (val x.lambda (first_count counts) p))
