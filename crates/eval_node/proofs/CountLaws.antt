-- The number that is kept of a lambda is how often it was evaluated.
use Rattle.std.proofs.Common.{◌≡◌, ℕ, zero, suc, ◌+◌, Bool, true, false, ◌&&◌, List, [], ◌∷◌, ◌++◌, take, Option, Some, None, is_some, refl, sym, ap, ◌∙◌, append_assoc, append-nil, add-zero, arith, slice_get, slice_index, if◌then◌else◌}
use Rattle.kap_base.specs.declared.value.Value.{Value}
use Rattle.kap_base.specs.Points.{PointValue}
use Rattle.kap_base.specs.Tree.{Tree}
use Rattle.lambda_eval.specs.Outcomes.{value_or_none}
use Rattle.lambda_eval.specs.Values.{val}
use Rattle.node_core.specs.Groups.{Came}
use Rattle.task_graph.specs.declared.spec.EvalResult.{EvalResult}
use Rattle.task_graph.specs.declared.spec.EvalSpec.{EvalSpec}
use Rattle.eval_node.specs.Evaluations.{evaluated, first_count, followed, other_counts, with_result}
use Rattle.eval_node.specs.Evals.{counts_in, evaluations, evaluations_behind, is_reached}
use Rattle.eval_node.specs.EvalLaws.{counts_more}

first_is : (counts : List ℕ) → first_count counts ≡ slice_index counts 0
first_is [] = refl
first_is (k ∷ counts) = refl

other_is : (counts : List ℕ) (n : ℕ) → slice_index (other_counts counts) n ≡ slice_index counts (suc n)
other_is [] n = refl
other_is (k ∷ counts) n = refl

-- one where both hold
abbrev once : Bool → Bool → ℕ
once a b = if a && b then 1 else 0

never : (a : Bool) (n : ℕ) → n ≡ n + once a false
never true n = sym (add-zero n)
never false n = sym (add-zero n)

-- the first lambda is evaluated at each point
first_more : (xs : List (EvalResult Tree)) (counts : List ℕ) (name : List ℕ) (p : PointValue) (v : Option Value)
    → slice_index (followed (first_count counts) (other_counts counts) name p (evaluated xs) v).counts 0 ≡ slice_index counts 0 + 1
first_more xs counts name p None = ap (λ k. k + 1) (first_is counts)
first_more xs counts name p (Some v) = ap (λ k. k + 1) (first_is counts)

-- another one where those behind the first reach it
other_more : (xs : List (EvalResult Tree)) (counts : List ℕ) (name : List ℕ) (p : PointValue) (n : ℕ)
    → ((v : Value) → slice_index (evaluated xs (other_counts counts) (with_result name v p)).counts n
    ≡ slice_index (other_counts counts) n + (if is_reached xs (other_counts counts) (with_result name v p) n then 1 else 0))
    → (v : Option Value)
    → slice_index (followed (first_count counts) (other_counts counts) name p (evaluated xs) v).counts (suc n)
    ≡ slice_index counts (suc n) + once (is_some (slice_get xs n)) (is_some (followed (first_count counts) (other_counts counts) name p (evaluated (take n xs)) v).point)
other_more xs counts name p n more None = other_is counts n ∙ never (is_some (slice_get xs n)) (slice_index counts (suc n))
other_more xs counts name p n more (Some v) =
    more v ∙ ap (λ k. k + once (is_some (slice_get xs n)) (is_some (evaluated (take n xs) (other_counts counts) (with_result name v p)).point)) (other_is counts n)

-- a point counts for a lambda where it is evaluated there
one_more : (xs : List (EvalResult Tree)) (counts : List ℕ) (p : PointValue) (place : ℕ)
    → slice_index (evaluated xs counts p).counts place ≡ slice_index counts place + (if is_reached xs counts p place then 1 else 0)
one_more [] counts p place = sym (add-zero _)
one_more (x ∷ xs) counts p zero = first_more xs counts x.name p (value_or_none (val x.lambda (first_count counts) p))
one_more (x ∷ xs) counts p (suc n) =
    other_more xs counts x.name p n (λ (v : Value). one_more xs (other_counts counts) (with_result x.name v p) n) (value_or_none (val x.lambda (first_count counts) p))

count_from : (eval : EvalSpec Tree) (place : ℕ) (before cs : List Came)
    → slice_index (counts_in eval (before ++ cs)) place ≡ slice_index (counts_in eval before) place + evaluations_behind eval place before cs
count_from eval place before [] = ap (λ l. slice_index (counts_in eval l) place) (append-nil before) ∙ sym (add-zero _)
count_from eval place before (c ∷ cs) =
    let split : before ++ (c ∷ cs) ≡ (before ++ c ∷ []) ++ cs = sym (append_assoc before (c ∷ []) cs) in
    let rest = count_from eval place (before ++ c ∷ []) cs in
    let more = ap (λ l. slice_index l place) (counts_more eval.results [] before c) in
    let one = one_more eval.results (counts_in eval before) c.1 place in
    ap (λ l. slice_index (counts_in eval l) place) split ∙ omega (arith, rest, more, one)

pub count_is : (eval : EvalSpec Tree) (place : ℕ) (points : List Came) → slice_index (counts_in eval points) place ≡ evaluations eval place points
count_is eval place points = let all = count_from eval place [] points in omega (arith, all)
