-- `stateCount`: at how many points in a row a condition is true.
use Rattle.std.specs.Prelude.{◌≡◌, ℕ, ◌+◌, ℤ, pos, negsuc, Bool, true, false, List, [], ◌∷◌, ◌++◌, length, codes, Option, Some, None, filter_map, refl}
use Rattle.std.specs.List.{enumerate_from, suffix_len}
use Rattle.std.proofs.Common.{arith, ap, sym, ◌∙◌, append-nil, length-append}
use Rattle.std.proofs.lemmas.List.{reverse-append}
use Rattle.std.proofs.lemmas.List.Elements.{filter_map-append}
use Rattle.kap_base.specs.Points.{PointValue}
use Rattle.kap_base.specs.Tree.{Tree}
use Rattle.kap_base.specs.declared.value.Value.{Value}
use Rattle.kap_base.specs.declared.value.Value.TheVariants.{Bool as Truth}
use Rattle.lambda_eval.specs.Outcomes.{value_or_none}
use Rattle.lambda_eval.specs.Values.{val}
use Rattle.node_core.specs.declared.said.Said.{Said}
use Rattle.node_core.specs.Groups.{Came, GroupAnswer}
use Rattle.node_core.specs.Meaning.{Turn, a_drop, passed}
use Rattle.task_graph.specs.declared.spec.StateCountSpec.{StateCountSpec}
use Rattle.state_nodes.specs.Words.{result_name, with_number}

-- ---- the condition

-- what a condition is: nothing where it has a fault, and false where its value is no truth value
abbrev pub truth_of : Option Value → Option Bool
truth_of None = None
truth_of (Some (Truth b)) = Some b
truth_of (Some _) = Some false

-- what it is at a point, where it was evaluated so often before in the point's group
abbrev pub truth_at : Tree → ℕ → PointValue → Option Bool
truth_at condition k p = truth_of (value_or_none (val condition k p))

-- what it is at a group's points, in order, without those at which it has a fault; it is evaluated at each of them
abbrev pub truths : Tree → List Came → List Bool
truths condition points = filter_map (λ e. truth_at condition e.0 e.1.1) (enumerate_from 0 points)

-- ---- the number

-- how many are true in a row up to the end
abbrev pub true_run : List Bool → ℕ
true_run truths = suffix_len (λ b. b) truths

-- the number at a point without a fault, by what the condition was before: of the points in a row up to this one at
-- which it is true, or -1 where it is false here
abbrev pub state_number : List Bool → Bool → ℤ
state_number before true = pos (true_run (before ++ true ∷ []))
state_number before false = negsuc 0

-- the point with the number among its fields; where the condition has a fault it is dropped and counted
abbrev pub numbered : Option (List ℕ) → List Bool → Option Bool → PointValue → Said
numbered name before None p = a_drop
numbered name before (Some b) p =
    passed (with_number (result_name (codes "state_count") name) (state_number before b) p)

-- what is said of a point, by the points of its group before it
abbrev pub state_count_says : StateCountSpec Tree → GroupAnswer
state_count_says spec before port p =
    numbered spec.name (truths spec.condition before) (truth_at spec.condition (length before) p) p

-- ---- what is kept of a group: how often the condition was evaluated, and at how many points in a row it was true

-- how many evaluations there were, and how many true ones stand last
abbrev pub counts_in : StateCountSpec Tree → List Came → ℕ × ℕ
counts_in spec points = (length points, true_run (truths spec.condition points))

-- the run behind a point
abbrev pub run_behind : ℕ → Option Bool → ℕ
run_behind run None = run
run_behind run (Some true) = run + 1
run_behind run (Some false) = 0

-- the number at a point, behind such a run
abbrev pub number_behind : ℕ → Bool → ℤ
number_behind run true = pos (run + 1)
number_behind run false = negsuc 0

-- what is said of a point by the truth of its condition, behind so many true ones
abbrev pub numbered_behind : Option (List ℕ) → ℕ → Option Bool → PointValue → Said
numbered_behind name run None p = a_drop
numbered_behind name run (Some b) p =
    passed (with_number (result_name (codes "state_count") name) (number_behind run b) p)

-- a step, by what is kept
abbrev pub state_count_step : StateCountSpec Tree → ℕ × ℕ → ℕ → PointValue → Turn (ℕ × ℕ)
state_count_step spec kept port p =
    let truth = truth_at spec.condition kept.0 p in
    record { state = (kept.0 + 1, run_behind kept.1 truth); said = numbered_behind spec.name kept.1 truth p }

-- ---- laws

enumerate_push : {A : Type 0} (n : ℕ) (xs : List A) (x : A) → enumerate_from n (xs ++ x ∷ []) ≡ enumerate_from n xs
    ++ (n + length xs, x) ∷ []
enumerate_push n [] x = let e : n ≡ n + 0 = omega arith in ap (λ (k : ℕ). (k, x) ∷ []) e
enumerate_push n (y ∷ xs) x =
    let e : n + 1 + length xs ≡ n + length (y ∷ xs) = omega arith in
    ap (λ l. (n, y) ∷ l) (enumerate_push (n + 1) xs x ∙ ap (λ (k : ℕ). enumerate_from (n + 1) xs ++ (k, x) ∷ []) e)

truths_at : Option Bool → List Bool
truths_at o = filter_map (λ (p : Option Bool). p) (o ∷ [])

-- the truths of points, and of one more
truths_more : (condition : Tree) (cs : List Came) (c : Came) → truths condition (cs ++ c ∷ []) ≡ truths condition cs
    ++ truths_at (truth_at condition (length cs) c.1)
unfolding truths_at
truths_more condition cs c =
    let h : ℕ × Came → Option Bool = λ e. truth_at condition e.0 e.1.1 in
    let place : 0 + length cs ≡ length cs = omega arith in
    ap (filter_map h) (enumerate_push 0 cs c)
    ∙ filter_map-append h (enumerate_from 0 cs) ((0 + length cs, c) ∷ [])
    ∙ ap (λ (k : ℕ). truths condition cs ++ filter_map h ((k, c) ∷ [])) place

-- one true one more
pub true_run-true : (truths : List Bool) → true_run (truths ++ true ∷ []) ≡ true_run truths + 1
true_run-true truths = rw (reverse-append truths (true ∷ [])) (omega arith)

-- behind a false one there is none
pub true_run-false : (truths : List Bool) → true_run (truths ++ false ∷ []) ≡ 0
true_run-false truths = rw (reverse-append truths (false ∷ [])) refl

run_more : (truths : List Bool) (o : Option Bool) → run_behind (true_run truths) o ≡ true_run (truths ++ truths_at o)
unfolding truths_at
run_more truths None = ap true_run (sym (append-nil truths))
run_more truths (Some true) = sym (true_run-true truths)
run_more truths (Some false) = sym (true_run-false truths)

number_is : (truths : List Bool) (b : Bool) → number_behind (true_run truths) b ≡ state_number truths b
number_is truths true = ap pos (sym (true_run-true truths))
number_is truths false = refl

numbered_is : (name : Option (List ℕ)) (truths : List Bool) (o : Option Bool) (p : PointValue)
    → numbered_behind name (true_run truths) o p ≡ numbered name truths o p
numbered_is name truths None p = refl
numbered_is name truths (Some b) p =
    ap (λ (n : ℤ). passed (with_number (result_name (codes "state_count") name) n p)) (number_is truths b)

made : ℕ → ℕ → Said → Turn (ℕ × ℕ)
made k run said = record { state = (k, run); said = said }

-- what is kept, and what is said, of one point more
pub state_count_goes_on : (spec : StateCountSpec Tree) (before : List Came) (port : ℕ) (p : PointValue)
    → state_count_step spec (counts_in spec before) port p
    ≡ record { state = counts_in spec (before ++ (port, p) ∷ []); said = state_count_says spec before port p }
unfolding made
state_count_goes_on spec before port p =
    let truth = truth_at spec.condition (length before) p in
    let ts = truths spec.condition before in
    let more : length before + 1
    ≡ length (before ++ (port, p) ∷ []) = omega (arith, length-append before ((port, p) ∷ [])) in
    let run : run_behind (true_run ts) truth ≡ true_run (truths spec.condition (before ++ (port, p) ∷ [])) =
    run_more ts truth ∙ ap true_run (sym (truths_more spec.condition before (port, p))) in
    (λ i. made (more i) (run i) (numbered_is spec.name ts truth p i))
