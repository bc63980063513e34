-- The machine of an `eval` goes on as the definition says.
use Rattle.std.specs.Prelude.{◌≡◌, ℕ, List, [], ◌∷◌, ◌++◌, refl}
use Rattle.std.proofs.Common.{ap, sym}
use Rattle.kap_base.specs.Points.{PointValue}
use Rattle.kap_base.specs.Tree.{Tree}
use Rattle.node_core.specs.declared.said.Said.{Said}
use Rattle.node_core.specs.Groups.{Came}
use Rattle.node_core.specs.Meaning.{Turn}
use Rattle.task_graph.specs.declared.spec.EvalResult.{EvalResult}
use Rattle.task_graph.specs.declared.spec.EvalSpec.{EvalSpec}
use Rattle.eval_node.specs.Evaluations.{evaluated}
use Rattle.eval_node.specs.Evals.{counts_behind, counts_in, eval_says, eval_step}

-- the numbers behind one point more
pub counts_more : (results : List (EvalResult Tree)) (counts : List ℕ) (cs : List Came) (c : Came)
    → counts_behind results counts (cs ++ c ∷ []) ≡ (evaluated results (counts_behind results counts cs) c.1).counts
counts_more results counts [] c = refl
counts_more results counts (d ∷ cs) c = counts_more results (evaluated results counts d.1).counts cs c

-- what is kept and said
turn : Said → List ℕ → Turn (List ℕ)
turn said counts = record { state = counts; said = said }

-- what is kept, and what is said, of one point more
pub eval_goes_on : (eval : EvalSpec Tree) (before : List Came) (port : ℕ) (p : PointValue)
    → eval_step eval (counts_in eval before) port p
    ≡ record { state = counts_in eval (before ++ (port, p) ∷ []); said = eval_says eval before port p }
unfolding turn
eval_goes_on eval before port p =
    ap (turn (eval_says eval before port p)) (sym (counts_more eval.results [] before (port, p)))
