use Rattle.std.proofs.Common.{◌≡◌, ◌≤◌, length}
use Rattle.eval_node.specs.Evaluations.{evaluated}
use Rattle.eval_node.proofs.EvaluationLaws.{ended}
use Rattle.eval_node.proofs.evaluations.evaluate.Given as goal

-- the lambdas are as they were, each before this one has a number, and what is left gives the whole
abbrev pub invariant-evaluating : goal.invariant-evaluating
invariant-evaluating l = record {
  kept : l.results ≡ l.fn.results;
  filled : l.place ≤ length l.numbers.items;
  same : ended l.fn.results l.place l.numbers.items l.seen ≡ evaluated l.fn.results l.fn.numbers.items l.fn.point;
}
