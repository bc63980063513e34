use Rattle.std.proofs.Common.{◌≡◌, Ok, drop, IsTrue}
use Rattle.kap_base.specs.Points.{is_value}
use Rattle.lambda_eval.specs.Values.{joined_by_and, val}
use Rattle.lambda_eval.proofs.JoinLaws.{conjunction}
use Rattle.lambda_eval.proofs.values.value_of_all.Given as goal

-- the value so far, with the conditions that are left behind it, gives the value of all
abbrev pub invariant-joining : goal.invariant-joining
invariant-joining l = record {
  kept : l.lambdas ≡ l.fn.lambdas;
  value : conjunction l.at (Ok l.value) (drop l.place l.fn.lambdas) l.k l.point ≡ val (joined_by_and l.at l.fn.lambdas) l.k l.point;
  field : IsTrue (is_value l.value);
}
