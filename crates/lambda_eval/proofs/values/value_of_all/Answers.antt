use Rattle.std.proofs.Common.{◌<◌, ◌≤◌, ◌∙◌, ap, sym, length, rules, drop, Ok}
use Rattle.std.proofs.lemmas.List.{drop_all}
use Rattle.std.proofs.lemmas.Result.{err_from_is_err_and}
use Rattle.lambda_eval.proofs.JoinLaws.{conjunction, fault_ends, fault_stays, first_of_all}
use Rattle.lambda_eval.proofs.Sound.{answer_typed}
use Rattle.lambda_eval.specs.Values.{joined_by_and}
use Rattle.lambda_eval.proofs.values.value_of_all.Goals as goal

pub returns-in_err-value-clause-answer : goal.returns-in_err-value-clause-answer
returns-in_err-value-clause-answer c =
    let p = err_from_is_err_and c.from_residual.result c.from_residual.ensures.1 in
    let filled : 0 < length c.args.lambdas.now = search rules in
    let all = first_of_all c.args.at c.args.lambdas.now c.index-lambdas-0.result c.args.k c.args.point.now filled in
    rw (p.1, p.2) (λ n. all ∙ ap (λ r. conjunction c.args.at r (drop 1 c.args.lambdas.now) c.args.k c.args.point.now) (c.in_err-value.ensures.answer n) ∙ fault_stays c.args.at _ (drop 1 c.args.lambdas.now) c.args.k c.args.point.now)

pub returns-in_err-value-clause-typed : goal.returns-in_err-value-clause-typed
returns-in_err-value-clause-typed c = answer_typed _ (joined_by_and c.args.at c.args.lambdas.now) c.args.k c.args.point.now (returns-in_err-value-clause-answer c)

pub joining-init : goal.joining-init
joining-init c =
    let filled : 0 < length c.args.lambdas.now = search rules in
    let all = first_of_all c.args.at c.args.lambdas.now c.index-lambdas-0.result c.args.k c.args.point.now filled in
    record {
      kept = search rules;
      value = ap (λ r. conjunction c.args.at r (drop 1 c.args.lambdas.now) c.args.k c.args.point.now) (sym c.in_ok-value.ensures.answer) ∙ sym all;
      field = c.in_ok-value.ensures.field;
    }

pub returns-in_err-value-2-clause-answer : goal.returns-in_err-value-2-clause-answer
returns-in_err-value-2-clause-answer c =
    let p = err_from_is_err_and c.from_residual-in_err-value-2.result c.from_residual-in_err-value-2.ensures.1 in
    let within : c.joining.place < length c.args.lambdas.now = search rules in
    rw (p.1, p.2) (λ n. sym c.joining.invariant.value ∙ fault_ends c.args.at c.joining.value c.args.lambdas.now c.joining.place c.index-lambdas-place.result c.args.k c.args.point.now _ within (rw c.joining.invariant.kept at (c.in_err-value-2.ensures.answer n)))

pub returns-in_err-value-2-clause-typed : goal.returns-in_err-value-2-clause-typed
returns-in_err-value-2-clause-typed c = answer_typed _ (joined_by_and c.args.at c.args.lambdas.now) c.args.k c.args.point.now (returns-in_err-value-2-clause-answer c)

pub returns-clause-typed : goal.returns-clause-typed
returns-clause-typed c =
    let past : length c.args.lambdas.now ≤ c.joining.place = search rules in
    let ended = sym c.joining.invariant.value ∙ ap (λ l. conjunction c.args.at (Ok c.joining.value) l c.args.k c.args.point.now) (drop_all c.joining.place c.args.lambdas.now past) in
    answer_typed (Ok c.joining.value) (joined_by_and c.args.at c.args.lambdas.now) c.args.k c.args.point.now ended
