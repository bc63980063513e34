use Rattle.std.proofs.Common.{◌≡◌, ◌∙◌, ℕ, ◌<◌, length, drop, get_or, List, Some, sym, ap}
use Rattle.std.specs.Prelude.{slice_set}
use Rattle.std.proofs.lemmas.List.{get_or_default, set-get_or}
use Rattle.kap_base.specs.Tree.{Tree}
use Rattle.task_graph.specs.declared.spec.EvalResult.{EvalResult}
use Rattle.eval_node.specs.Evaluations.{first_count}
use Rattle.eval_node.proofs.EvaluationLaws.{Evaluates, after_some, still_filled}
use Rattle.eval_node.proofs.evaluations.evaluate.Goals as goal

pub evaluating-preserved : goal.evaluating-preserved
evaluating-preserved c =
    let inv = c.evaluating.invariant in
    let place = c.evaluating.place in
    let read = c.index-results-place.result in
    let due : EvalResult Tree = get_or c.evaluating.results place read in
    let short : place < length c.args.results.now = c.evaluating-test.true in
    let still : place < length c.evaluating.results = rw inv.kept short in
    let kept : c.add_result.new.due ≡ due = c.in_ok-next.ensures.kept in
    let stays : slice_set c.evaluating.results place c.add_result.new.due ≡ c.args.results.now =
    ap (slice_set c.evaluating.results place) kept ∙ set-get_or c.evaluating.results place read ∙ inv.kept in
    let here : due ≡ get_or c.args.results.now place due =
    get_or_default c.evaluating.results place read due still ∙ ap (λ (l : List (EvalResult Tree)). get_or l place due) inv.kept in
    let e : Evaluates c.args.results.now place due c.evaluating.numbers.items c.put_count.new.numbers.items c.evaluating.seen c.count_at-k.result c.in_ok-next_count.field-0 (Some c.in-Some.next) =
    record {
      within = short;
      filled = inv.filled;
      count = c.count_at-k.ensures ∙ ap (λ (l : List ℕ). first_count (drop place l)) c.deref.ensures.value;
      more = c.in_ok-next_count.ensures;
      put = c.in_ok-put_count.ensures;
      here = here;
      gives = sym c.in-Some.is ∙ c.in_ok-next.ensures.point;
    } in
    record {
      kept = stays;
      filled = still_filled _ _ _ _ _ _ _ _ _ e;
      same = after_some _ _ _ _ _ _ _ _ _ e ∙ inv.same;
    }
