use Rattle.std.proofs.Common.{◌≡◌, filter, take}
use Rattle.eval_node.specs.Evals.{is_kept}
use Rattle.eval_node.proofs.fields.copies_of_kept.Given as goal

abbrev pub invariant-copying : goal.invariant-copying
invariant-copying l = l.left.items ≡ filter (λ e. is_kept l.keep l.results e.0) (take l.field-index l.fields)
