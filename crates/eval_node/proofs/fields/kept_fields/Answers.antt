use Rattle.std.proofs.Common.{◌≡◌, sym, ap, ◌∙◌}
use Rattle.std.specs.Prelude.{filter}
use Rattle.std.specs.List.{list_all}
use Rattle.std.specs.FinMap.{empty, retain_keys}
use Rattle.kap_base.specs.Maps.{with_entries}
use Rattle.eval_node.specs.Evals.{is_kept}
use Rattle.kap_base.proofs.RetainLaws.{left_of, nothing_goes}
use Rattle.eval_node.proofs.fields.kept_fields.Goals as goal

pub returns-then-are_kept : goal.returns-then-are_kept
returns-then-are_kept c =
    let kept = is_kept c.args.keep.now c.args.results.now in
    nothing_goes kept c.args.fields (ap (list_all (λ e. kept e.0)) (sym c.entries.ensures) ∙ sym c.are_kept.ensures ∙ c.if-are_kept.true)

pub returns : goal.returns
returns c =
    let kept = is_kept c.args.keep.now c.args.results.now in
    let e : with_entries empty c.in_ok-left.left.items ≡ retain_keys c.args.fields kept =
    left_of kept c.args.fields c.in_ok-left.left.items (c.in_ok-left.ensures ∙ ap (filter (λ e. kept e.0)) c.entries-2.ensures) in
    rw (← e) c.from_entries.ensures
