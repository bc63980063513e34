use Rattle.std.proofs.Common.{◌≡◌, ℕ, List, ◌∷◌, sym, ap, ◌∙◌}
use Rattle.std.specs.FinMap.{is_sorted}
use Rattle.kap_base.specs.Maps.{byte_order}
use Rattle.kap_base.proofs.ManyLaws.{rises_step}
use Rattle.node_core.proofs.table.are_rising.Goals as goal

pub passing-preserved : goal.passing-preserved
passing-preserved g c =
    let cases : c.passing.rest.now ≡ c.in-Some.first.now ∷ c.in-Some.others.now = c.in-Some.ensures.cases.0 in
    rises_step c.in-Some.first.now c.in-Some.others.now (sym c.if-not-is_below.ensures)
    ∙ ap (λ (es : List (List ℕ × g.row.C.Denot)). is_sorted byte_order es) (sym cases)
    ∙ c.passing.invariant
