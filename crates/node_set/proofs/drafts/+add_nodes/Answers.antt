use Rattle.std.proofs.Common.{◌≡◌, [], sym, ◌∙◌}
use Rattle.std.proofs.lemmas.List.{nil_from_length}
use Rattle.node_set.proofs.DraftLaws.{adds_none}
use Rattle.node_set.proofs.drafts.+add_nodes.Goals as goal

pub returns-in-None : goal.returns-in-None
returns-in-None g t c =
    let none : c.args.nodes.rest.items ≡ [] = nil_from_length c.args.nodes.rest.items (sym c.args.nodes.rest.ok.0 ∙ c.in-None.ensures.cases.0) in
    rw none (adds_none _ _ _ _ _ _ _ _)
