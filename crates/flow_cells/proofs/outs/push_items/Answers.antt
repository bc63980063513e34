use Rattle.std.proofs.Common.{◌≡◌, ◌∙◌, List, [], map, length, reverse, ap, sym}
use Rattle.std.proofs.lemmas.List.{nil_from_length}
use Rattle.kap_base.specs.declared.items.Item.{Item}
use Rattle.flow_cells.specs.Outs.{item_msgs, with_unsent}
use Rattle.flow_cells.proofs.OutLaws.{items_more, with_unsent-none}
use Rattle.flow_cells.proofs.outs.push_items.Goals as goal

pub pushing-preserved : goal.pushing-preserved
pushing-preserved c =
    items_more c.pushing.rest.items c.pop.new.self.items c.in-Some.item c.pushing.outs.items c.push_each.new.outs.items c.in-Some.ensures.items c.in_ok-push_each.ensures
    ∙ c.pushing.invariant

pub returns : goal.returns
returns c =
    let none : length c.pushing.rest.items ≡ 0 = sym c.pushing.rest.ok.0 ∙ c.in_default.ensures.cases.0 in
    let empty : c.pushing.rest.items ≡ [] = nil_from_length c.pushing.rest.items none in
    sym (with_unsent-none c.pushing.outs.items)
    ∙ ap (λ (l : List Item). map (with_unsent (item_msgs (reverse l))) c.pushing.outs.items) (sym empty)
    ∙ c.pushing.invariant
