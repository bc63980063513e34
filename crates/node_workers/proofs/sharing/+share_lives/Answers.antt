use Rattle.std.proofs.Common.{◌∷◌, ◌∙◌, rules, subst, sym, refl}
use Rattle.std.proofs.lemmas.List.{places, with_items_is}
use Rattle.std.specs.List.{AllZip}
use Rattle.node_workers.specs.Workers.{HasStood, HasStoodLife}
use Rattle.node_workers.proofs.sharing.+share_lives.Goals as goal

pub returns-in-Some : goal.returns-in-Some
returns-in-Some g t c =
    let first = c.in-Some.life.now in
    let dealt = subst (λ cells. AllZip HasStood cells c.deal_cells.new.cells) (c.deref_mut.ensures.value ∙ c.take_cells-cells.ensures.cells) c.deal_cells.ensures in
    let put = c.put_cells.ensures.cells ∙ with_items_is c.take_cells-cells.result c.deal_cells.new.cells (search (rules, places)) in
    subst (λ lives. AllZip (HasStoodLife g.N.Node) lives (record { number = first.number; life = c.put_cells.new.self } ∷ c.share_lives.new.lives)) (sym c.in-Some.ensures.cases.0)
    (record { number = refl; cells = subst (AllZip HasStood first.life.cells) (sym put) dealt; was = c.take_cells-cells.ensures.life }, c.share_lives.ensures)
