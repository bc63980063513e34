use Rattle.std.proofs.Common.{rules, subst, sym}
use Rattle.std.proofs.lemmas.List.{places, with_items_is}
use Rattle.std.specs.List.{AllZip}
use Rattle.node_workers.specs.Workers.{HasStoodLife}
use Rattle.node_workers.proofs.epochs.move_cells.Goals as goal

pub returns : goal.returns
returns g c =
    let old = c.args.cells.now.lives in
    let new = c.run_workers.new.lives in
    subst (AllZip (HasStoodLife g.N.Node) old.items) (sym (with_items_is old new (search (rules, places))))
    (subst (λ l. AllZip (HasStoodLife g.N.Node) l new) c.deref_mut.ensures.value c.run_workers.ensures)
