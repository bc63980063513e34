use Rattle.std.proofs.Common.{[], sym}
use Rattle.node_core.proofs.CellLaws.{found_cell, new_cell}
use Rattle.node_core.proofs.table.hashed_at.Goals as goal

pub returns-in-Some-clause-ok : goal.returns-in-Some-clause-ok
returns-in-Some-clause-ok g c = found_cell c.args.cells.now c.args.key.now c.in-Some.at (g.R.Rule.kept c.args.rule.now []) c.get_index_of.ensures.unique (sym c.in-Some.ensures.index) c.in-Some.ensures.value c.in-Some.ensures.found

pub returns-in_ok-insert-in-None-clause-ok : goal.returns-in_ok-insert-in-None-clause-ok
returns-in_ok-insert-in-None-clause-ok g c = new_cell c.args.cells.now _ c.args.key.now _ (g.R.Rule.kept c.args.rule.now []) c.len-at.ensures.len c.in-None.ensures.found (rw (c.first.ensures, c.in_ok-key-in-None.ensures) at c.in_ok-insert-in-None.ensures.entries)
