use Rattle.std.proofs.Common.{List, subst, sym}
use Rattle.std.proofs.lemmas.Result.{on_ok_weaker}
use Rattle.kap_base.specs.declared.items.Msg.{Msg}
use Rattle.flow_cells.specs.Loads.{Begins, IsOwn}
use Rattle.flow_life.proofs.LoadLaws.{loads-child, none-own}
use Rattle.flow_life.proofs.loads.load_child.Goals as goal

pub load-requires-clause-own : goal.load-requires-clause-own
load-requires-clause-own g c = subst (IsOwn c.args.cell.now.ins.items) (sym c.new.ensures.items) (none-own c.args.cell.now.ins.items)

pub returns-clause-loads : goal.returns-clause-loads
returns-clause-loads g c = on_ok_weaker c.load.result (λ b source.
    loads-child c.args.keeps source c.args.cell.now c.load.new.self c.requires.inputs (subst (λ (l : List Msg). Begins l c.args.keeps c.args.cell.now c.load.new.self) c.new.ensures.items b)) c.load.ensures.begins
