use Rattle.std.proofs.Common.{refl}
use Rattle.std.proofs.lemmas.Result.{IfOk-weaker}
use Rattle.flow_life.proofs.LoadLaws.{sees-equal, sees-none}
use Rattle.flow_life.proofs.loads.source_for.Goals as goal

pub returns-then-not-has_stream : goal.returns-then-not-has_stream
returns-then-not-has_stream g c = sees-none c.args.source.now _ c.args.cells.now (c.if-not-has_stream.ensures.no refl)

pub returns : goal.returns
returns g c = IfOk-weaker c.copies.result _ _ (λ own same. sees-equal c.args.source.now own.items c.args.cells.now same) c.copies.ensures
