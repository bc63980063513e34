use Rattle.std.proofs.Common.{◌≡◌, true, subst, of_z, to_z}
use Rattle.std.specs.Int.{w64}
use Rattle.std.specs.Prelude.{IfOk}
use Rattle.std.specs.List.{list_all}
use Rattle.std.proofs.lemmas.Result.{IfOk-weaker}
use Rattle.kap_http.specs.AskValues.{WriteValue}
use Rattle.line_points.specs.declared.mode.Mode.TheVariants.{Live}
use Rattle.store_records.specs.Lines.{is_of}
use Rattle.kap_engine.proofs.LineLaws.{points_are_of}
use Rattle.engine_asks.proofs.writing.points_of.Goals as goal

pub returns-clause-of : goal.returns-clause-of
returns-clause-of c =
    subst (λ (w : WriteValue). IfOk c.read_body.result (λ points. list_all (is_of w.db w.rp) points ≡ true)) c.ask.view_is
    (IfOk-weaker c.read_body.result _ _ (λ points read. points_are_of c.ask.inside.db c.ask.inside.rp (Live c.unit_of.result (to_z w64 (of_z w64 c.args.now))) c.as_slice.result.now points read) c.read_body.ensures.points)
