use Rattle.std.proofs.Common.{sym}
use Rattle.line_points.proofs.BodyLaws.{by_length, line_no_feed, lines-start, lines-next, lines-fail, lines-reached, lines-end}
use Rattle.line_points.proofs.body.read_body.Goals as goal

pub add_line-requires-clause-line : goal.add_line-requires-clause-line
add_line-requires-clause-line c = line_no_feed c.lines.rest.now c.first_line.result.0.now c.without_return-line.result.now c.first_line.ensures.line c.without_return-line.ensures

pub returns-in-Err-clause-fault : goal.returns-in-Err-clause-fault
returns-in-Err-clause-fault c = λ lack. lines-fail c.args.db.now c.args.rp.now c.args.mode.now c.lines.before c.lines.points c.lines.rest.now c.args.body.now c.first_line.result.0.now c.without_return-line.result.now c.in-Err.fault c.lines.invariant (by_length c.lines.rest.now _ (sym c.lines-test.ensures)) c.first_line.ensures.line c.without_return-line.ensures (c.in-Err.ensures.fault lack)

pub lines-preserved : goal.lines-preserved
lines-preserved c = lines-next c.args.db.now c.args.rp.now c.args.mode.now c.lines.before c.lines.points c.add_line.new.points c.lines.rest.now c.args.body.now c.first_line.result.0.now c.without_return-line.result.now c.first_line.result.1.now c.lines.invariant (by_length c.lines.rest.now _ (sym c.lines-test.ensures)) c.first_line.ensures.line c.first_line.ensures.behind c.without_return-line.ensures c.in_default.ensures.added

pub returns-clause-points : goal.returns-clause-points
returns-clause-points c = lines-end c.args.db.now c.args.rp.now c.args.mode.now c.lines.before c.lines.points c.lines.rest.now c.args.body.now c.lines.invariant (by_length c.lines.rest.now _ (sym c.lines-test.ensures))

pub returns-in-Err-clause-reached : goal.returns-in-Err-clause-reached
returns-in-Err-clause-reached c = lines-reached c.args.db.now c.args.rp.now c.args.mode.now c.lines.before c.lines.points c.lines.rest.now c.args.body.now c.first_line.result.0.now c.without_return-line.result.now c.lines.invariant (by_length c.lines.rest.now _ (sym c.lines-test.ensures)) c.first_line.ensures.line c.without_return-line.ensures

pub lines-init : goal.lines-init
lines-init c = lines-start c.args.db.now c.args.rp.now c.args.mode.now c.new-points.result c.args.body.now c.new-points.ensures
