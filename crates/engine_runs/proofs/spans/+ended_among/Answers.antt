use Rattle.flow_core.specs.Nets.{numbers_of}
use Rattle.engine_runs.specs.Spans.{IsOnward}
use Rattle.engine_runs.proofs.SpanLaws.{ended_behind}
use Rattle.std.proofs.Common.{◌+◌, ap, refl, subst}
use Rattle.engine_runs.proofs.spans.+ended_among.Goals as goal

pub returns : goal.returns
returns g t c =
    ended_behind c.args.points c.args.lives.now c.in-Some.first.now.number (numbers_of c.in-Some.others.now) (numbers_of c.args.net.now) c.ended_among.result (ap numbers_of c.in-Some.ensures.cases.0)
    (subst (IsOnward (c.args.points + 1)) c.last_of.ensures (c.if-has_ended_by.ensures.no refl)) c.ended_among.ensures
