use Rattle.std.proofs.Common.{arith, rules}
use Rattle.recording_file.specs.Reading.{Gives}
use Rattle.kap_server.proofs.EpochLaws.{gave_more, goes_on}
use Rattle.kap_server.proofs.reading.read_epoch.Goals as goal

pub reading-preserved : goal.reading-preserved
reading-preserved g c =
    let gives : Gives c.reading.reader c.next.new.self c.in-Ok-Some.point = rw c.in-Ok-Some.field-0-is at c.in-Ok-Some.ensures.point in
    let before = c.reading.invariant.later in
    let now = c.in-Ok-Some.ensures.cause.later in
    record {
      not_spent = c.in-Ok-Some.ensures.spent;
      gave = rw c.in_ok-push.ensures.items (gave_more _ c.reading.reader _ _ _ _ c.reading.points.items c.in-Ok-Some.point c.reading.invariant.gave c.in-Ok-Some.ensures.reads gives);
      few = search rules;
      asks = search rules;
      holds = search rules;
      later = omega (arith, before, now);
    }

pub returns-then-limit-len-clause-pauses : goal.returns-then-limit-len-clause-pauses
returns-then-limit-len-clause-pauses g c =
    let gives : Gives c.reading.reader c.next.new.self c.in-Ok-Some.point = rw c.in-Ok-Some.field-0-is at c.in-Ok-Some.ensures.point in
    goes_on _ c.reading.reader _ _ _ _ c.reading.points.items _ c.in-Ok-Some.point c.reading.invariant.gave c.in-Ok-Some.ensures.reads gives c.in-Ok-Some.ensures.spent c.in_ok-push.ensures.items
