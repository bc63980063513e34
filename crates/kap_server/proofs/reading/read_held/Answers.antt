use Rattle.std.proofs.Common.{Some, ap, ◌∙◌, rules}
use Rattle.recording_file.specs.Reading.{Gives}
use Rattle.kap_server.proofs.EpochLaws.{gave_more, goes_on, held_left}
use Rattle.kap_server.proofs.reading.read_held.Goals as goal

pub reading-preserved : goal.reading-preserved
reading-preserved c =
    let gives : Gives c.reading.reader c.next.new.self c.in-Ok-Some.point = rw c.in-Ok-Some.field-0-is at c.in-Ok-Some.ensures.point in
    let same = c.in-Ok-Some.ensures.held.held c.reading.invariant.holds in
    let reads = held_left c.reading.source c.next.new.source c.reading.reader c.next.new.self same c.reading.invariant.left c.in-Ok-Some.ensures.reads in
    record {
      not_spent = c.in-Ok-Some.ensures.spent;
      gave = λ t. rw c.in_ok-push.ensures.items (gave_more _ c.reading.reader _ _ _ _ c.reading.points.items c.in-Ok-Some.point (c.reading.invariant.gave t) (reads t) gives);
      few = search rules;
      holds = search rules;
      left = ap (λ s. Some s.left) same ∙ c.reading.invariant.left;
      faults = ap (λ s. s.faults) same ∙ c.reading.invariant.faults;
    }

pub returns-then-limit-len-clause-pauses : goal.returns-then-limit-len-clause-pauses
returns-then-limit-len-clause-pauses c = λ t.
    let gives : Gives c.reading.reader c.next.new.self c.in-Ok-Some.point = rw c.in-Ok-Some.field-0-is at c.in-Ok-Some.ensures.point in
    let same = c.in-Ok-Some.ensures.held.held c.reading.invariant.holds in
    let reads = held_left c.reading.source c.next.new.source c.reading.reader c.next.new.self same c.reading.invariant.left c.in-Ok-Some.ensures.reads in
    goes_on _ c.reading.reader _ _ _ _ c.reading.points.items _ c.in-Ok-Some.point (c.reading.invariant.gave t) (reads t) gives c.in-Ok-Some.ensures.spent c.in_ok-push.ensures.items

pub returns-in-Ok-None-clause-pauses : goal.returns-in-Ok-None-clause-pauses
returns-in-Ok-None-clause-pauses c = λ t.
    let same = c.in-Ok-None.ensures.held.held c.reading.invariant.holds in
    record {
      last = c.reading.reader;
      left = t;
      gave = c.reading.invariant.gave t;
      reads = held_left c.reading.source c.next.new.source c.reading.reader c.next.new.self same c.reading.invariant.left c.in-Ok-None.ensures.reads t;
      stops = rw c.in-Ok-None.field-0-is at c.in-Ok-None.ensures.end;
    }

pub returns-in-Err-clause-pauses : goal.returns-in-Err-clause-pauses
returns-in-Err-clause-pauses c = λ t.
    let same = c.in-Err.ensures.held.held c.reading.invariant.holds in
    record {
      last = c.reading.reader;
      left = t;
      gave = c.reading.invariant.gave t;
      reads = held_left c.reading.source c.next.new.source c.reading.reader c.next.new.self same c.reading.invariant.left c.in-Err.ensures.reads t;
      stops = c.in-Err.ensures.fault;
    }
