use Rattle.std.proofs.Common.{◌≡◌, ℕ, ◌+◌, Bool, length, rules, subst}
use Rattle.conn_loop.specs.Serving.{Counts}
use Rattle.conn_loop.proofs.ServingLaws.{handed_on, one_came}
use Rattle.conn_loop.proofs.serving.accept.Goals as goal

pub returns-in-Ok : goal.returns-in-Ok
returns-in-Ok g c = record {
  added = search rules;
  counts = λ first had.
      let same : c.args.serving.now.links ≡ c.from.result = cc in
      subst (λ (n : ℕ). Counts first (g.B.TryDoor.left c.try_accept.new.self) (n + 1) c.args.serving.now.closed) same
      (one_came first (g.B.TryDoor.left c.args.door.now) (g.B.TryDoor.left c.try_accept.new.self) c.in-Ok-Some.link
      c.args.serving.now.links c.args.serving.now.closed
      (rw c.in-Ok-Some.field-0-is at c.in-Ok-Some.ensures.links) c.requires.opened had);
  cause = record {
    later = c.in-Ok-Some.ensures.cause.later;
    ready_later = (c.admit.ensures.cause 0 0 0 c.args.serving.now.closed).ready_later;
    cause = tt;
  };
}

pub returns-in-Err : goal.returns-in-Err
returns-in-Err g c =
    let d = g.B.TryDoor.faults c.try_accept.new.self in
    let many = length c.admit.new.held.links in
    record {
      added = tt;
      counts = λ first had.
          let same : c.args.serving.now.links ≡ c.from.result = cc in
          subst (λ (n : ℕ). Counts first (g.B.TryDoor.left c.try_accept.new.self) (n + 1) c.args.serving.now.closed) same
          (one_came first (g.B.TryDoor.left c.args.door.now) (g.B.TryDoor.left c.try_accept.new.self) c.in-Ok-Some.link
          c.args.serving.now.links c.args.serving.now.closed
          (rw c.in-Ok-Some.field-0-is at c.in-Ok-Some.ensures.links) c.requires.opened had);
      cause = handed_on {U = Bool} (g.B.TryDoor.faults c.args.door.now) d (g.Y.Ready.faults c.args.ready.now)
          (g.Y.Ready.faults c.admit.new.ready) (c.from.result + 1) many c.args.serving.now.closed c.in-Err.«end»
          c.in-Ok-Some.ensures.cause.later
          (c.in-Err.ensures.cause d (c.from.result + 1) many c.args.serving.now.closed);
    }
