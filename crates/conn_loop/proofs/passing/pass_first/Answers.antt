use Rattle.std.proofs.Common.{◌≡◌, MatchBool, inl, inr, refl, sym, subst}
use Rattle.http_dialog.proofs.NumberLaws.{only_none}
use Rattle.http_dialog.proofs.DriveLaws.{comes_none}
use Rattle.conn_loop.specs.Links.{telling}
use Rattle.conn_loop.specs.Turns.{IsPolled}
use Rattle.conn_loop.proofs.TurnLaws.{finished_so}
use Rattle.conn_loop.proofs.passing.pass_first.Goals as goal

pub returns-then-not-is_due-clause-passed : goal.returns-then-not-is_due-clause-passed
returns-then-not-is_due-clause-passed g c =
    let slot = c.in-Some.slot in
    let of = telling g.L.TryLink.left g.L.TryLink.written g.L.TryLink.read_faults g.L.TryLink.write_faults g.L.TryLink.waits in
    record {
      first = slot;
      rest = c.pop_front.new.self.items;
      whole = c.in-Some.ensures.items;
      moved = inl (
        slot,
        c.push_back_reserved.ensures.items,
        refl,
        record {
          number = refl;
          came = comes_none slot.number (g.L.TryLink.left slot.link) (g.H.Serve.served c.args.serve.now) (g.L.TryLink.written slot.link) slot.dialog;
          polled = subst (λ b. MatchBool b (IsPolled of slot slot) (slot ≡ slot)) c.if-not-is_due.ensures refl;
        },
      );
      only = only_none slot.number (g.H.Serve.served c.args.serve.now);
    }

pub returns-in-None-clause-passed : goal.returns-in-None-clause-passed
returns-in-None-clause-passed g c =
    let slot = c.in-Some.slot in
    let new = c.poll.new.slot in
    let of = telling g.L.TryLink.left g.L.TryLink.written g.L.TryLink.read_faults g.L.TryLink.write_faults g.L.TryLink.waits in
    record {
      first = slot;
      rest = c.pop_front.new.self.items;
      whole = c.in-Some.ensures.items;
      moved = inl (
        new,
        c.push_back_reserved-in-None.ensures.items,
        refl,
        record {
          number = c.poll.ensures.number;
          came = c.in-None.ensures.goes.came;
          polled = subst (λ b. MatchBool b (IsPolled of slot new) (new ≡ slot)) c.if-not-is_due.ensures c.in-None.ensures.goes.polled;
        },
      );
      only = c.poll.ensures.only;
    }

pub returns-in-Some-poll-clause-passed : goal.returns-in-Some-poll-clause-passed
returns-in-Some-poll-clause-passed g c =
    let of = telling g.L.TryLink.left g.L.TryLink.written g.L.TryLink.read_faults g.L.TryLink.write_faults g.L.TryLink.waits in
    record {
      first = c.in-Some.slot;
      rest = c.pop_front.new.self.items;
      whole = c.in-Some.ensures.items;
      moved = inr (
        c.finished_of.result,
        refl,
        c.push_reserved.ensures.items,
        finished_so of c.args.ready.now (g.H.Serve.served c.args.serve.now) (g.H.Serve.served c.poll.new.serve)
            c.in-Some.slot c.poll.new.slot c.in-Some-poll.«end» c.finished_of.result c.in-Some-poll.ensures.ends
            (sym c.if-not-is_due.ensures) c.poll.ensures.number c.finished_of.ensures.number c.finished_of.ensures.link
            c.finished_of.ensures.ending,
      );
      only = c.poll.ensures.only;
    }
