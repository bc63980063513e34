use Rattle.std.proofs.Common.{ℕ, List, take, subst, ◌∙◌, arith}
use Rattle.std.specs.Io.KnownBytes.{Appends}
use Rattle.kap_io.proofs.KnownLaws.{keeps_consumes}
use Rattle.http_dialog.proofs.DriveLaws.{goes_more, wrote_on, front_taken}
use Rattle.conn_future.proofs.link_io.flush.Goals as goal

pub writing-preserved : goal.writing-preserved
writing-preserved g c =
    let i = c.writing.invariant in
    let w = g.L.TryLink.written c.writing.link in
    let x = g.L.TryLink.written c.try_write.new.self in
    let m = g.L.TryLink.left c.writing.link in
    let n = g.L.TryLink.left c.try_write.new.self in
    let count = c.in-Ok.count in
    let due = c.writing.dialog.due in
    let e = c.in-Ok.ensures in
    let same = front_taken due c.due.result.now count c.due.ensures.front e.bound.1 in
    let wrote : Appends w x (take count due) = subst (λ (p : List ℕ). Appends w x p) same e.bytes in
    record {
      held = c.sent.ensures.held ∙ i.held;
      left = c.sent.ensures.left ∙ i.left;
      ending = c.sent.ensures.ending ∙ i.ending;
      reads = let before = i.reads in let later = e.cause.other in omega arith;
      writes = let before = i.writes in let later = e.cause.later in omega arith;
      waits = let before = i.waits in let later = e.cause.waited in omega arith;
      goes = goes_more (g.L.TryLink.left c.args.link.now) m n (g.L.TryLink.written c.args.link.now) w x c.args.dialog.now c.writing.dialog c.sent.new.self i.goes
          (wrote_on m n w x c.writing.dialog c.sent.new.self (take count due) (keeps_consumes m n e.kept) wrote c.sent.ensures.goes);
    }
