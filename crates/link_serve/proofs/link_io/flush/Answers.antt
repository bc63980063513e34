use Rattle.std.proofs.Common.{ℕ, List, take, subst, ◌∙◌, arith}
use Rattle.std.specs.Io.KnownBytes.{Appends}
use Rattle.kap_io.proofs.KnownLaws.{keeps_consumes}
use Rattle.http_dialog.proofs.DriveLaws.{goes_more, wrote_on, front_taken}
use Rattle.link_serve.proofs.link_io.flush.Goals as goal

pub writing-preserved : goal.writing-preserved
writing-preserved g c =
    let i = c.writing.invariant in
    let w = g.L.Link.written c.writing.link in
    let x = g.L.Link.written c.write.new.self in
    let m = g.L.Link.left c.writing.link in
    let n = g.L.Link.left c.write.new.self in
    let count = c.in_ok-count.count in
    let due = c.writing.dialog.due in
    let same = front_taken due c.due.result.now count c.due.ensures.front c.in_ok-count.ensures.bound.1 in
    let wrote : Appends w x (take count due) = subst (λ (p : List ℕ). Appends w x p) same c.in_ok-count.ensures.bytes in
    record {
      held = c.sent.ensures.held ∙ i.held;
      left = c.sent.ensures.left ∙ i.left;
      ending = c.sent.ensures.ending ∙ i.ending;
      reads = let before = i.reads in let later = c.in_ok-count.ensures.other in omega arith;
      writes = let before = i.writes in let later = c.in_ok-count.ensures.cause.later in omega arith;
      goes = goes_more (g.L.Link.left c.args.link.now) m n (g.L.Link.written c.args.link.now) w x c.args.dialog.now c.writing.dialog c.sent.new.self i.goes
          (wrote_on m n w x c.writing.dialog c.sent.new.self (take count due) (keeps_consumes m n c.in_ok-count.ensures.kept) wrote c.sent.ensures.goes);
    }
