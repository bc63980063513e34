use Rattle.std.proofs.Common.{◌≡◌, ℕ, List, [], take, sym, ap, subst, arith}
use Rattle.std.specs.Io.KnownBytes.{Consumes}
use Rattle.kap_io.proofs.KnownLaws.{keeps_appends}
use Rattle.http_dialog.proofs.DriveLaws.{came_on, over_on, lost_on}
use Rattle.conn_future.proofs.link_io.fill.Goals as goal

pub returns-then-count-eq0-clause-goes : goal.returns-then-count-eq0-clause-goes
returns-then-count-eq0-clause-goes g c =
    let w = g.L.TryLink.written c.args.link.now in
    let x = g.L.TryLink.written c.try_read.new.self in
    let none : take c.in-Ok.count c.try_read.new.buf ≡ [] = ap (λ (k : ℕ). take k c.try_read.new.buf) c.if-count-eq0.true in
    over_on (g.L.TryLink.left c.args.link.now) (g.L.TryLink.left c.try_read.new.self) w x c.args.dialog.now c.close.new.self
    (take c.in-Ok.count c.try_read.new.buf) none c.in-Ok.ensures.bytes.0 (c.in-Ok.ensures.bytes.1 c.if-count-eq0.true (omega arith))
    (keeps_appends w x c.in-Ok.ensures.kept) c.close.ensures.goes

pub returns-in-Err-clause-lost : goal.returns-in-Err-clause-lost
returns-in-Err-clause-lost g c =
    let w = g.L.TryLink.written c.args.link.now in
    let x = g.L.TryLink.written c.try_read.new.self in
    lost_on (g.L.TryLink.left c.args.link.now) (g.L.TryLink.left c.try_read.new.self) w x c.args.dialog.now
    (take c.in-Ok.count c.try_read.new.buf) c.requires.open c.in-Ok.ensures.bytes.0 (keeps_appends w x c.in-Ok.ensures.kept)

pub returns-in-Ok-take_in-clause-goes : goal.returns-in-Ok-take_in-clause-goes
returns-in-Ok-take_in-clause-goes g c =
    let m = g.L.TryLink.left c.args.link.now in
    let n = g.L.TryLink.left c.try_read.new.self in
    let w = g.L.TryLink.written c.args.link.now in
    let x = g.L.TryLink.written c.try_read.new.self in
    came_on m n w x c.args.dialog.now c.take_in.new.self _
    (subst (λ (p : List ℕ). Consumes m n p) (sym c.split_at.ensures.front) c.in-Ok.ensures.bytes.0)
    (keeps_appends w x c.in-Ok.ensures.kept) c.in-Ok-take_in.ensures.goes
