use Rattle.std.proofs.Common.{◌≡◌, ℕ, List, [], take, sym, ap, subst, arith, Result, Ok, Err, OnErr}
use Rattle.std.specs.Io.KnownBytes.{Consumes}
use Rattle.kap_io.proofs.KnownLaws.{keeps_appends}
use Rattle.http_dialog.proofs.DriveLaws.{came_on, over_on, lost_on}
use Rattle.link_serve.proofs.link_io.fill.Goals as goal

always : {A E : Type 0} (r : Result A E) (P : Type 0) → P → OnErr r P
always (Ok x) P p = tt
always (Err e) P p = p

pub returns-then-count-eq0-clause-goes : goal.returns-then-count-eq0-clause-goes
returns-then-count-eq0-clause-goes g c =
    let w = g.L.Link.written c.args.link.now in
    let x = g.L.Link.written c.read.new.self in
    let none : take c.in_ok-count.count c.read.new.buf ≡ [] = ap (λ (k : ℕ). take k c.read.new.buf) c.if-count-eq0.true in
    over_on (g.L.Link.left c.args.link.now) (g.L.Link.left c.read.new.self) w x c.args.dialog.now c.close.new.self
    (take c.in_ok-count.count c.read.new.buf) none c.in_ok-count.ensures.bytes.0 (c.in_ok-count.ensures.bytes.1 c.if-count-eq0.true (omega arith))
    (keeps_appends w x c.in_ok-count.ensures.kept) c.close.ensures.goes

pub returns-in_err-take_in-clause-lost : goal.returns-in_err-take_in-clause-lost
returns-in_err-take_in-clause-lost g c =
    let w = g.L.Link.written c.args.link.now in
    let x = g.L.Link.written c.read.new.self in
    always _ _ (lost_on (g.L.Link.left c.args.link.now) (g.L.Link.left c.read.new.self) w x c.args.dialog.now
    (take c.in_ok-count.count c.read.new.buf) c.requires.open c.in_ok-count.ensures.bytes.0 (keeps_appends w x c.in_ok-count.ensures.kept))

pub returns-clause-goes : goal.returns-clause-goes
returns-clause-goes g c =
    let m = g.L.Link.left c.args.link.now in
    let n = g.L.Link.left c.read.new.self in
    let w = g.L.Link.written c.args.link.now in
    let x = g.L.Link.written c.read.new.self in
    came_on m n w x c.args.dialog.now c.take_in.new.self _
    (subst (λ (p : List ℕ). Consumes m n p) (sym c.split_at.ensures.front) c.in_ok-count.ensures.bytes.0)
    (keeps_appends w x c.in_ok-count.ensures.kept) c.in_ok-take_in.ensures.goes
