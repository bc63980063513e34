use Rattle.std.proofs.Common.{◌≡◌, ℕ, ◌==◌, List, ap, subst, ◌∙◌}
use Rattle.std.specs.List.{list_any}
use Rattle.conn_loop.specs.Links.{telling}
use Rattle.conn_loop.specs.Turns.{Turned}
use Rattle.conn_loop.proofs.LoopLaws.{turned_loop}
use Rattle.conn_loop.proofs.TurnLaws.{turned_same}
use Rattle.conn_loop.proofs.link_loop.Loop.turn.Goals as goal

pub invariant_of-self : goal.invariant_of-self
invariant_of-self g c =
    turned_loop (telling g.L.TryLink.left g.L.TryLink.written g.L.TryLink.read_faults g.L.TryLink.write_faults g.L.TryLink.waits)
    c.deref.result.now (g.H.Serve.served c.args.serve.now) (g.H.Serve.served c.pass.new.serve)
    c.self.inside.slots.items c.pass.new.slots.items c.pass.new.finished.items
    c.self.inside.added c.self.inside.limit c.pass.ensures.turned c.self.invariant

pub returns-clause-turned : goal.returns-clause-turned
returns-clause-turned g c =
    let of = telling g.L.TryLink.left g.L.TryLink.written g.L.TryLink.read_faults g.L.TryLink.write_faults g.L.TryLink.waits in
    let s = g.H.Serve.served c.args.serve.now in
    let t = g.H.Serve.served c.pass.new.serve in
    let same : (n : ℕ) → list_any (λ k. k == n) c.deref.result.now ≡ list_any (λ k. k == n) c.args.ready.now =
    λ n. ap (λ (xs : List ℕ). list_any (λ k. k == n) xs) c.deref.ensures.value ∙ c.in_ok-numbers.ensures.same n in
    subst (λ loop. Turned of c.args.ready.now s t loop.links c.pass.new.slots.items c.pass.new.finished.items) c.self.view_is
    (turned_same of c.deref.result.now c.args.ready.now s t c.self.inside.slots.items c.pass.new.slots.items
    c.pass.new.finished.items same c.pass.ensures.turned)
