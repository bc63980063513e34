use Rattle.std.proofs.Common.{◌≡◌, ◌+◌, ◌-◌, ℕ, length, take, drop, sym, ap, ◌∙◌, subst, arith}
use Rattle.std.specs.Prelude.{Option}
use Rattle.std.specs.declared.result.Result.TheVariants.{Ok}
use Rattle.std.proofs.lemmas.Result.{err_from_is_err_and}
use Rattle.kap_io.specs.Disk.{Image}
use Rattle.gate_log.specs.Reading.{StandsAt}
use Rattle.gate_log.proofs.Fetching.{fetched_body, short_fault}
use Rattle.gate_log.proofs.body.short_record_at.Goals as goal

pub returns-in_err-next_gate-clause-found : goal.returns-in_err-next_gate-clause-found
returns-in_err-next_gate-clause-found g c = λ tells whole some.
    let p = err_from_is_err_and c.from_residual.result c.from_residual.ensures.1 in
    rw (p.1, p.2) (short_fault c.args.at _ _ (c.in_err-next_gate.ensures.found tells whole))

pub returns-in-None-clause-found : goal.returns-in-None-clause-found
returns-in-None-clause-found g c = λ tells whole some.
    subst (λ (o : Option ℕ). StandsAt c.args.at (g.D.Disk.seen c.args.disk.now c.args.part) (Ok o)) c.in-None.is (c.in_ok-next_gate.ensures.found tells whole)

pub returns-in_ok-body-in-Some-clause-found : goal.returns-in_ok-body-in-Some-clause-found
returns-in_ok-body-in-Some-clause-found g c = λ tells whole some.
    let part = c.args.part in
    let found = subst (λ (o : Option ℕ). StandsAt c.args.at (g.D.Disk.seen c.args.disk.now part) (Ok o)) c.in-Some.is
    (c.in_ok-next_gate.ensures.found tells whole) in
    let reads : g.D.Disk.seen c.next_gate.new.disk ≡ g.D.Disk.seen c.args.disk.now = (c.next_gate.ensures.quiet tells).reads in
    let long : length (g.D.Disk.seen c.next_gate.new.disk part) ≡ c.args.size = ap (λ (i : Image). length (i part)) reads ∙ sym whole in
    let rises = rw c.in-Some.is at c.in_ok-next_gate.ensures.rises in
    let fetched = c.in_ok-body-in-Some.ensures.fetched tells (omega (arith, long, rises.0, rises.1)) in
    let here = fetched ∙ ap (λ (i : Image). take (c.in-Some.next - (c.args.at + 5)) (drop (c.args.at + 5) (i part))) reads in
    (found, fetched_body c.args.at c.in-Some.next _ _ found here)

pub returns-then-count-clause-found : goal.returns-then-count-clause-found
returns-then-count-clause-found g c = λ tells whole some.
    let found = subst (λ (o : Option ℕ). StandsAt c.args.at (g.D.Disk.seen c.args.disk.now c.args.part) (Ok o)) c.in-Some.is
    (c.in_ok-next_gate.ensures.found tells whole) in
    record { next = c.in-Some.next; there = found; long = omega (arith, c.if-count.true, found.is_next) }
