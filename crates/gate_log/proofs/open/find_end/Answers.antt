use Rattle.std.proofs.Common.{ℕ, length, sym, ap, ◌∙◌, subst, arith}
use Rattle.std.specs.Prelude.{Option}
use Rattle.std.specs.declared.result.Result.TheVariants.{Ok, Err}
use Rattle.std.specs.declared.option.Option.TheVariants.{Some}
use Rattle.std.proofs.lemmas.Result.{err_from_is_err_and}
use Rattle.kap_io.specs.Disk.{Image}
use Rattle.kap_io.specs.Moments.{quiet_then}
use Rattle.gate_log.specs.Reading.{StandsAt}
use Rattle.gate_log.proofs.Found.{reached_next, ends_torn}
use Rattle.gate_log.proofs.open.find_end.Goals as goal

pub returns-in_err-next-clause-found : goal.returns-in_err-next-clause-found
returns-in_err-next-clause-found g c = λ tells is_size starts.
    let p = err_from_is_err_and c.from_residual.result c.from_residual.ensures.1 in
    let reads = (c.gates.invariant.quiet tells).reads in
    let found = c.in_err-next.ensures.found tells (is_size ∙ sym (ap (λ (i : Image). length (i c.args.part)) reads)) in
    rw (p.1, p.2) (ends_torn c.gates.gate _ _ (c.gates.invariant.reached tells is_size starts)
    (subst (λ (i : Image). StandsAt c.gates.gate (i c.args.part) (Err c.in_err-next.field-0.0)) reads found))

pub gates-preserved : goal.gates-preserved
gates-preserved g c = record {
  within = (rw c.in-Some.is at c.in_ok-next.ensures.rises).1;
  reached = λ tells is_size starts.
      let reads = (c.gates.invariant.quiet tells).reads in
      let found = c.in_ok-next.ensures.found tells (is_size ∙ sym (ap (λ (i : Image). length (i c.args.part)) reads)) in
      let at_some = subst (λ (o : Option ℕ). StandsAt c.gates.gate (g.D.Disk.seen c.gates.disk c.args.part) (Ok o)) c.in-Some.is found in
      reached_next c.gates.gate _ _ (c.gates.invariant.reached tells is_size starts)
      (subst (λ (i : Image). StandsAt c.gates.gate (i c.args.part) (Ok (Some c.in-Some.next))) reads at_some);
  quiet = λ tells. quiet_then g.D.Disk.seen g.D.Disk.moment g.D.Disk.may_leave g.D.Disk.left_since _ _ _ (c.gates.invariant.quiet tells)
      (c.next_gate.ensures.quiet tells);
  faults = omega (arith, c.gates.invariant.faults, c.next_gate.ensures.cause.later);
}
