use Rattle.std.proofs.Common.{subst, arith}
use Rattle.kap_io.specs.Disk.{Image}
use Rattle.kap_io.specs.Moments.{quiet_then}
use Rattle.gate_log.specs.Reading.{ReadsOn}
use Rattle.gate_log.proofs.Filling.{placed_more}
use Rattle.gate_log.proofs.read.fill.Goals as goal

pub filling-preserved : goal.filling-preserved
filling-preserved g c = record {
  within = c.in_ok-more.ensures.bound;
  placed = λ tells.
      placed_more c.args.at c.filling.count _ _ _ _ (c.filling.invariant.placed tells)
      (subst (λ (i : Image). ReadsOn c.args.at (i c.args.part) c.filling.count c.filling.buf c.read_on.new.buf c.in_ok-more.more)
      (c.filling.invariant.quiet tells).reads (c.in_ok-more.ensures.bytes tells));
  quiet = λ tells. quiet_then g.D.Disk.seen g.D.Disk.moment g.D.Disk.may_leave g.D.Disk.left_since _ _ _ (c.filling.invariant.quiet tells)
      (c.read_on.ensures.quiet tells);
  faults = omega (arith, c.filling.invariant.faults, c.read_on.ensures.cause.later);
}
