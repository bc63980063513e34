use Rattle.std.proofs.Common.{sym, subst, Err}
use Rattle.kap_io.specs.declared.disk.Part.{Part}
use Rattle.topic_store.specs.Opening.{StoreCause}
use Rattle.topic_store.specs.declared.fault.StoreFault.{StoreFault}
use Rattle.topic_store.proofs.Causes.{head_cause}
use Rattle.topic_store.proofs.opening.read_current.Goals as goal

pub returns-in-Err-clause-cause : goal.returns-in-Err-clause-cause
returns-in-Err-clause-cause g c =
    subst (λ (f : StoreFault). StoreCause {T = Part} (g.D.Disk.faults c.args.disk.now) (g.D.Disk.faults c.read_head.new.disk) (Err f)) (sym c.fault_in.ensures)
    (head_cause _ _ c.in-Err.fault c.in-Err.ensures.cause)
