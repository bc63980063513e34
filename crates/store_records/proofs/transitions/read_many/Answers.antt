use Rattle.state_code.proofs.Loops.{one_taken}
use Rattle.store_records.specs.Transitions.{read_transition}
use Rattle.store_records.proofs.transitions.read_many.Goals as goal

pub reading-preserved : goal.reading-preserved
reading-preserved c =
    rw c.in_ok-push.ensures.ok (one_taken read_transition c.args.count c.reading.counter c.reading.transitions c.in_ok-transition.transition c.args.from.now c.reading.from c.read_transition.new.from c.reading-test.true c.in_ok-transition.ensures c.reading.invariant)
