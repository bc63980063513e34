use Rattle.std.proofs.Common.{List, ℕ, ◌++◌, ap, ◌∙◌}
use Rattle.state_code.specs.Spelling.{spell_bytes}
use Rattle.store_records.proofs.StateLoops.{one_gathered}
use Rattle.store_records.proofs.states.gather.Goals as goal

pub reading-preserved : goal.reading-preserved
reading-preserved c =
    one_gathered c.args.count c.reading.counter c.args.from.now c.reading.from c.bytes.new.self c.reading.states _ c.in_ok-state.state c.reading-test.true c.in_ok-state.ensures
    (c.in_ok-put_bytes.ensures.ok ∙ ap (λ (t : List ℕ). c.reading.states ++ spell_bytes t) c.as_slice.ensures) c.reading.invariant
