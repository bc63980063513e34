use Rattle.flow_cells.proofs.parts.Core.react.Goals as goal

pub returns-in_ok-pass-in-Barrier-clause-reacts : goal.returns-in_ok-pass-in-Barrier-clause-reacts
returns-in_ok-pass-in-Barrier-clause-reacts g c = rw c.in-Barrier.is (c.in_ok-pass-in-Barrier.ensures.reacts c.args.parent)
