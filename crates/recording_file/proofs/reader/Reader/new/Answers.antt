use Rattle.std.proofs.Common.{[], sym, subst, arith}
use Rattle.recording_file.specs.Steps.{StandsAt}
use Rattle.recording_file.proofs.StandLaws.{stands_first}
use Rattle.recording_file.proofs.reader.Reader.new.Goals as goal

pub invariant_of-result : goal.invariant_of-result
invariant_of-result c = (λ fresh. subst (StandsAt []) (sym c.new.ensures) stands_first, grind arith, grind arith)
