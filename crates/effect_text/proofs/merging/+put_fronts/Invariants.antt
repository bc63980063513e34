use Rattle.std.proofs.Common.{length}
use Rattle.effect_text.proofs.merging.+put_fronts.Given as goal

abbrev pub decreases-put_fronts : goal.decreases-put_fronts
decreases-put_fronts l = length l.parts.now
