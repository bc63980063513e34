use Rattle.std.proofs.Common.{length}
use Rattle.serve_words.proofs.lines.+seen_in.Given as goal

abbrev pub decreases-seen_in : goal.decreases-seen_in
decreases-seen_in l = length l.words.now
