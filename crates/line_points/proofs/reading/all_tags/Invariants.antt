use Rattle.std.proofs.Common.{length}
use Rattle.line_points.specs.Line.{tags_from}
use Rattle.line_points.proofs.LineLaws.{TagsLeft}
use Rattle.line_points.proofs.reading.all_tags.Given as goal

abbrev pub invariant-tags : goal.invariant-tags
invariant-tags l = TagsLeft l.tags l.scanner.rest.now (tags_from (length l.fn.scanner.rest.now) l.fn.scanner.rest.now)

abbrev pub decreases-tags : goal.decreases-tags
decreases-tags l = length l.scanner.rest.now
