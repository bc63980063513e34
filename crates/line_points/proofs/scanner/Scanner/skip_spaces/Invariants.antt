use Rattle.std.proofs.Common.{◌≡◌, ◌≤◌, length}
use Rattle.line_points.specs.Parts.{without_spaces}
use Rattle.line_points.proofs.scanner.Scanner.skip_spaces.Given as goal

abbrev pub invariant-spaces : goal.invariant-spaces
invariant-spaces l = (length l.self.rest.now ≤ length l.fn.self.rest.now) × (without_spaces l.self.rest.now ≡ without_spaces l.fn.self.rest.now)

abbrev pub decreases-spaces : goal.decreases-spaces
decreases-spaces l = length l.self.rest.now
