use Rattle.std.proofs.Common.{◌≡◌, length}
use Rattle.kap_http.specs.Lines.{has_empty_line}
use Rattle.kap_http.proofs.lines.holds_empty_line.Given as goal

abbrev pub invariant-bytes : goal.invariant-bytes
invariant-bytes l = has_empty_line l.rest ≡ has_empty_line l.bytes

abbrev pub decreases-bytes : goal.decreases-bytes
decreases-bytes l = length l.rest
