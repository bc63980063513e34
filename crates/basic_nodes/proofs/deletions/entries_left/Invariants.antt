use Rattle.std.proofs.Common.{◌≡◌, take}
use Rattle.std.specs.Prelude.{filter}
use Rattle.basic_nodes.specs.Deletions.{is_left}
use Rattle.basic_nodes.proofs.deletions.entries_left.Given as goal

abbrev pub invariant-copying : goal.invariant-copying
invariant-copying g l = l.left.items ≡ filter (λ e. is_left l.taken e.0) (take l.entry-index l.entries)
