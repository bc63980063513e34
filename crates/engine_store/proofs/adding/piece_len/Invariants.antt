use Rattle.std.proofs.Common.{◌≡◌, ◌-◌, ◌≤◌, length}
use Rattle.std.specs.Prelude.{take}
use Rattle.engine_store.specs.Adding.{body_len}
use Rattle.engine_store.specs.declared.TheConstants.{PIECE_LIMIT}
use Rattle.engine_store.proofs.adding.piece_len.Given as goal

abbrev pub invariant-counting : goal.invariant-counting
invariant-counting l = record {
  within : l.count ≤ length l.transitions;
  size_is : l.size ≡ body_len (take l.count l.transitions);
  low : l.size ≤ PIECE_LIMIT;
}

abbrev pub decreases-counting : goal.decreases-counting
decreases-counting l = length l.transitions - l.count
