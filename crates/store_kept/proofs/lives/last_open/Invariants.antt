use Rattle.std.proofs.Common.{◌≡◌, ◌≤◌, false, drop, length}
use Rattle.std.specs.List.{list_any}
use Rattle.store_records.specs.Held.{is_open_of}
use Rattle.store_kept.proofs.lives.last_open.Given as goal

-- none behind is open
abbrev pub invariant-looking : goal.invariant-looking
invariant-looking l = record {
  within : l.behind ≤ length l.lives;
  none : list_any (is_open_of l.id) (drop l.behind l.lives) ≡ false;
}

abbrev pub decreases-looking : goal.decreases-looking
decreases-looking l = l.behind
