use Rattle.std.proofs.Common.{◌≡◌, ◌≤◌, take}
use Rattle.kap_io.specs.MemDisks.{newest_first, synced, works}
use Rattle.kap_io.proofs.crash.last_sync.Given as goal

-- the last sync so far
abbrev pub invariant-calls : goal.invariant-calls
invariant-calls l = record {
  within : l.last ≤ l.before;
  synced : synced (works l.part (newest_first (take l.before l.calls))) ≡ works l.part (newest_first (take l.last l.calls));
}
