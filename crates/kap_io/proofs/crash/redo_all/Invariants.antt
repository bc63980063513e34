use Rattle.std.proofs.Common.{◌≡◌, map, take}
use Rattle.kap_io.specs.MemDisks.{content, newest_first, refilled, works}
use Rattle.kap_io.proofs.crash.redo_all.Given as goal

-- what the calls did so far is done
abbrev pub invariant-calls : goal.invariant-calls
invariant-calls l = l.file.items ≡ content l.initial.file.items (map (refilled l.byte) (works l.part (newest_first (take l.call-index l.calls))))
