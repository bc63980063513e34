use Rattle.std.proofs.Common.{◌≡◌, length, take}
use Rattle.std.specs.List.{sum_by}
use Rattle.kap_server.proofs.telling.count_told.Given as goal

-- what the parts that were passed tell
abbrev pub invariant-counting : goal.invariant-counting
invariant-counting l = l.count ≡ sum_by length (take l.part-index l.told)
