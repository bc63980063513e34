use Rattle.std.proofs.Common.{◌≡◌, take}
use Rattle.sample_replay.specs.Summaries.{logged}
use Rattle.sample_replay.proofs.counts.logged.Given as goal

-- those among the effects that were passed are counted
abbrev pub invariant-counting : goal.invariant-counting
invariant-counting l = l.count ≡ logged (take l.effect-index l.effects)
