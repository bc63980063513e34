use Rattle.std.proofs.Common.{◌≡◌, ◌-◌, ◌^◌}
use Rattle.engine_store.proofs.AskLaws.{AreBefore}
use Rattle.engine_store.proofs.asking.ask_scripts.Given as goal

abbrev pub invariant-asking : goal.invariant-asking
invariant-asking g l = record {
  all : AreBefore l.tasks l.lives l.from;
  kept : g.P.Patterns.refusals l.pats ≡ g.P.Patterns.refusals l.fn.pats;
}

abbrev pub decreases-asking : goal.decreases-asking
decreases-asking g l = 2 ^ 64 - l.from
