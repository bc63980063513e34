use Rattle.std.proofs.Common.{◌≡◌, length}
use Rattle.std.specs.Prelude.{IfSome}
use Rattle.engine_store.specs.Asking.{IsScript}
use Rattle.engine_store.proofs.PassLaws.{Passed}
use Rattle.engine_store.proofs.asking.ask_at.Given as goal

abbrev pub invariant-asking : goal.invariant-asking
invariant-asking g l = record {
  items : Passed (λ item. g.T.Defined.place item ≡ l.place → IsScript (g.T.Defined.text item)) l.items l.rest;
  asked : IfSome l.asked (λ a. IsScript a.now);
  kept : g.P.Patterns.refusals l.pats ≡ g.P.Patterns.refusals l.fn.pats;
}

abbrev pub decreases-asking : goal.decreases-asking
decreases-asking g l = length l.rest
