use Rattle.std.proofs.Common.{◌≤◌, ℕ, length}
use Rattle.std.specs.Prelude.{IfSome}
use Rattle.engine_store.specs.Asking.{IsNotAbove}
use Rattle.engine_store.proofs.PassLaws.{Passed}
use Rattle.engine_store.proofs.asking.least_from.Given as goal

abbrev pub invariant-looking : goal.invariant-looking
invariant-looking g l = record {
  items : Passed (λ item. l.from ≤ g.T.Defined.place item → IsNotAbove l.least (g.T.Defined.place item)) l.items l.rest;
  other : (o : ℕ) → IsNotAbove l.fn.other o → IsNotAbove l.least o;
  low : IfSome l.fn.other (λ o. l.from ≤ o) → IfSome l.least (λ o. l.from ≤ o);
}

abbrev pub decreases-looking : goal.decreases-looking
decreases-looking g l = length l.rest
