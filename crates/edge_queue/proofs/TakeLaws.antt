-- What a head's end has after a pop.
use Rattle.std.proofs.Common.{◌≡◌, ◌≤◌, ◌++◌, [], ◌∷◌, length, Result, Ok, Err, IfOk, IfSome, ap}
use mathlib.Core.List.{IsPrefix}
use Rattle.std.specs.Result.{result_ok}
use Rattle.std.proofs.lemmas.List.{drop-append-le}
use Rattle.kap_base.specs.declared.items.Msg.{Msg}
use Rattle.rtrb.specs.Ring.{SameConsumer, known_items, received as popped}
use Rattle.edge_queue.specs.declared.ends.Head.{Head}
use Rattle.edge_queue.specs.Moves.{Takes}

pub taken : {E : Type 0} (allowed : Msg → Type 0) (r : Result Msg E) (a b : Head) → SameConsumer a.consumer b.consumer → b.base ≡ a.base → length (popped a.base.value) ≤ length (popped a.consumer)
    → IfOk r (λ x. (popped b.consumer ≡ popped a.consumer ++ x ∷ []) × IsPrefix (known_items a.consumer) (x ∷ known_items b.consumer) × allowed x)
    → IfSome (result_ok r) (λ msg. Takes msg a b)
taken allowed (Ok msg) a b ring base grown popped = record {
  same = record { ring = ring; base = ap (λ s. s.value) base };
  ring_received = popped.0;
  received = rw (base, popped.0) (drop-append-le _ _ _ grown);
  known = popped.1;
}
taken allowed (Err e) a b ring base grown popped = tt
