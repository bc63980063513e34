use Rattle.std.proofs.Common.{◌≡◌, List, ◌++◌, map, subst}
use Rattle.std.specs.Prelude.{IfOk, IsTrue}
use Rattle.topic_core.specs.Topics.{StandsFor, event_of}
use Rattle.topic_core.specs.declared.transition.Transition.{Transition}
use Rattle.store_records.specs.Held.{are_next}
use Rattle.store_kept.proofs.taking.may_follow.Goals as goal

pub returns-in-Trans-clause-may : goal.returns-in-Trans-clause-may
returns-in-Trans-clause-may c ts stands count =
    rw c.in-Trans.is (subst (λ (l : List Transition). IfOk c.take_transitions.result (λ may. may ≡ are_next ts l)) c.as_slice-in-Trans.ensures (c.take_transitions.ensures.next ts stands count))

pub returns-in-Trans-clause-topics : goal.returns-in-Trans-clause-topics
returns-in-Trans-clause-topics c ts stands =
    rw c.in-Trans.is (subst (λ (l : List Transition). IfOk c.take_transitions.result (λ may. IsTrue may → StandsFor (map event_of (ts ++ l)) c.take_transitions.new.topics)) c.as_slice-in-Trans.ensures (c.take_transitions.ensures.kept ts stands))

pub returns-in-Define-clause-defines : goal.returns-in-Define-clause-defines
returns-in-Define-clause-defines c may = rw c.in-Define.is (c.is_definable.ensures.valid may)
