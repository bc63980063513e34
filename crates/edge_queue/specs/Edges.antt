-- What went over an edge, ever and since the last load, and what its ends know of it.
use Rattle.std.specs.Prelude.{◌≡◌, ℕ, ◌+◌, ◌≤◌, List, ◌++◌, length, drop}
use Rattle.kap_base.specs.declared.items.Msg.{Msg}
use Rattle.rtrb.specs.Ring.{IsPair, known_free, known_items, producer_capacity, received as popped, sent as pushed}
use Rattle.edge_queue.specs.declared.ends.Head.{Head}
use Rattle.edge_queue.specs.declared.ends.Tail.{Tail}

-- every message that was put on the edge, in order
abbrev pub ring_sent : Tail → List Msg
ring_sent t = pushed t.producer

-- those since the last load
abbrev pub sent : Tail → List Msg
sent t = drop (length (pushed t.base.value)) (pushed t.producer)

-- every message that was taken from it, in order
abbrev pub ring_received : Head → List Msg
ring_received h = popped h.consumer

-- those since the last load
abbrev pub received : Head → List Msg
received h = drop (length (popped h.base.value)) (popped h.consumer)

-- the messages that the head knows on the edge: the next ones to be taken
abbrev pub known : Head → List Msg
known h = known_items h.consumer

-- how many free places the tail knows
abbrev pub free : Tail → ℕ
free t = known_free t.producer

-- how many messages the edge has room for
abbrev pub edge_capacity : Tail → ℕ
edge_capacity t = producer_capacity t.producer

-- the two ends of one edge
abbrev pub IsPaired : Tail → Head → Type 0
IsPaired t h = IsPair t.producer h.consumer

-- the two ends of one edge whose loads began at one moment
pub record IsEdge (t : Tail) (h : Head) : Type 0 where
  pub pair : IsPaired t h
  pub loaded : length (pushed t.base.value) ≡ length (popped h.base.value)

-- both ends know what is on the edge
pub record IsSettled (t : Tail) (h : Head) : Type 0 where
  pub order : ring_received h ++ known h ≡ ring_sent t
  pub room : length (known h) ≤ edge_capacity t
  pub free : edge_capacity t ≤ free t + length (known h)
