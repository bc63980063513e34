-- What calls do to the ends of an edge.
use Rattle.std.specs.Prelude.{◌≡◌, ◌+◌, ◌≤◌, [], ◌∷◌, ◌++◌}
use mathlib.Core.List.{IsPrefix}
use Rattle.kap_base.specs.declared.items.Msg.{Msg}
use Rattle.rtrb.specs.Ring.{SameConsumer, SameProducer}
use Rattle.edge_queue.specs.declared.ends.Head.{Head}
use Rattle.edge_queue.specs.declared.ends.Tail.{Tail}
use Rattle.edge_queue.specs.Edges.{free, known, received, ring_received, ring_sent, sent}

-- the same end of the same edge, with the same load
pub record SameTail (a b : Tail) : Type 0 where
  pub ring : SameProducer a.producer b.producer
  pub base : b.base.value ≡ a.base.value

-- the same head of the same edge, with the same load
pub record SameHead (a b : Head) : Type 0 where
  pub ring : SameConsumer a.consumer b.consumer
  pub base : b.base.value ≡ a.base.value

-- nothing was put, and no free place that was known is lost
pub record TailLooked (a b : Tail) : Type 0 where
  pub same : SameTail a b
  pub ring_sent : ring_sent b ≡ ring_sent a
  pub sent : sent b ≡ sent a
  pub free : free a ≤ free b

-- nothing was taken, and more messages may be known
pub record HeadLooked (a b : Head) : Type 0 where
  pub same : SameHead a b
  pub ring_received : ring_received b ≡ ring_received a
  pub received : received b ≡ received a
  pub known : IsPrefix (known a) (known b)

-- one message was put
pub record Puts (msg : Msg) (a b : Tail) : Type 0 where
  pub same : SameTail a b
  pub ring_sent : ring_sent b ≡ ring_sent a ++ msg ∷ []
  pub sent : sent b ≡ sent a ++ msg ∷ []
  pub free : free a ≤ free b + 1

-- one message was taken: the first that was known, if one was
pub record Takes (msg : Msg) (a b : Head) : Type 0 where
  pub same : SameHead a b
  pub ring_received : ring_received b ≡ ring_received a ++ msg ∷ []
  pub received : received b ≡ received a ++ msg ∷ []
  pub known : IsPrefix (known a) (msg ∷ known b)

-- a load began: nothing was sent since then
pub record TailLoads (a b : Tail) : Type 0 where
  pub ring : b.producer ≡ a.producer
  pub base : b.base.value ≡ a.producer
  pub sent : sent b ≡ []

-- nothing was received since then
pub record HeadLoads (a b : Head) : Type 0 where
  pub ring : b.consumer ≡ a.consumer
  pub base : b.base.value ≡ a.consumer
  pub received : received b ≡ []
