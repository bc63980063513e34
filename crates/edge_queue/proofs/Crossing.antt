-- The ends of an edge may go to another thread.
use denote.RattleType.{RattleType}
use denote.Param.Send.{IsSend, struct_send, recorded_send, sendable}
use denote.Struct.Declared as Declared
use Rattle.std.proofs.Crossing.{crosses}
use Rattle.kap_base.proofs.items.Msg.TheSendSync as Msg_
use Rattle.kap_base.specs.contracts.items.Msg as Msg
use Rattle.rtrb.proofs.producer.Producer.TheSendSync as Producer_
use Rattle.rtrb.specs.contracts.producer.Producer as Producer
use Rattle.rtrb.proofs.consumer.Consumer.TheSendSync as Consumer_
use Rattle.rtrb.specs.contracts.consumer.Consumer as Consumer
use Rattle.rtrb.specs.contracts.AnyItems as AnyItems
use Rattle.rtrb.specs.contracts.AnyItemsProtocol.TheImpl as Any
use Rattle.std.below.std_heap.proofs.GlobalAllocator.TheSendSync as Heap_
use Rattle.std.proofs.alloc.Global.TheSendSync as Global_
use Rattle.std.specs.contracts.alloc.Global as Global
use Rattle.std.specs.contracts.impls.GlobalAllocator.TheImpl as Heap
use Rattle.std.specs.contracts.snapshot.Snapshot as Snapshot
use Rattle.edge_queue.specs.contracts.ends.Tail as Tail
use Rattle.edge_queue.specs.contracts.ends.Head as Head

pub snapshot_send : (T : RattleType) → IsSend (Snapshot.the_field T).row
snapshot_send T = search (crosses, sendable) depth 60 fits 20000

abbrev producer : RattleType
producer = Producer.the_row Msg.the_row Global.the_row AnyItems.the_row Heap.ghosts (Any.ghosts Msg.the_row)

abbrev consumer : RattleType
consumer = Consumer.the_row Msg.the_row Global.the_row AnyItems.the_row Heap.ghosts (Any.ghosts Msg.the_row)

pub Tail_field : IsSend (Tail.the_field).row
Tail_field = struct_send (Declared.shape Tail.the_type) (
  Producer_.the_field_send Msg.the_row Global.the_row AnyItems.the_row Heap.ghosts (Any.ghosts Msg.the_row) Msg_.the_send Global_.the_send Heap_.the_frees,
  (snapshot_send producer, tt),
)

pub Tail_send : IsSend Tail.the_row
Tail_send = recorded_send (Tail.the_field).row _ _ (Tail.the_type).to_one Tail_field

pub Head_field : IsSend (Head.the_field).row
Head_field = struct_send (Declared.shape Head.the_type) (
  Consumer_.the_field_send Msg.the_row Global.the_row AnyItems.the_row Heap.ghosts (Any.ghosts Msg.the_row) Msg_.the_send Global_.the_send Heap_.the_frees,
  (snapshot_send consumer, tt),
)

pub Head_send : IsSend Head.the_row
Head_send = recorded_send (Head.the_field).row _ _ (Head.the_type).to_one Head_field
