-- The topics behind some of a store's transitions.
use Rattle.std.specs.Prelude.{ℕ, List, map, take, Result, Ok, Err, ⊤}
use Rattle.topic_core.specs.Topics.{StandsFor, TopicsValue, event_of}
use Rattle.topic_core.specs.declared.transition.Transition.{Transition}
use Rattle.topic_store.specs.declared.fault.StoreFault.{StoreFault}
use Rattle.topic_store.specs.declared.fault.StoreFault.TheVariants.{DiskFault, NoMemory}

-- these are the topics of the first n transitions
abbrev pub AreBehind : List Transition → TopicsValue → ℕ → Type 0
AreBehind ts topics n = StandsFor (map event_of (take n ts)) topics

-- the topics of the first n are found, unless the disk failed or memory ran out
abbrev pub TopicsOrNot : List Transition → ℕ → Result TopicsValue StoreFault → Type 0
TopicsOrNot ts n (Ok topics) = AreBehind ts topics n
TopicsOrNot ts n (Err DiskFault) = ⊤
TopicsOrNot ts n (Err NoMemory) = ⊤
TopicsOrNot ts n (Err fault) = ⊥

-- they are found of as many as the answer tells, unless the disk failed or memory ran out
abbrev pub TakesMoreOrNot : List Transition → TopicsValue → Result ℕ StoreFault → Type 0
TakesMoreOrNot ts topics (Ok n) = AreBehind ts topics n
TakesMoreOrNot ts topics (Err DiskFault) = ⊤
TakesMoreOrNot ts topics (Err NoMemory) = ⊤
TakesMoreOrNot ts topics (Err fault) = ⊥
