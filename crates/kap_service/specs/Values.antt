-- What contracts see.
use Rattle.std.specs.Prelude.{ℕ, ℤ, Bool, List}
use Rattle.kap_http.specs.ReplyValues.{ReplyValue}
use Rattle.kap_http.specs.declared.ask.Ask.{Ask}
use Rattle.topic_core.specs.declared.transition.Transition.{Transition}
use Rattle.topic_board.specs.Values.{Posts}

-- how often the disk failed, and how often a pattern was refused; each count stands still at the end of its type
pub record Faults : Type 0 where
  pub disk : ℕ
  pub patterns : ℕ

-- an engine on its disk: the changes that it counts, its faults, whether a call failed in the middle, so that it is to be
-- made again, and the transitions that its last change stored
pub record Engines : Type 0 where
  pub changes : ℕ
  pub faults : Faults
  pub spent : Bool
  pub own : List Transition

-- a store, as the service speaks of it: how many changes it has, and its transitions
pub record Stores : Type 0 where
  pub changes : ℕ
  pub stored : List Transition

-- a decision: what was asked, at which moment, how many changes the store had then, and the reply
pub record Decisions : Type 0 where
  pub ask : Ask
  pub moment : ℤ
  pub changes : ℕ
  pub reply : ReplyValue

-- a seat: its shares of the two ledgers, which are the changes and the faults that it was answered; how many answers it
-- got under the lock, the status of the last one, the transitions that were published then, and whether these were all
-- that were stored; those that its look knows, and how often that was refused
pub record Seats : Type 0 where
  pub changes : ℕ
  pub faults : ℕ
  pub answers : ℕ
  pub status : ℕ
  pub told : List Transition
  pub shown : Bool
  pub known : List Transition
  pub aways : ℕ

-- what lies under the lock: the engine, the two books, whether memory was short, and the board
pub record States : Type 0 where
  pub engine : Engines
  pub first : ℕ
  pub second : ℕ
  pub short : Bool
  pub posts : Posts

-- the owner: the changes that the store had at the start, and the parts of the two ledgers that no seat has
pub record Sharing : Type 0 where
  pub began : ℕ
  pub first_parts : ℕ
  pub second_parts : ℕ
