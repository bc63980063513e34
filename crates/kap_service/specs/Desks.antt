-- What a desk answers.
use Rattle.std.specs.Prelude.{◌≡◌, ◌⊎◌, ℕ, ◌+◌, ◌-◌, ◌^◌, min, Bool, true, false, Result, Ok, Err}
use mathlib.Core.List.{IsPrefix}
use Rattle.kap_base.specs.Words.{HasRisen}
use Rattle.kap_http.specs.ReplyValues.{ReplyValue}
use Rattle.kap_http.specs.declared.ask.Ask.{Ask}
use Rattle.reply_bodies.specs.Asks.{change_of}
use Rattle.topic_core.specs.Topics.{topics_after}
use Rattle.kap_service.specs.Asks.{IsTopicReply, fault_of, is_topic}
use Rattle.kap_service.specs.Values.{Seats}

-- The seat was asked, and didn't go to the lock: the reply is of the topics after all that it knows, which begins with
-- what it knew, and with what was published when it was last answered under the lock. Its look wasn't refused.
pub record WasSeen (ask : Ask) (old new : Seats) (reply : ReplyValue) : Type 0 where
  pub answers : new.answers ≡ old.answers
  pub status : new.status ≡ old.status
  pub told : new.told ≡ old.told
  pub shown : new.shown ≡ old.shown
  pub changes : new.changes ≡ old.changes
  pub faults : new.faults ≡ old.faults
  pub aways : new.aways ≡ old.aways
  pub later : IsPrefix old.known new.known
  pub own : IsPrefix old.told new.known
  pub reply_is : IsTopicReply ask (topics_after new.known) reply

-- The seat went to the lock, where its ask got this status: its answers rose, or stand at the end of their type, and it
-- keeps the status. Its share of changes rose by one exactly where a changing ask got 200 or 204, that of faults exactly
-- at 500. What it was told goes on from what it was told before.
pub record WasDecided (ask : Ask) (status : ℕ) (old new : Seats) : Type 0 where
  pub answers : new.answers ≡ min (old.answers + 1) (2 ^ 64 - 1)
  pub status_is : new.status ≡ status
  pub changes : new.changes ≡ old.changes + change_of ask status
  pub faults : new.faults ≡ old.faults + fault_of status
  pub later : IsPrefix old.told new.told

-- The seat's look was refused, which is counted. It learnt what the seat was told, and no more.
pub record WasRefused (old new : Seats) : Type 0 where
  pub aways : HasRisen old.aways new.aways
  pub known : (new.known ≡ old.known) ⊎ (new.known ≡ old.told)
  pub later : IsPrefix old.known new.known
  pub own : IsPrefix old.told new.known

-- the seat's look wasn't asked
pub record WasUnasked (old new : Seats) : Type 0 where
  pub known : new.known ≡ old.known
  pub aways : new.aways ≡ old.aways

-- An ask about topics is answered by the seat, or goes to the lock where its look was refused; each other one goes to
-- the lock, and the look isn't asked.
abbrev pub IsServedSo : Bool → Ask → Seats → Seats → ReplyValue → Type 0
IsServedSo true ask old new reply =
    WasSeen ask old new reply ⊎ (WasRefused old new × WasDecided ask reply.status old new)
IsServedSo false ask old new reply = WasDecided ask reply.status old new × WasUnasked old new

-- What is routed so is answered so: where the route refuses, that refusal is the reply, and the seat isn't asked.
abbrev pub IsServed : Result Ask ReplyValue → Seats → Seats → ReplyValue → Type 0
IsServed (Err refusal) old new reply = (reply ≡ refusal) × (new ≡ old)
IsServed (Ok ask) old new reply = IsServedSo (is_topic ask) ask old new reply
