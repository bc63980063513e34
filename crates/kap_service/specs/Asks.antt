-- Asks, and the statuses of their answers.
use Rattle.std.specs.Prelude.{ℕ, ◌==◌, Bool, true, false, if◌then◌else◌, Result, Ok, Err}
use Rattle.kap_http.specs.ReplyValues.{ReplyValue}
use Rattle.kap_http.specs.declared.ask.Ask.{Ask}
use Rattle.kap_http.specs.declared.ask.Ask.TheVariants as asks
use Rattle.reply_bodies.specs.Bodies.{IsDueOrShort, topic_reply, topics_reply}
use Rattle.topic_core.specs.Topics.{TopicsValue}
use Rattle.kap_service.specs.Values.{Decisions}

-- the ask is about topics
abbrev pub is_topic : Ask → Bool
is_topic asks.Ping = false
is_topic (asks.Write w) = false
is_topic asks.Tasks = false
is_topic (asks.Define d) = false
is_topic (asks.Task t) = false
is_topic asks.Topics = true
is_topic (asks.Topic t) = true

-- the reply to an ask about topics, where these are the topics; or there was no memory for it
abbrev pub IsTopicReply : Ask → TopicsValue → ReplyValue → Type 0
IsTopicReply asks.Topics topics reply = IsDueOrShort (topics_reply topics) reply
IsTopicReply (asks.Topic t) topics reply = IsDueOrShort (topic_reply topics t.name) reply
IsTopicReply ask topics reply = ⊥

-- 1 where the status says that the store failed
abbrev pub fault_of : ℕ → ℕ
fault_of status = if status == 500 then 1 else 0

-- the status of an answer: that of a decision, or that of a reply without one
abbrev pub status_of : Result Decisions ReplyValue → ℕ
status_of (Ok d) = d.reply.status
status_of (Err reply) = reply.status
