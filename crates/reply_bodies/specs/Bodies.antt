-- The replies that have these texts.
use Rattle.std.specs.Prelude.{◌≡◌, ◌⊎◌, ℕ, false, List, [], Option, Some, None, Result, Ok, Err}
use Rattle.std.specs.FinMap.{get}
use Rattle.kap_base.specs.Maps.{KeyMap}
use Rattle.kap_base.specs.declared.items.Level.{Level}
use Rattle.kap_http.specs.Refusals.{refusal_reply}
use Rattle.kap_http.specs.ReplyValues.{ReplyValue}
use Rattle.kap_http.specs.declared.refusal.Refusal.TheVariants as refusals
use Rattle.store_records.specs.declared.task.StoredTask.{StoredTask}
use Rattle.topic_core.specs.Topics.{TopicsValue}
use Rattle.reply_bodies.specs.Texts.{tasks_text, topic_text, topics_text}

-- a reply that gives what was asked for; it isn't a last one
abbrev pub given_reply : List ℕ → ReplyValue
given_reply body = record { status = 200; body = body; last = false }

-- the reply that says that what was asked for is done
abbrev pub done_reply : ReplyValue
done_reply = record { status = 204; body = []; last = false }

-- the reply about topics
abbrev pub topics_reply : TopicsValue → ReplyValue
topics_reply topics = given_reply (topics_text topics.levels)

-- the reply about a topic of this name: that with these ids; or it has had no transition
abbrev pub found_topic : List ℕ → Option (KeyMap Level) → ReplyValue
found_topic name None = refusal_reply refusals.NoPath
found_topic name (Some ids) = given_reply (topic_text name ids)

-- the same, among topics
abbrev pub topic_reply : TopicsValue → List ℕ → ReplyValue
topic_reply topics name = found_topic name (get topics.levels name)

-- the reply about tasks
abbrev pub tasks_reply : List StoredTask → ReplyValue
tasks_reply tasks = given_reply (tasks_text tasks)

-- the reply is the one that is due, or says that memory ran out
abbrev pub IsDueOrShort : ReplyValue → ReplyValue → Type 0
IsDueOrShort due reply = (reply ≡ due) ⊎ (reply.status ≡ 503)

-- the reply gives this body, or says that there was no memory for it
abbrev pub IsGiven : {E : Type 0} → Result (List ℕ) E → ReplyValue → Type 0
IsGiven (Ok body) reply = reply ≡ given_reply body
IsGiven (Err fault) reply = reply.status ≡ 503
