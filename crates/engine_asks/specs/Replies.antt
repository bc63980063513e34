-- The reply that is due to an ask (Kapacitor 1.6: HTTP API; InfluxDB 1.8: the write endpoint), by the tasks and the
-- topics that a store has.
use Rattle.std.specs.Prelude.{◌≡◌, ◌⊎◌, ◌≤◌, ⊤, ℕ, ℤ, true, false, List, length, Option, Some, None, Result, Ok, Err, IfSome}
use Rattle.kap_base.specs.Points.{PointValue}
use Rattle.kap_base.specs.Words.{HasRisen}
use Rattle.kap_base.specs.declared.limits.TheConstants.{TASK_LIMIT}
use Rattle.kap_http.specs.AskValues.{DefineValue, WriteValue}
use Rattle.kap_http.specs.Refusals.{refusal_reply}
use Rattle.kap_http.specs.Replies.{error_reply, out_of_memory}
use Rattle.kap_http.specs.ReplyValues.{ReplyValue}
use Rattle.kap_http.specs.declared.ask.Ask.{Ask}
use Rattle.kap_http.specs.declared.ask.Ask.TheVariants as asks
use Rattle.kap_http.specs.declared.ask.Precision.{Precision}
use Rattle.kap_http.specs.declared.ask.Precision.TheVariants as precisions
use Rattle.kap_http.specs.declared.ask.TaskAct.{TaskAct}
use Rattle.kap_http.specs.declared.ask.TaskAct.TheVariants as acts
use Rattle.kap_http.specs.declared.refusal.Refusal.TheVariants as refusals
use Rattle.line_points.specs.Body.{body_of}
use Rattle.line_points.specs.FaultText.{fault_line}
use Rattle.line_points.specs.declared.fault.BodyFault.{BodyFault}
use Rattle.line_points.specs.declared.mode.Mode.{Mode}
use Rattle.line_points.specs.declared.mode.Unit.{Unit as TimeUnit}
use Rattle.line_points.specs.declared.mode.Unit.TheVariants as units
use Rattle.store_records.specs.Held.{has_task, task_of}
use Rattle.store_records.specs.declared.task.StoredTask.{StoredTask}
use Rattle.tick_compile.specs.Scripts.{Refuses}
use Rattle.tick_compile.specs.Tasks.{is_refusal, refusal_in}
use Rattle.tick_compile.specs.Texts.{text_of_fault}
use Rattle.tick_compile.specs.declared.script_fault.ScriptFault.{ScriptFault}
use Rattle.topic_core.specs.Topics.{TopicsValue}
use Rattle.engine_store.specs.Asking.{IsScript}
use Rattle.engine_store.specs.declared.fault.EngineFault.{EngineFault}
use Rattle.engine_store.specs.declared.fault.EngineFault.TheVariants as engines
use Rattle.kap_engine.specs.Changing.{CanBeDefined}
use Rattle.reply_bodies.specs.Asks.{IsFailed, change_of}
use Rattle.reply_bodies.specs.Bodies.{IsDueOrShort, done_reply, given_reply, tasks_reply, topic_reply, topics_reply}
use Rattle.reply_bodies.specs.Texts.{stored_text, task_text}

-- ---- points are written

-- what times count
abbrev pub unit_of : Precision → TimeUnit
unit_of precisions.Ns = units.Ns
unit_of precisions.Us = units.Us
unit_of precisions.Ms = units.Ms
unit_of precisions.S = units.S
unit_of precisions.M = units.M
unit_of precisions.H = units.H

-- how the lines are read: `now` stands for a time that is missing
abbrev pub mode_of : WriteValue → ℤ → Mode
mode_of w now = Mode.Live (unit_of w.precision) now

-- the points that are to be written, or the first faulty line
abbrev pub points_asked : WriteValue → ℤ → Result (List PointValue) BodyFault
points_asked w now = body_of w.db w.rp (mode_of w now) w.body

-- the reply where lines were read: 204, or 400 with the number of the first faulty line and its fault
abbrev pub reply_to_lines : Result (List PointValue) BodyFault → ReplyValue
reply_to_lines (Ok points) = done_reply
reply_to_lines (Err fault) = error_reply 400 (fault_line fault)

-- ---- a task is shown or changed

-- The reply about a task that is there or isn't: it is shown with its script, and enabled or not as it was, or as it is
-- from now on; 204 where it is deleted; 404 where no task has the id.
abbrev pub reply_to_act : TaskAct → Option StoredTask → ReplyValue
reply_to_act act None = refusal_reply refusals.NoTask
reply_to_act acts.Show (Some task) = given_reply (stored_text task)
reply_to_act acts.Enable (Some task) = given_reply (task_text task.id task.script true)
reply_to_act acts.Disable (Some task) = given_reply (task_text task.id task.script false)
reply_to_act acts.Delete (Some task) = done_reply

-- ---- a task is defined

-- The reply to a definition: 400 with the first fault of the script; else 409, where a task has the id; else 409, where
-- there are as many as may be; else 200 with the task. The first fault is a pattern that was refused only where the
-- count of these rose, from `before` to `after`; the text is the one that was refused last.
pub data IsReplyToDefinition (before after : ℕ) (refused : List ℕ) (tasks : List StoredTask) (d : DefineValue)
    (reply : ReplyValue) : Type 0 where
  no_script : (fault : ScriptFault) → Refuses (refusal_in fault refused) d.script fault
      → (is_refusal fault ≡ true → HasRisen before after)
      → reply ≡ error_reply 400 (text_of_fault fault) → IsReplyToDefinition before after refused tasks d reply
  exists : IsScript d.script → has_task d.id tasks ≡ true → reply ≡ refusal_reply refusals.Exists
      → IsReplyToDefinition before after refused tasks d reply
  no_room : IsScript d.script → has_task d.id tasks ≡ false → TASK_LIMIT ≤ length tasks
      → reply ≡ refusal_reply refusals.TooManyTasks → IsReplyToDefinition before after refused tasks d reply
  is_defined : CanBeDefined tasks d.id d.script → reply ≡ given_reply (task_text d.id d.script d.enabled)
      → IsReplyToDefinition before after refused tasks d reply

-- ---- any ask

module _ (before after : ℕ) (refused : List ℕ) (tasks : List StoredTask) (topics : TopicsValue) (now : ℤ) where
  -- The reply that is due to an ask at a moment, by the tasks and topics that there are. The numbers are how many
  -- patterns were refused before and after it, and the text is the last one.
  abbrev pub IsReply : Ask → ReplyValue → Type 0
  IsReply asks.Ping reply = reply ≡ done_reply
  IsReply (asks.Write w) reply = reply ≡ reply_to_lines (points_asked w now)
  IsReply asks.Tasks reply = reply ≡ tasks_reply tasks
  IsReply (asks.Define d) reply = IsReplyToDefinition before after refused tasks d reply
  IsReply (asks.Task t) reply = reply ≡ reply_to_act t.act (task_of t.id tasks)
  IsReply asks.Topics reply = reply ≡ topics_reply topics
  IsReply (asks.Topic t) reply = reply ≡ topic_reply topics t.name

  -- it is the one that is due, or says that the store failed or that memory ran out
  abbrev pub IsReplyOrFailed : Ask → ReplyValue → Type 0
  IsReplyOrFailed ask reply = IsReply ask reply ⊎ IsFailed reply.status

  -- a change is asked for, and that it is done is the reply that is due
  abbrev pub WouldChange : Ask → Type 0
  WouldChange ask = (due : ReplyValue) × IsReply ask due × (change_of ask due.status ≡ 1)

-- ---- the replies to faults

-- the reply where the engine refuses: 400, 404 and 409 by its reason; 500 where the disk failed, or where the script of a
-- stored task was refused; 503 where memory ran out
abbrev pub reply_to_fault : EngineFault → ReplyValue
reply_to_fault (engines.Script fault) = error_reply 400 (text_of_fault fault)
reply_to_fault engines.NoTask = refusal_reply refusals.NoTask
reply_to_fault engines.Exists = refusal_reply refusals.Exists
reply_to_fault engines.TooManyTasks = refusal_reply refusals.TooManyTasks
reply_to_fault (engines.NotStore part offset) = refusal_reply refusals.Store
reply_to_fault engines.DiskFault = refusal_reply refusals.Store
reply_to_fault engines.NoMemory = out_of_memory false

-- where an ask is about a task that is there, the script of this is that of a task
abbrev pub HasScript : List StoredTask → Ask → Type 0
HasScript tasks (asks.Task t) = IfSome (task_of t.id tasks) (λ task. IsScript task.script)
HasScript tasks ask = ⊤

-- the reply tells this text of what is wrong, or says that there was no memory for it
abbrev pub IsErrorText : {E : Type 0} → Result (List ℕ) E → ReplyValue → Type 0
IsErrorText (Ok text) reply = IsDueOrShort (error_reply 400 text) reply
IsErrorText (Err fault) reply = reply.status ≡ 503

-- the reply is the one that is due, or says that the store failed or that memory ran out
abbrev pub IsDueOrFailed : ReplyValue → ReplyValue → Type 0
IsDueOrFailed due reply = (reply ≡ due) ⊎ IsFailed reply.status
