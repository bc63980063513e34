-- What the replies to faults say.
use Rattle.std.proofs.Common.{◌≡◌, ℕ, true, false, List, [], ◌∷◌, Option, None, Some, Result, Ok, Err, cond, inl, inr, refl, sym, ap, subst, ◌∙◌, arith}
use Rattle.std.specs.Prelude.{◌⊎◌, ◌||◌, IfOk, IfSome}
use Rattle.kap_base.specs.Words.{HasRisen}
use Rattle.kap_io.specs.declared.disk.Part.{Part}
use Rattle.kap_http.specs.AskValues.{DefineValue}
use Rattle.kap_http.specs.Replies.{error_reply}
use Rattle.kap_http.specs.ReplyValues.{ReplyValue}
use Rattle.kap_http.specs.declared.ask.TaskAct.{TaskAct}
use Rattle.kap_http.specs.declared.ask.TaskAct.TheVariants as acts
use Rattle.lambda_types.specs.Faults.{Refusal}
use Rattle.store_records.specs.Held.{has_task, is_called, task_of}
use Rattle.store_records.specs.declared.task.StoredTask.{StoredTask}
use Rattle.tick_compile.specs.Scripts.{Accepts, Refuses}
use Rattle.tick_compile.specs.Tasks.{is_refusal}
use Rattle.tick_compile.specs.declared.script_fault.ScriptFault.{ScriptFault}
use Rattle.tick_compile.specs.declared.tasks.Task.{Task}
use Rattle.engine_store.specs.Asking.{IsScript}
use Rattle.engine_store.specs.declared.fault.EngineFault.{EngineFault}
use Rattle.engine_store.specs.declared.fault.EngineFault.TheVariants as engines
use Rattle.engine_store.proofs.WhyLaws.{refused_rose}
use Rattle.kap_engine.specs.Changing.{CanBeDefined, IsRefusedAgain, IsWhyNoneDefined, IsWhyNoneEnabled}
use Rattle.reply_bodies.specs.Asks.{IsFailed, is_done}
use Rattle.reply_bodies.specs.Bodies.{IsDueOrShort, given_reply}
use Rattle.reply_bodies.specs.Texts.{task_text}
use Rattle.engine_asks.specs.Replies.{IsErrorText, IsReplyToDefinition, exists, is_defined, no_room, no_script, reply_to_act, reply_to_fault}

-- a text that was made is told
pub told : {E : Type 0} (text : Result (List ℕ) E) (due : List ℕ) (reply : ReplyValue) → IfOk text (λ t. t ≡ due)
    → IsErrorText text reply → IsDueOrShort (error_reply 400 due) reply
told (Ok text) due reply is tells = subst (λ (t : List ℕ). IsDueOrShort (error_reply 400 t) reply) is tells
told (Err fault) due reply is short = inr short

-- ---- a task that is defined, or isn't

status_is : (reply due : ReplyValue) → reply ≡ due → reply.status ≡ due.status
status_is reply due is = ap (λ (r : ReplyValue). r.status) is

-- where the store didn't fail, 500 isn't the status
not_failed : (due reply : ReplyValue) → (due.status ≡ 500 → ⊥) → IsDueOrShort due reply → reply.status ≡ 500 → ⊥
not_failed due reply other (inl is) e = other (sym (status_is reply due is) ∙ e)
not_failed due reply other (inr short) e = absurd (omega (arith, short, e))

module _ (before after : ℕ) (refused : List ℕ) (tasks : List StoredTask) (d : DefineValue) where
  -- that it is defined is told
  pub defined_due : (reply : ReplyValue) → CanBeDefined tasks d.id d.script → IsDueOrShort (given_reply (task_text d.id d.script d.enabled)) reply
      → IsReplyToDefinition before after refused tasks d reply ⊎ IsFailed reply.status
  defined_due reply could (inl is) = inl (is_defined could is)
  defined_due reply could (inr short) = inr (inr short)

  -- why none is defined is told
  pub none_defined : (fault : EngineFault) (reply : ReplyValue) → IsWhyNoneDefined refused d.id d.script tasks fault
      → ((f : ScriptFault) → fault ≡ engines.Script f → is_refusal f ≡ true → HasRisen before after)
      → IsDueOrShort (reply_to_fault fault) reply → IsReplyToDefinition before after refused tasks d reply ⊎ IsFailed reply.status
  none_defined (engines.Script fault) reply why rose (inl is) = inl (no_script fault why (rose fault refl) is)
  none_defined (engines.Script fault) reply why rose (inr short) = inr (inr short)
  none_defined engines.NoTask reply why rose due = absurd why
  none_defined engines.Exists reply why rose (inl is) = inl (exists why.0 why.1 is)
  none_defined engines.Exists reply why rose (inr short) = inr (inr short)
  none_defined engines.TooManyTasks reply why rose (inl is) = inl (no_room why.0 why.1 why.2 is)
  none_defined engines.TooManyTasks reply why rose (inr short) = inr (inr short)
  none_defined (engines.NotStore part offset) reply why rose due = absurd why
  none_defined engines.DiskFault reply why rose (inl is) = inr (inl (status_is reply (reply_to_fault engines.DiskFault) is))
  none_defined engines.DiskFault reply why rose (inr short) = inr (inr short)
  none_defined engines.NoMemory reply why rose (inl is) = inr (inr (status_is reply (reply_to_fault engines.NoMemory) is))
  none_defined engines.NoMemory reply why rose (inr short) = inr (inr short)

  -- the store failed only where it could be defined
  pub none_instead : (fault : EngineFault) (reply : ReplyValue) → IsWhyNoneDefined refused d.id d.script tasks fault → IsDueOrShort (reply_to_fault fault) reply → reply.status ≡ 500
      → CanBeDefined tasks d.id d.script
  none_instead (engines.Script fault) reply why due is = absurd (not_failed (reply_to_fault (engines.Script fault)) reply (λ e. absurd (omega (arith, e))) due is)
  none_instead engines.NoTask reply why due is = absurd why
  none_instead engines.Exists reply why due is = absurd (not_failed (reply_to_fault engines.Exists) reply (λ e. absurd (omega (arith, e))) due is)
  none_instead engines.TooManyTasks reply why due is = absurd (not_failed (reply_to_fault engines.TooManyTasks) reply (λ e. absurd (omega (arith, e))) due is)
  none_instead (engines.NotStore part offset) reply why due is = absurd why
  none_instead engines.DiskFault reply why due is = why
  none_instead engines.NoMemory reply why due is = absurd (not_failed (reply_to_fault engines.NoMemory) reply (λ e. absurd (omega (arith, e))) due is)

-- ---- a task that is there

-- where no task has an id, none is found
none_found : (id : List ℕ) (tasks : List StoredTask) → has_task id tasks ≡ false → task_of id tasks ≡ None
none_found id [] none = refl
none_found id (t ∷ tasks) none = elim (is_called id t) as (λ b. (b || has_task id tasks) ≡ false → cond b (Some t) (task_of id tasks) ≡ None) [
  | true ↦ λ is. absurd cc
  | false ↦ λ is. none_found id tasks is
] none

-- a reply with a status of a refusal or a failure isn't that of what was done
not_done : (status other : ℕ) → status ≡ other → is_done other ≡ false → is_done status ≡ true → ⊥
not_done status other is none done = let both : true ≡ false = sym done ∙ ap is_done is ∙ none in absurd cc

-- where the reply was made that something was done with a task, it is there
there_is : (act : TaskAct) (id : List ℕ) (tasks : List StoredTask) (given : ReplyValue) → has_task id tasks ≡ false
    → IsDueOrShort (reply_to_act act (task_of id tasks)) given → is_done given.status ≡ true → ⊥
there_is act id tasks given none (inl is) done =
    let lost : given ≡ reply_to_act act None = is ∙ ap (reply_to_act act) (none_found id tasks none) in
    not_done given.status 404 (status_is given (reply_to_act act None) lost) refl done
there_is act id tasks given none (inr short) done = not_done given.status 503 short refl done

-- so that it is done is what is due
pub done_instead : (act : TaskAct) (found : Option StoredTask) (given : ReplyValue) → IsDueOrShort (reply_to_act act found) given → is_done given.status ≡ true → is_done (reply_to_act act found).status ≡ true
done_instead act found given (inl is) done = sym (ap is_done (status_is given (reply_to_act act found) is)) ∙ done
done_instead act found given (inr short) done = absurd (not_done given.status 503 short refl done)

-- a reply that isn't says of no failure of the store
pub due_is_none : (act : TaskAct) (found : Option StoredTask) (reply : ReplyValue) → IsDueOrShort (reply_to_act act found) reply → reply.status ≡ 500 → ⊥
due_is_none act None reply due is = not_failed (reply_to_act act None) reply (λ e. absurd (omega (arith, e))) due is
due_is_none acts.Show (Some task) reply due is = not_failed (reply_to_act acts.Show (Some task)) reply (λ e. absurd (omega (arith, e))) due is
due_is_none acts.Enable (Some task) reply due is = not_failed (reply_to_act acts.Enable (Some task)) reply (λ e. absurd (omega (arith, e))) due is
due_is_none acts.Disable (Some task) reply due is = not_failed (reply_to_act acts.Disable (Some task)) reply (λ e. absurd (omega (arith, e))) due is
due_is_none acts.Delete (Some task) reply due is = not_failed (reply_to_act acts.Delete (Some task)) reply (λ e. absurd (omega (arith, e))) due is

module _ (before after : ℕ) (refused : List ℕ) (log : Part) (id : List ℕ) (tasks : List StoredTask) where
  -- where nothing is done with a task that is there, the store failed or memory ran out
  pub acted_failed : (act : TaskAct) (fault : EngineFault) (given reply : ReplyValue) → IsWhyNoneEnabled before after refused log id tasks fault
      → IsDueOrShort (reply_to_act act (task_of id tasks)) given → is_done given.status ≡ true → IsDueOrShort (reply_to_fault fault) reply → IsFailed reply.status
  acted_failed act (engines.Script fault) given reply why due done told = absurd why
  acted_failed act engines.NoTask given reply why due done told = absurd (there_is act id tasks given why due done)
  acted_failed act engines.Exists given reply why due done told = absurd why
  acted_failed act engines.TooManyTasks given reply why due done told = absurd why
  acted_failed act (engines.NotStore part offset) given reply why due done (inl is) = inl (status_is reply (reply_to_fault (engines.NotStore part offset)) is)
  acted_failed act (engines.NotStore part offset) given reply why due done (inr short) = inr short
  acted_failed act engines.DiskFault given reply why due done (inl is) = inl (status_is reply (reply_to_fault engines.DiskFault) is)
  acted_failed act engines.DiskFault given reply why due done (inr short) = inr short
  acted_failed act engines.NoMemory given reply why due done (inl is) = inr (status_is reply (reply_to_fault engines.NoMemory) is)
  acted_failed act engines.NoMemory given reply why due done (inr short) = inr short

  -- why the store failed
  pub acted_cause : (apart : (refused : Option Refusal) (text : List ℕ) (task : Task) (fault : ScriptFault) → Accepts refused text task → Refuses refused text fault → ⊥)
      → IfSome (task_of id tasks) (λ task. IsScript task.script) → {Rises : Type 0} (fault : EngineFault) (reply : ReplyValue) → IsWhyNoneEnabled before after refused log id tasks fault
      → (fault ≡ engines.DiskFault → Rises) → IsDueOrShort (reply_to_fault fault) reply → reply.status ≡ 500 → Rises ⊎ HasRisen before after
  acted_cause apart script (engines.Script fault) reply why rises told is = absurd why
  acted_cause apart script engines.NoTask reply why rises (inl due) is = let e = status_is reply (reply_to_fault engines.NoTask) due in absurd (omega (arith, e, is))
  acted_cause apart script engines.NoTask reply why rises (inr short) is = absurd (omega (arith, short, is))
  acted_cause apart script engines.Exists reply why rises told is = absurd why
  acted_cause apart script engines.TooManyTasks reply why rises told is = absurd why
  acted_cause apart script (engines.NotStore part offset) reply why rises told is =
      let again : IsRefusedAgain before after refused (task_of id tasks) offset = why.1 in
      inr (refused_rose before after refused again.task.script apart (subst (λ (o : Option StoredTask). IfSome o (λ task. IsScript task.script)) again.is script) again.why)
  acted_cause apart script engines.DiskFault reply why rises told is = inl (rises refl)
  acted_cause apart script engines.NoMemory reply why rises (inl due) is = let e = status_is reply (reply_to_fault engines.NoMemory) due in absurd (omega (arith, e, is))
  acted_cause apart script engines.NoMemory reply why rises (inr short) is = absurd (omega (arith, short, is))
