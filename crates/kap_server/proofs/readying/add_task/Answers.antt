use Rattle.std.proofs.Common.{◌≡◌, ℕ, false, List, refl, sym, subst, ◌∙◌, arith}
use Rattle.std.specs.Prelude.{◌≢◌, Result, Ok, Err, IfErr}
use Rattle.std.specs.Result.{IsErrAnd}
use Rattle.tick_compile.specs.Scripts.{Refuses}
use Rattle.tick_compile.specs.Tasks.{refusal_in}
use Rattle.tick_compile.specs.declared.script_fault.ScriptFault.{ScriptFault}
use Rattle.tick_compile.specs.declared.script_fault.ScriptFault.TheVariants as scripts
use Rattle.kap_server.specs.Pairs.{IsNoTask, is_among}
use Rattle.kap_server.specs.ReadingIn.{IsShort}
use Rattle.kap_server.specs.Readying.{ids_of}
use Rattle.kap_server.specs.Runs.{refusal_of}
use Rattle.kap_server.specs.Statuses.{status_of_script}
use Rattle.kap_server.specs.Words.{Pair}
use Rattle.kap_server.specs.declared.status.Status.{Status}
use Rattle.kap_server.specs.declared.status.Status.TheVariants as statuses
use Rattle.kap_server.proofs.readying.add_task.Goals as goal

-- a script's first fault is why the pair is no task, unless memory lacked
no_task : (refused : List ℕ) (ids : List (List ℕ)) (pair : Pair) (f : ScriptFault) → IsShort pair.script → is_among pair.id ids ≡ false
    → (f ≢ scripts.NoMemory → Refuses (refusal_in f refused) pair.script f) → status_of_script f ≢ statuses.NoMemory
    → IsNoTask (refusal_of (status_of_script f) refused) ids pair (status_of_script f)
no_task refused ids pair (scripts.NotUtf8 at) short new why other = (short, new, why (λ e. absurd cc))
no_task refused ids pair (scripts.Lex fault) short new why other = (short, new, why (λ e. absurd cc))
no_task refused ids pair (scripts.Parse fault) short new why other = (short, new, why (λ e. absurd cc))
no_task refused ids pair (scripts.Name fault) short new why other = (short, new, why (λ e. absurd cc))
no_task refused ids pair (scripts.NoKind at) short new why other = (short, new, why (λ e. absurd cc))
no_task refused ids pair (scripts.Property at) short new why other = (short, new, why (λ e. absurd cc))
no_task refused ids pair (scripts.Argument at) short new why other = (short, new, why (λ e. absurd cc))
no_task refused ids pair (scripts.Handler at) short new why other = (short, new, why (λ e. absurd cc))
no_task refused ids pair (scripts.Template at fault) short new why other = (short, new, why (λ e. absurd cc))
no_task refused ids pair (scripts.Lambda fault) short new why other = (short, new, why (λ e. absurd cc))
no_task refused ids pair (scripts.Graph fault) short new why other = (short, new, why (λ e. absurd cc))
no_task refused ids pair scripts.NoFrom short new why other = (short, new, why (λ e. absurd cc))
no_task refused ids pair scripts.NoMemory short new why other = absurd (other refl)

is_told : (refused : List ℕ) (ids : List (List ℕ)) (pair : Pair) (f : ScriptFault) (r : Result (Unit {0}) Status) → IsShort pair.script → is_among pair.id ids ≡ false
    → (f ≢ scripts.NoMemory → Refuses (refusal_in f refused) pair.script f) → IsErrAnd r (λ s. s ≡ status_of_script f)
    → IfErr r (λ s. s ≢ statuses.NoMemory → IsNoTask (refusal_of s refused) ids pair s)
is_told refused ids pair f (Ok x) short new why is = absurd is
is_told refused ids pair f (Err s) short new why is =
    subst (λ (t : Status). t ≢ statuses.NoMemory → IsNoTask (refusal_of t refused) ids pair t) (sym is) (no_task refused ids pair f short new why)

pub returns-in_err-task-clause-err : goal.returns-in_err-task-clause-err
returns-in_err-task-clause-err g c =
    is_told (g.P.Patterns.refused c.compile.new.pats) (ids_of c.args.ready.now.names.items) (record { id = c.args.id.now; script = c.args.script.now }) c.in_err-task.field-0.0 c.from_residual.result
    (let at_most = c.if-script-gt-SCRIPT_LIMIT.false in let long = c.deref.ensures.len in omega (arith, at_most, long))
    (rw (c.as_bytes.ensures.value, c.deref.ensures.value) at (sym c.is_given.ensures ∙ c.if-is_given.false))
    (rw c.as_bytes-2.ensures.value at c.in_err-task.ensures.fault)
    c.from_residual.ensures.1
