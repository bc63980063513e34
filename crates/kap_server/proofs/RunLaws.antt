-- What stands after a replay, and its statuses.
use Rattle.std.proofs.Common.{◌≡◌, ℕ, ◌<◌, ◌≤◌, arith, length, Bool, false, Option, None, Some, List, [], map, inl, inr, refl, sym, ◌∙◌, subst}
use Rattle.std.specs.Prelude.{◌⊎◌, ◌≢◌, nat_lt}
use Rattle.std.proofs.lemmas.Bool.Decides.{nat_tests}
use Rattle.std.specs.Io.KnownBytes.{Keeps}
use Rattle.node_core.specs.Meaning.{Answer}
use Rattle.node_set.specs.Tasks.{Planned}
use Rattle.task_run.specs.Graphs.{Placed}
use Rattle.recording_file.specs.Recording.{reading_of}
use Rattle.lambda_types.specs.Faults.{is_pattern, refusal_of as type_refusal}
use Rattle.lambda_types.specs.declared.fault.TypeFault.{TypeFault}
use Rattle.lambda_types.specs.declared.fault.TypeFault.TheVariants as types
use Rattle.tick_compile.specs.Tasks.{is_refusal, refusal_in}
use Rattle.tick_compile.specs.declared.script_fault.ScriptFault.{ScriptFault}
use Rattle.tick_compile.specs.declared.script_fault.ScriptFault.TheVariants as faults
use Rattle.tick_compile.specs.declared.tasks.Task.{Task}
use Rattle.effect_text.specs.declared.names.TaskNames.{TaskNames}
use Rattle.task_run.specs.Plans.{PlanValue, graph_of}
use Rattle.kap_server.specs.declared.options.ReplayOptions.{ReplayOptions}
use Rattle.kap_server.specs.declared.status.Status.{Status}
use Rattle.kap_server.specs.declared.status.Status.TheVariants as statuses
use Rattle.kap_server.specs.Command.{IsUnlessFailed}
use Rattle.kap_server.specs.Pairs.{AreNoTasks, AreTasks, task_names}
use Rattle.kap_server.specs.Readying.{AddsTasks, is_pattern_refused}
use Rattle.kap_server.specs.Replaying.{Replayed, TextOf}
use Rattle.kap_server.specs.Runs.{Ran, RanOut, RefusesPairs, RunsTasks, lives_from, refusal_of, run_rest, run_text}
use Rattle.kap_server.specs.Statuses.{status_at}
use Rattle.kap_server.specs.Words.{Pair, Request, Replay}
use Rattle.kap_server.proofs.PairLaws.{reason_of_none, same_status, tasks_or_none}
use Rattle.kap_server.proofs.ReplayLaws.{status_is}

-- ---- from tasks that are ready

pub runs_tasks : {N P S : Type 0} (spec : N → P) (state : N → S) (first : P → S) (answer : P → Answer) (planned : Planned P) (counts : Bool) (pairs : List Pair) (result : Status) (s t w v : Option (List ℕ))
    (names : List TaskNames) (plans : List (PlanValue N)) → AddsTasks spec state first planned 1 pairs [] names [] plans
    → Replayed (run_text answer names (map (graph_of spec) plans)) (run_rest answer counts names (map (graph_of spec) plans)) result s t w v → RunsTasks answer planned counts pairs result s t w v
runs_tasks {P = P} spec state first answer planned counts pairs result s t w v names plans adds replayed =
    let R : List TaskNames → List (List (Placed P)) → Type 0 = λ n l. Replayed (run_text answer n l) (run_rest answer counts n l) result s t w v in
    record {
      tasks = adds.tasks;
      are = adds.are;
      replayed = subst (λ l. R (task_names pairs adds.tasks) l) adds.plans_are (subst (λ n. R n (map (graph_of spec) plans)) adds.names_are replayed);
    }

-- ---- from pairs that are no tasks

pub keeps_same : (s : Option (List ℕ)) → Keeps s s
keeps_same None = tt
keeps_same (Some xs) = refl

-- the status says why the first pair that is no task is none, unless memory ran out
abbrev pub SaysWhy : List ℕ → List Pair → Status → Type 0
SaysWhy refused pairs status = status ≢ statuses.NoMemory → AreNoTasks (refusal_of status refused) [] pairs status

refuses : (refused : List ℕ) (pairs : List Pair) (status : Status) (s w : Option (List ℕ)) → AreNoTasks (refusal_of status refused) [] pairs status → RefusesPairs refused pairs status s s w w
refuses refused pairs status s w why = record { why = why; read = keeps_same s; written = keeps_same w }

pub refused_or_out : (refused : List ℕ) (pairs : List Pair) (status : Status) (s w : Option (List ℕ)) → SaysWhy refused pairs status
    → RefusesPairs refused pairs status s s w w ⊎ RanOut status s s w w
refused_or_out refused pairs statuses.NoMemory s w h = inr (record { why = refl; read = keeps_same s; written = keeps_same w })
refused_or_out refused pairs statuses.Ok s w h = inl (refuses refused pairs statuses.Ok s w (h (λ e. absurd cc)))
refused_or_out refused pairs statuses.Usage s w h = inl (refuses refused pairs statuses.Usage s w (h (λ e. absurd cc)))
refused_or_out refused pairs (statuses.Script fault) s w h = inl (refuses refused pairs (statuses.Script fault) s w (h (λ e. absurd cc)))
refused_or_out refused pairs (statuses.Line n fault) s w h = inl (refuses refused pairs (statuses.Line n fault) s w (h (λ e. absurd cc)))
refused_or_out refused pairs (statuses.Truncated n) s w h = inl (refuses refused pairs (statuses.Truncated n) s w (h (λ e. absurd cc)))
refused_or_out refused pairs (statuses.NotStore part offset) s w h = inl (refuses refused pairs (statuses.NotStore part offset) s w (h (λ e. absurd cc)))
refused_or_out refused pairs statuses.Exists s w h = inl (refuses refused pairs statuses.Exists s w (h (λ e. absurd cc)))
refused_or_out refused pairs statuses.NoTask s w h = inl (refuses refused pairs statuses.NoTask s w (h (λ e. absurd cc)))
refused_or_out refused pairs statuses.TooManyTasks s w h = inl (refuses refused pairs statuses.TooManyTasks s w (h (λ e. absurd cc)))
refused_or_out refused pairs statuses.TooLong s w h = inl (refuses refused pairs statuses.TooLong s w (h (λ e. absurd cc)))
refused_or_out refused pairs statuses.ReadFault s w h = inl (refuses refused pairs statuses.ReadFault s w (h (λ e. absurd cc)))
refused_or_out refused pairs statuses.WriteFault s w h = inl (refuses refused pairs statuses.WriteFault s w (h (λ e. absurd cc)))
refused_or_out refused pairs statuses.DiskFault s w h = inl (refuses refused pairs statuses.DiskFault s w (h (λ e. absurd cc)))

module _ (refused : List ℕ) (pairs : List Pair) (status : Status) (h : SaysWhy refused pairs status) where
  pub not_ok : status ≡ statuses.Ok → ⊥
  not_ok e = (reason_of_none (refusal_of status refused) [] pairs status (h (λ m. let w = sym e ∙ m in absurd cc))).0 e

  pub not_read_fault : status ≡ statuses.ReadFault → ⊥
  not_read_fault e = (reason_of_none (refusal_of status refused) [] pairs status (h (λ m. let w = sym e ∙ m in absurd cc))).4 e

  pub not_write_fault : status ≡ statuses.WriteFault → ⊥
  not_write_fault e = (reason_of_none (refusal_of status refused) [] pairs status (h (λ m. let w = sym e ∙ m in absurd cc))).5 e

-- ---- no pattern was refused

plain_type : (fault : TypeFault) (text : List ℕ) → is_pattern fault ≡ false → type_refusal fault text ≡ None
plain_type (types.Mismatch at) text h = refl
plain_type (types.Arity at) text h = refl
plain_type (types.NoFunction at) text h = refl
plain_type (types.TimeUse at) text h = refl
plain_type (types.RegexUse at) text h = refl
plain_type (types.Pattern at) text h = absurd cc
plain_type (types.NewLine at) text h = refl
plain_type types.NoMemory text h = refl

plain_fault : (fault : ScriptFault) (text : List ℕ) → is_refusal fault ≡ false → refusal_in fault text ≡ None
plain_fault (faults.Lambda fault) text h = plain_type fault text h
plain_fault (faults.NotUtf8 at) text h = refl
plain_fault (faults.Lex fault) text h = refl
plain_fault (faults.Parse fault) text h = refl
plain_fault (faults.Name fault) text h = refl
plain_fault (faults.NoKind at) text h = refl
plain_fault (faults.Property at) text h = refl
plain_fault (faults.Argument at) text h = refl
plain_fault (faults.Handler at) text h = refl
plain_fault (faults.Template at fault) text h = refl
plain_fault (faults.Graph fault) text h = refl
plain_fault faults.NoFrom text h = refl
plain_fault faults.NoMemory text h = refl

plain : (status : Status) (text : List ℕ) → is_pattern_refused status ≡ false → refusal_of status text ≡ None
plain (statuses.Script fault) text h = plain_fault fault text h
plain statuses.Ok text h = refl
plain statuses.Usage text h = refl
plain (statuses.Line n fault) text h = refl
plain (statuses.Truncated n) text h = refl
plain (statuses.NotStore part offset) text h = refl
plain statuses.Exists text h = refl
plain statuses.NoTask text h = refl
plain statuses.TooManyTasks text h = refl
plain statuses.TooLong text h = refl
plain statuses.NoMemory text h = refl
plain statuses.ReadFault text h = refl
plain statuses.WriteFault text h = refl
plain statuses.DiskFault text h = refl

-- ---- statuses of replays

module _ {P : Type 0} (answer : P → Answer) (planned : Planned P) (refused : List ℕ) (counts : Bool) (pairs : List Pair) (result : Status) (s t w v : Option (List ℕ)) where
  abbrev R : Type 0
  R = Ran answer planned refused counts pairs result s t w v

  plain_why : RefusesPairs refused pairs result s t w v → is_pattern_refused result ≡ false → AreNoTasks None [] pairs result
  plain_why r h = subst (λ o. AreNoTasks o [] pairs result) (plain result refused h) r.why

  pub ran_status : R → (tasks : List Task) (bytes : List ℕ) → AreTasks [] pairs tasks → s ≡ Some bytes → is_pattern_refused result ≡ false
      → IsUnlessFailed result (status_at (reading_of bytes).stop)
  ran_status (inl r) tasks bytes are is h =
      status_is (run_text answer (task_names pairs r.tasks) (lives_from planned 1 pairs r.tasks)) (run_rest answer counts (task_names pairs r.tasks) (lives_from planned 1 pairs r.tasks)) result bytes s t w v r.replayed is
  ran_status (inr (inl r)) tasks bytes are is h = absurd (tasks_or_none [] pairs tasks result are (plain_why r h))
  ran_status (inr (inr r)) tasks bytes are is h = inr (inl r.why)

  pub ran_refused : R → (status : Status) → AreNoTasks None [] pairs status → is_pattern_refused result ≡ false → (result ≡ status) ⊎ (result ≡ statuses.NoMemory)
  ran_refused (inl r) status none h = absurd (tasks_or_none [] pairs r.tasks status r.are none)
  ran_refused (inr (inl r)) status none h = inl (same_status [] pairs result status (plain_why r h) none)
  ran_refused (inr (inr r)) status none h = inr r.why

  -- nothing is replayed at these
  no_replay : (text rest : TextOf) → (result ≡ statuses.Usage) ⊎ ((result ≡ statuses.TooManyTasks) ⊎ (result ≡ statuses.DiskFault)) → Replayed text rest result s t w v → ⊥
  no_replay text rest (inl e) h = subst (λ r. Replayed text rest r s t w v) e h
  no_replay text rest (inr (inl e)) h = subst (λ r. Replayed text rest r s t w v) e h
  no_replay text rest (inr (inr e)) h = subst (λ r. Replayed text rest r s t w v) e h

  pub ran_not_usage : R → result ≡ statuses.Usage → ⊥
  ran_not_usage (inl r) e = no_replay (run_text answer (task_names pairs r.tasks) (lives_from planned 1 pairs r.tasks)) (run_rest answer counts (task_names pairs r.tasks) (lives_from planned 1 pairs r.tasks)) (inl e) r.replayed
  ran_not_usage (inr (inl r)) e = (reason_of_none (refusal_of result refused) [] pairs result r.why).1 e
  ran_not_usage (inr (inr r)) e = let w = sym e ∙ r.why in absurd cc

  pub ran_not_many : R → result ≡ statuses.TooManyTasks → ⊥
  ran_not_many (inl r) e = no_replay (run_text answer (task_names pairs r.tasks) (lives_from planned 1 pairs r.tasks)) (run_rest answer counts (task_names pairs r.tasks) (lives_from planned 1 pairs r.tasks)) (inr (inl e)) r.replayed
  ran_not_many (inr (inl r)) e = (reason_of_none (refusal_of result refused) [] pairs result r.why).2 e
  ran_not_many (inr (inr r)) e = let w = sym e ∙ r.why in absurd cc

  pub ran_not_disk : R → result ≡ statuses.DiskFault → ⊥
  ran_not_disk (inl r) e = no_replay (run_text answer (task_names pairs r.tasks) (lives_from planned 1 pairs r.tasks)) (run_rest answer counts (task_names pairs r.tasks) (lives_from planned 1 pairs r.tasks)) (inr (inr e)) r.replayed
  ran_not_disk (inr (inl r)) e = (reason_of_none (refusal_of result refused) [] pairs result r.why).6 e
  ran_not_disk (inr (inr r)) e = let w = sym e ∙ r.why in absurd cc

-- ---- what the words ask for

-- they ask for the same
abbrev AreSame : ReplayOptions → ReplayOptions → List Pair → List Pair → Type 0
AreSame a b p q = ◌≡◌ {A = Option Request} (Some (Replay a p)) (Some (Replay b q))

same_options : (a b : ReplayOptions) (p q : List Pair) → AreSame a b p q → a ≡ b
same_options a b p q e = cc

pub same_pairs : (a b : ReplayOptions) (p q : List Pair) → AreSame a b p q → p ≡ q
same_pairs a b p q e = cc

pub not_none : (a : ReplayOptions) (p : List Pair) → ◌≡◌ {A = Option Request} (Some (Replay a p)) None → ⊥
not_none a p e = absurd cc

pub ran_as_asked : {P : Type 0} (answer : P → Answer) (planned : Planned P) (refused : List ℕ) (a b : ReplayOptions) (p q : List Pair) (result : Status) (s t w v : Option (List ℕ))
    → AreSame a b p q → Ran answer planned refused a.counts p result s t w v → Ran answer planned refused b.counts q result s t w v
ran_as_asked answer planned refused a b p q result s t w v e h =
    subst (λ (o : ReplayOptions). Ran answer planned refused o.counts q result s t w v) (same_options a b p q e) (subst (λ ps. Ran answer planned refused a.counts ps result s t w v) (same_pairs a b p q e) h)

pub few_or_many : (a b : ReplayOptions) (p q : List Pair) → AreSame a b p q → nat_lt 64 (length p) ≡ false → 64 < length q → ⊥
few_or_many a b p q e few many =
    let m : 64 < length p = subst (λ l. 64 < length l) (sym (same_pairs a b p q e)) many in
    let n : length p ≤ 64 = grind (arith, nat_tests) in
    omega (arith, m, n)
