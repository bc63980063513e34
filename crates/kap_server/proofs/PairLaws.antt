-- Pairs are tasks, or the first that is none is none for one reason.
use Rattle.std.proofs.Common.{◌≡◌, ℕ, ◌<◌, ◌≤◌, ◌++◌, Bool, true, false, Option, None, List, [], ◌∷◌, length, inl, inr, refl, sym, ap, ◌∙◌, arith}
use Rattle.std.specs.Prelude.{◌⊎◌, ◌≢◌, nat_le}
use Rattle.std.proofs.lemmas.Bool.{false≢true}
use Rattle.std.proofs.lemmas.Bool.Decides.{nat_tests}
use Rattle.lambda_types.specs.Faults.{Refusal}
use Rattle.kap_base.specs.declared.limits.TheConstants.{SCRIPT_LIMIT}
use Rattle.tick_compile.specs.Scripts.{Accepts, Refuses}
use Rattle.tick_compile.specs.declared.script_fault.ScriptFault.{ScriptFault}
use Rattle.tick_compile.specs.declared.tasks.Task.{Task}
use Rattle.tick_compile.proofs.ScriptLaws.{apart, one_fault, one_task, some_answer}
use Rattle.kap_server.specs.declared.status.Status.{Status}
use Rattle.kap_server.specs.declared.status.Status.TheVariants as statuses
use Rattle.kap_server.specs.Pairs.{AreNoTasks, AreTasks, IsNoTask, IsTask, is_among}
use Rattle.kap_server.specs.ReadingIn.{IsShort}
use Rattle.kap_server.specs.Words.{Pair}

-- ---- one pair

not_both : (script : List ℕ) → IsShort script → SCRIPT_LIMIT < length script → ⊥
not_both script short long = omega (arith, short, long)

new_or_old : (b : Bool) → b ≡ false → b ≡ true → ⊥
new_or_old b p q = false≢true (sym p ∙ q)

task_or_none : (ids : List (List ℕ)) (pair : Pair) (task : Task) (status : Status) → IsTask ids pair task → IsNoTask None ids pair status → ⊥
task_or_none ids pair task (statuses.Script fault) p q = apart None pair.script task fault p.accepted q.2
task_or_none ids pair task statuses.Exists p q = new_or_old (is_among pair.id ids) p.new q.1
task_or_none ids pair task statuses.TooLong p q = not_both pair.script p.short q
task_or_none ids pair task statuses.Ok p q = q
task_or_none ids pair task statuses.Usage p q = q
task_or_none ids pair task (statuses.Line n fault) p q = q
task_or_none ids pair task (statuses.Truncated n) p q = q
task_or_none ids pair task (statuses.NotStore part offset) p q = q
task_or_none ids pair task statuses.NoTask p q = q
task_or_none ids pair task statuses.TooManyTasks p q = q
task_or_none ids pair task statuses.NoMemory p q = q
task_or_none ids pair task statuses.ReadFault p q = q
task_or_none ids pair task statuses.WriteFault p q = q
task_or_none ids pair task statuses.DiskFault p q = q

one_reason : (refused : Option Refusal) (ids : List (List ℕ)) (pair : Pair) (a b : Status) → IsNoTask refused ids pair a → IsNoTask refused ids pair b → a ≡ b
one_reason refused ids pair statuses.TooLong statuses.TooLong p q = refl
one_reason refused ids pair statuses.TooLong statuses.Exists p q = absurd (not_both pair.script q.0 p)
one_reason refused ids pair statuses.TooLong (statuses.Script fault) p q = absurd (not_both pair.script q.0 p)
one_reason refused ids pair statuses.Exists statuses.TooLong p q = absurd (not_both pair.script p.0 q)
one_reason refused ids pair statuses.Exists statuses.Exists p q = refl
one_reason refused ids pair statuses.Exists (statuses.Script fault) p q = absurd (new_or_old (is_among pair.id ids) q.1 p.1)
one_reason refused ids pair (statuses.Script fault) statuses.TooLong p q = absurd (not_both pair.script p.0 q)
one_reason refused ids pair (statuses.Script fault) statuses.Exists p q = absurd (new_or_old (is_among pair.id ids) p.1 q.1)
one_reason refused ids pair (statuses.Script fault) (statuses.Script other) p q = ap statuses.Script (one_fault refused pair.script fault other p.2 q.2)
one_reason refused ids pair a statuses.Ok p q = absurd q
one_reason refused ids pair a statuses.Usage p q = absurd q
one_reason refused ids pair a (statuses.Line n fault) p q = absurd q
one_reason refused ids pair a (statuses.Truncated n) p q = absurd q
one_reason refused ids pair a (statuses.NotStore part offset) p q = absurd q
one_reason refused ids pair a statuses.NoTask p q = absurd q
one_reason refused ids pair a statuses.TooManyTasks p q = absurd q
one_reason refused ids pair a statuses.NoMemory p q = absurd q
one_reason refused ids pair a statuses.ReadFault p q = absurd q
one_reason refused ids pair a statuses.WriteFault p q = absurd q
one_reason refused ids pair a statuses.DiskFault p q = absurd q
one_reason refused ids pair statuses.Ok b p q = absurd p
one_reason refused ids pair statuses.Usage b p q = absurd p
one_reason refused ids pair (statuses.Line n fault) b p q = absurd p
one_reason refused ids pair (statuses.Truncated n) b p q = absurd p
one_reason refused ids pair (statuses.NotStore part offset) b p q = absurd p
one_reason refused ids pair statuses.NoTask b p q = absurd p
one_reason refused ids pair statuses.TooManyTasks b p q = absurd p
one_reason refused ids pair statuses.NoMemory b p q = absurd p
one_reason refused ids pair statuses.ReadFault b p q = absurd p
one_reason refused ids pair statuses.WriteFault b p q = absurd p
one_reason refused ids pair statuses.DiskFault b p q = absurd p

abbrev OneMeaning : List (List ℕ) → Pair → Type 0
OneMeaning ids pair = ((task : Task) × IsTask ids pair task) ⊎ ((status : Status) × IsNoTask None ids pair status)

by_script : (ids : List (List ℕ)) (pair : Pair) → IsShort pair.script → is_among pair.id ids ≡ false
    → ((task : Task) × Accepts None pair.script task) ⊎ ((fault : ScriptFault) × Refuses None pair.script fault) → OneMeaning ids pair
by_script ids pair short new (inl a) = inl (a.0, record { short = short; new = new; accepted = a.1 })
by_script ids pair short new (inr f) = inr (statuses.Script f.0, (short, new, f.1))

by_id : (ids : List (List ℕ)) (pair : Pair) → IsShort pair.script → (b : Bool) → is_among pair.id ids ≡ b → OneMeaning ids pair
by_id ids pair short true is = inr (statuses.Exists, (short, is))
by_id ids pair short false is = by_script ids pair short is (some_answer None pair.script short)

by_length : (ids : List (List ℕ)) (pair : Pair) (b : Bool) → nat_le (length pair.script) SCRIPT_LIMIT ≡ b → OneMeaning ids pair
by_length ids pair true is = let short : length pair.script ≤ SCRIPT_LIMIT = grind (arith, nat_tests) in by_id ids pair short (is_among pair.id ids) refl
by_length ids pair false is = let long : SCRIPT_LIMIT < length pair.script = grind (arith, nat_tests) in inr (statuses.TooLong, long)

one_meaning : (ids : List (List ℕ)) (pair : Pair) → OneMeaning ids pair
one_meaning ids pair = by_length ids pair (nat_le (length pair.script) SCRIPT_LIMIT) refl

-- ---- all pairs

abbrev Meaning : List (List ℕ) → List Pair → Type 0
Meaning ids pairs = ((tasks : List Task) × AreTasks ids pairs tasks) ⊎ ((status : Status) × AreNoTasks None ids pairs status)

of_rest : (ids : List (List ℕ)) (pair : Pair) (pairs : List Pair) (task : Task) → IsTask ids pair task → Meaning (ids ++ pair.id ∷ []) pairs → Meaning ids (pair ∷ pairs)
of_rest ids pair pairs task is (inl ts) = inl (task ∷ ts.0, (is, ts.1))
of_rest ids pair pairs task is (inr n) = inr (n.0, inr (task, is, n.1))

of_first : (ids : List (List ℕ)) (pair : Pair) (pairs : List Pair) → OneMeaning ids pair → Meaning (ids ++ pair.id ∷ []) pairs → Meaning ids (pair ∷ pairs)
of_first ids pair pairs (inl t) rest = of_rest ids pair pairs t.0 t.1 rest
of_first ids pair pairs (inr n) rest = inr (n.0, inl n.1)

pub some_meaning : (ids : List (List ℕ)) (pairs : List Pair) → Meaning ids pairs
some_meaning ids [] = inl ([], tt)
some_meaning ids (pair ∷ pairs) = of_first ids pair pairs (one_meaning ids pair) (some_meaning (ids ++ pair.id ∷ []) pairs)

pub same_tasks : (ids : List (List ℕ)) (pairs : List Pair) (a b : List Task) → AreTasks ids pairs a → AreTasks ids pairs b → a ≡ b
same_tasks ids [] [] [] p q = refl
same_tasks ids [] [] (y ∷ b) p q = absurd q
same_tasks ids [] (x ∷ a) b p q = absurd p
same_tasks ids (pair ∷ pairs) [] b p q = absurd p
same_tasks ids (pair ∷ pairs) (x ∷ a) [] p q = absurd q
same_tasks ids (pair ∷ pairs) (x ∷ a) (y ∷ b) p q =
    ap (λ (t : Task). t ∷ a) (one_task None pair.script x y p.0.accepted q.0.accepted) ∙ ap (λ (l : List Task). y ∷ l) (same_tasks (ids ++ pair.id ∷ []) pairs a b p.1 q.1)

pub tasks_or_none : (ids : List (List ℕ)) (pairs : List Pair) (tasks : List Task) (status : Status) → AreTasks ids pairs tasks → AreNoTasks None ids pairs status → ⊥
tasks_or_none ids [] tasks status p q = q
tasks_or_none ids (pair ∷ pairs) [] status p q = p
tasks_or_none ids (pair ∷ pairs) (x ∷ tasks) status p (inl n) = task_or_none ids pair x status p.0 n
tasks_or_none ids (pair ∷ pairs) (x ∷ tasks) status p (inr n) = tasks_or_none (ids ++ pair.id ∷ []) pairs tasks status p.1 n.2

pub same_status : (ids : List (List ℕ)) (pairs : List Pair) (a b : Status) → AreNoTasks None ids pairs a → AreNoTasks None ids pairs b → a ≡ b
same_status ids [] a b p q = absurd p
same_status ids (pair ∷ pairs) a b (inl p) (inl q) = one_reason None ids pair a b p q
same_status ids (pair ∷ pairs) a b (inl p) (inr q) = absurd (task_or_none ids pair q.0 a q.1 p)
same_status ids (pair ∷ pairs) a b (inr p) (inl q) = absurd (task_or_none ids pair p.0 b p.1 q)
same_status ids (pair ∷ pairs) a b (inr p) (inr q) = same_status (ids ++ pair.id ∷ []) pairs a b p.2 q.2

-- ---- which statuses are reasons

-- no device failed, and the words were those of a command
pub reason_of_none : (refused : Option Refusal) (ids : List (List ℕ)) (pairs : List Pair) (status : Status) → AreNoTasks refused ids pairs status
    → (status ≢ statuses.Ok) × (status ≢ statuses.Usage) × (status ≢ statuses.TooManyTasks) × (status ≢ statuses.NoMemory) × (status ≢ statuses.ReadFault) × (status ≢ statuses.WriteFault) × (status ≢ statuses.DiskFault)
reason_of_none refused ids [] status p = absurd p
reason_of_none refused ids (pair ∷ pairs) status (inl p) = by status p where
  by : (status : Status) → IsNoTask refused ids pair status
      → (status ≢ statuses.Ok) × (status ≢ statuses.Usage) × (status ≢ statuses.TooManyTasks) × (status ≢ statuses.NoMemory) × (status ≢ statuses.ReadFault) × (status ≢ statuses.WriteFault) × (status ≢ statuses.DiskFault)
  by (statuses.Script fault) p = (λ e. absurd cc, λ e. absurd cc, λ e. absurd cc, λ e. absurd cc, λ e. absurd cc, λ e. absurd cc, λ e. absurd cc)
  by statuses.Exists p = (λ e. absurd cc, λ e. absurd cc, λ e. absurd cc, λ e. absurd cc, λ e. absurd cc, λ e. absurd cc, λ e. absurd cc)
  by statuses.TooLong p = (λ e. absurd cc, λ e. absurd cc, λ e. absurd cc, λ e. absurd cc, λ e. absurd cc, λ e. absurd cc, λ e. absurd cc)
  by statuses.Ok p = absurd p
  by statuses.Usage p = absurd p
  by (statuses.Line n fault) p = absurd p
  by (statuses.Truncated n) p = absurd p
  by (statuses.NotStore part offset) p = absurd p
  by statuses.NoTask p = absurd p
  by statuses.TooManyTasks p = absurd p
  by statuses.NoMemory p = absurd p
  by statuses.ReadFault p = absurd p
  by statuses.WriteFault p = absurd p
  by statuses.DiskFault p = absurd p
reason_of_none refused ids (pair ∷ pairs) status (inr p) = reason_of_none refused (ids ++ pair.id ∷ []) pairs status p.2
