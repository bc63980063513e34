-- A text is checked to one status.
use Rattle.std.proofs.Common.{◌≡◌, ℕ, ◌<◌, ◌≤◌, Bool, true, false, Option, None, Some, List, length, inl, inr, refl, ap, subst, arith}
use Rattle.std.specs.Prelude.{◌⊎◌, nat_le}
use Rattle.std.proofs.lemmas.Bool.Decides.{nat_tests}
use Rattle.lambda_types.specs.Faults.{Refusal}
use Rattle.kap_base.specs.declared.limits.TheConstants.{SCRIPT_LIMIT}
use Rattle.tick_compile.specs.Scripts.{Accepts, Refuses}
use Rattle.tick_compile.specs.declared.script_fault.ScriptFault.{ScriptFault}
use Rattle.tick_compile.specs.declared.tasks.Task.{Task}
use Rattle.tick_compile.proofs.ScriptLaws.{apart, one_fault, some_answer}
use Rattle.kap_server.specs.declared.status.Status.{Status}
use Rattle.kap_server.specs.declared.status.Status.TheVariants as statuses
use Rattle.kap_server.specs.ReadingIn.{IsShort}
use Rattle.kap_server.specs.Checking.{Checked, ChecksTo}
use Rattle.kap_server.specs.Command.{IsUnlessFailed}
use Rattle.kap_server.specs.Runs.{refusal_of}

pub not_both : (text : List ℕ) → IsShort text → SCRIPT_LIMIT < length text → ⊥
not_both text short long = omega (arith, short, long)

pub one_status : (refused : Option Refusal) (text : List ℕ) (a b : Status) → ChecksTo refused text a → ChecksTo refused text b → a ≡ b
one_status refused text statuses.Ok statuses.Ok p q = refl
one_status refused text statuses.Ok (statuses.Script fault) p q = absurd (apart refused text p.1.0 fault p.1.1 q.1)
one_status refused text statuses.Ok statuses.TooLong p q = absurd (not_both text p.0 q)
one_status refused text (statuses.Script fault) statuses.Ok p q = absurd (apart refused text q.1.0 fault q.1.1 p.1)
one_status refused text (statuses.Script fault) (statuses.Script other) p q = ap statuses.Script (one_fault refused text fault other p.1 q.1)
one_status refused text (statuses.Script fault) statuses.TooLong p q = absurd (not_both text p.0 q)
one_status refused text statuses.TooLong statuses.Ok p q = absurd (not_both text q.0 p)
one_status refused text statuses.TooLong (statuses.Script fault) p q = absurd (not_both text q.0 p)
one_status refused text statuses.TooLong statuses.TooLong p q = refl
one_status refused text a statuses.Usage p q = absurd q
one_status refused text a (statuses.Line n fault) p q = absurd q
one_status refused text a (statuses.Truncated n) p q = absurd q
one_status refused text a (statuses.NotStore part offset) p q = absurd q
one_status refused text a statuses.Exists p q = absurd q
one_status refused text a statuses.NoTask p q = absurd q
one_status refused text a statuses.TooManyTasks p q = absurd q
one_status refused text a statuses.NoMemory p q = absurd q
one_status refused text a statuses.ReadFault p q = absurd q
one_status refused text a statuses.WriteFault p q = absurd q
one_status refused text a statuses.DiskFault p q = absurd q
one_status refused text statuses.Usage b p q = absurd p
one_status refused text (statuses.Line n fault) b p q = absurd p
one_status refused text (statuses.Truncated n) b p q = absurd p
one_status refused text (statuses.NotStore part offset) b p q = absurd p
one_status refused text statuses.Exists b p q = absurd p
one_status refused text statuses.NoTask b p q = absurd p
one_status refused text statuses.TooManyTasks b p q = absurd p
one_status refused text statuses.NoMemory b p q = absurd p
one_status refused text statuses.ReadFault b p q = absurd p
one_status refused text statuses.WriteFault b p q = absurd p
one_status refused text statuses.DiskFault b p q = absurd p

-- ---- each text has a status

abbrev Outcome : Option Refusal → List ℕ → Type 0
Outcome refused text = (status : Status) × ChecksTo refused text status

of_short : (refused : Option Refusal) (text : List ℕ) → IsShort text → ((task : Task) × Accepts refused text task) ⊎ ((fault : ScriptFault) × Refuses refused text fault) → Outcome refused text
of_short refused text short (inl accepted) = (statuses.Ok, (short, accepted))
of_short refused text short (inr fault) = (statuses.Script fault.0, (short, fault.1))

of_length : (refused : Option Refusal) (text : List ℕ) (b : Bool) → nat_le (length text) SCRIPT_LIMIT ≡ b → Outcome refused text
of_length refused text true is = let short : length text ≤ SCRIPT_LIMIT = grind (arith, nat_tests) in of_short refused text short (some_answer refused text short)
of_length refused text false is = let long : SCRIPT_LIMIT < length text = grind (arith, nat_tests) in (statuses.TooLong, long)

pub some_status : (refused : Option Refusal) (text : List ℕ) → Outcome refused text
some_status refused text = of_length refused text (nat_le (length text) SCRIPT_LIMIT) refl

-- ---- a check answers it

answered : (refused text : List ℕ) (result status : Status) (t w v : Option (List ℕ)) → Checked refused result (Some text) t w v → ChecksTo (refusal_of result refused) text status → IsUnlessFailed result status
answered refused text statuses.Ok status t w v h to = inl (one_status None text statuses.Ok status (h.1.short, (h.1.task, h.1.accepted)) to)
answered refused text statuses.Usage status t w v h to = absurd h
answered refused text (statuses.Script fault) status t w v h to = inl (one_status (refusal_of (statuses.Script fault) refused) text (statuses.Script fault) status h.0 to)
answered refused text (statuses.Line n fault) status t w v h to = absurd h
answered refused text (statuses.Truncated n) status t w v h to = absurd h
answered refused text (statuses.NotStore part offset) status t w v h to = absurd h
answered refused text statuses.Exists status t w v h to = absurd h
answered refused text statuses.NoTask status t w v h to = absurd h
answered refused text statuses.TooManyTasks status t w v h to = absurd h
answered refused text statuses.TooLong status t w v h to = inl (one_status None text statuses.TooLong status h.0 to)
answered refused text statuses.NoMemory status t w v h to = inr (inl refl)
answered refused text statuses.ReadFault status t w v h to = inr (inr (inl refl))
answered refused text statuses.WriteFault status t w v h to = inr (inr (inr refl))
answered refused text statuses.DiskFault status t w v h to = absurd h

pub check_answers : (refused text : List ℕ) (result status : Status) (s t w v : Option (List ℕ)) → Checked refused result s t w v → s ≡ Some text
    → ChecksTo (refusal_of result refused) text status → IsUnlessFailed result status
check_answers refused text result status s t w v h is to = answered refused text result status t w v (subst (λ o. Checked refused result o t w v) is h) to
