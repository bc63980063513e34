-- Why scripts aren't those of tasks.
use Rattle.std.proofs.Common.{◌≡◌, inl, inr, ℕ, ◌+◌, ◌<◌, ◌≤◌, true, false, List, [], Option, None, refl, sym, subst, arith}
use Rattle.std.specs.Prelude.{Contains, nat_le, nat_lt}
use Rattle.std.proofs.lemmas.Bool.Decides.{nat_tests}
use Rattle.std.specs.List.{AllByRecursion as Each}
use Rattle.store_records.specs.declared.task.Life.{Life}
use Rattle.store_records.specs.declared.task.StoredTask.{StoredTask}
use Rattle.engine_runs.specs.Faults.{IsWhy}
use Rattle.engine_runs.specs.declared.fault.RunFault.{RunFault}
use Rattle.engine_runs.specs.declared.fault.RunFault.TheVariants as runs
use Rattle.engine_store.specs.Asking.{AreScripts, IsFirstRefused, IsNotAbove, IsScript, IsWhyAmong, IsWhyAt, IsWhyFirst}
use Rattle.engine_store.proofs.PassLaws.{each_both}

-- a life that was defined there with this script
abbrev pub life_at : ℕ → List ℕ → Life
life_at place text = record { task = []; script = text; first = 0; last = None; define_at = place }

-- those scripts are tasks that were defined before
pub record AreBefore (tasks : List StoredTask) (lives : List Life) (place : ℕ) : Type 0 where
  pub of_tasks : Each (λ task. task.define_at < place → IsScript task.script) tasks
  pub of_lives : Each (λ life. life.define_at < place → IsScript life.script) lives

split-at : {X : Type 0} (from place at : ℕ) → (at < from → X) → (from ≤ at → place ≤ at) → at < place → X
split-at {X = X} from place at old new lt = elim (nat_le from at) as (λ b. nat_le from at ≡ b → X) [
  | true ↦ λ e. let le : from ≤ at = grind (arith, nat_tests) in let high : place ≤ at = new le in absurd (omega (arith, high, lt))
  | false ↦ λ e. let low : at < from = grind (arith, nat_tests) in old low
] refl

last-at : {X : Type 0} (place next at : ℕ) → next ≡ place + 1 → (at < place → X) → (at ≡ place → X) → at < next → X
last-at {X = X} place next at is old same lt = elim (nat_lt at place) as (λ b. nat_lt at place ≡ b → X) [
  | true ↦ λ e. let low : at < place = grind (arith, nat_tests) in old low
  | false ↦ λ e. let high : place ≤ at = grind (arith, nat_tests) in same (omega (arith, high, lt, is))
] refl

-- the least place of those that weren't asked
pub before_least : (tasks : List StoredTask) (lives : List Life) (from place : ℕ) (inner : Option ℕ) → AreBefore tasks lives from → Each (λ task. from ≤ task.define_at → IsNotAbove inner task.define_at) tasks
    → ((o : ℕ) → IsNotAbove inner o → place ≤ o) → Each (λ life. from ≤ life.define_at → place ≤ life.define_at) lives → AreBefore tasks lives place
before_least tasks lives from place inner b of_tasks other of_lives = record {
  of_tasks =
      each_both (λ (t : StoredTask). t.define_at < from → IsScript t.script) (λ (t : StoredTask). from ≤ t.define_at → IsNotAbove inner t.define_at) (λ (t : StoredTask). t.define_at < place → IsScript t.script) tasks
      (λ t old new. split-at from place t.define_at old (λ le. other t.define_at (new le))) b.of_tasks of_tasks;
  of_lives =
      each_both (λ (l : Life). l.define_at < from → IsScript l.script) (λ (l : Life). from ≤ l.define_at → place ≤ l.define_at) (λ (l : Life). l.define_at < place → IsScript l.script) lives
      (λ l old new. split-at from place l.define_at old new) b.of_lives of_lives;
}

-- those that it brought were asked
pub before_next : (tasks : List StoredTask) (lives : List Life) (place next : ℕ) → next ≡ place + 1 → AreBefore tasks lives place → Each (λ task. task.define_at ≡ place → IsScript task.script) tasks
    → Each (λ life. life.define_at ≡ place → IsScript life.script) lives → AreBefore tasks lives next
before_next tasks lives place next is b of_tasks of_lives = record {
  of_tasks =
      each_both (λ (t : StoredTask). t.define_at < place → IsScript t.script) (λ (t : StoredTask). t.define_at ≡ place → IsScript t.script) (λ (t : StoredTask). t.define_at < next → IsScript t.script) tasks
      (λ t old same. last-at place next t.define_at is old same) b.of_tasks of_tasks;
  of_lives =
      each_both (λ (l : Life). l.define_at < place → IsScript l.script) (λ (l : Life). l.define_at ≡ place → IsScript l.script) (λ (l : Life). l.define_at < next → IsScript l.script) lives
      (λ l old same. last-at place next l.define_at is old same) b.of_lives of_lives;
}

-- none is left
pub all_before : (tasks : List StoredTask) (lives : List Life) (from : ℕ) (inner : Option ℕ) → AreBefore tasks lives from → Each (λ task. from ≤ task.define_at → IsNotAbove inner task.define_at) tasks
    → ((o : ℕ) → IsNotAbove inner o → ⊥) → Each (λ life. from ≤ life.define_at → ⊥) lives → AreScripts tasks lives
all_before tasks lives from inner b of_tasks other of_lives = record {
  of_tasks =
      each_both (λ (t : StoredTask). t.define_at < from → IsScript t.script) (λ (t : StoredTask). from ≤ t.define_at → IsNotAbove inner t.define_at) (λ (t : StoredTask). IsScript t.script) tasks
      (λ t old new. split-at from (t.define_at + 1) t.define_at old (λ le. absurd (other t.define_at (new le))) (omega arith)) b.of_tasks of_tasks;
  of_lives =
      each_both (λ (l : Life). l.define_at < from → IsScript l.script) (λ (l : Life). from ≤ l.define_at → ⊥) (λ (l : Life). IsScript l.script) lives
      (λ l old new. split-at from (l.define_at + 1) l.define_at old (λ le. absurd (new le)) (omega arith)) b.of_lives of_lives;
}

module _ (before after : ℕ) (refused : List ℕ) where
  -- why such a life doesn't run is why its script is none
  pub why_script : (place : ℕ) (text : List ℕ) (f : RunFault) → IsWhy before after refused (life_at place text) f → IsWhyAt before after refused place text f
  why_script place text (runs.Script at) why = why
  why_script place text runs.States why = why
  why_script place text runs.NoMemory why = why

  -- one of some is
  pub why_among : {T : Type 0} (place_of : T → ℕ) (text_of : T → List ℕ) (items : List T) (item : T) (place : ℕ) (f : RunFault) → Contains items item → place_of item ≡ place → IsWhyAt before after refused place (text_of item) f
      → IsWhyAmong before after refused place_of text_of items place f
  why_among place_of text_of items item place (runs.Script at) among is why = (why.0, record { item = item; among = among; at = is; why = why.1 })
  why_among place_of text_of items item place runs.States among is why = why
  why_among place_of text_of items item place runs.NoMemory among is why = why

  pub first_task : (tasks : List StoredTask) (lives : List Life) (place : ℕ) (f : RunFault) → AreBefore tasks lives place → IsWhyAmong before after refused (λ (t : StoredTask). t.define_at) (λ (t : StoredTask). t.script) tasks place f → IsWhyFirst before after refused tasks lives f
  first_task tasks lives place (runs.Script at) b why =
      subst (IsFirstRefused before after refused tasks lives) (sym why.0)
      (record { text = why.1.item.script; there = inl (why.1.item, why.1.among, why.1.at, refl); why = why.1.why; tasks_before = b.of_tasks; lives_before = b.of_lives })
  first_task tasks lives place runs.States b why = why
  first_task tasks lives place runs.NoMemory b why = why

  pub first_life : (tasks : List StoredTask) (lives : List Life) (place : ℕ) (f : RunFault) → AreBefore tasks lives place → IsWhyAmong before after refused (λ (l : Life). l.define_at) (λ (l : Life). l.script) lives place f → IsWhyFirst before after refused tasks lives f
  first_life tasks lives place (runs.Script at) b why =
      subst (IsFirstRefused before after refused tasks lives) (sym why.0)
      (record { text = why.1.item.script; there = inr (why.1.item, why.1.among, why.1.at, refl); why = why.1.why; tasks_before = b.of_tasks; lives_before = b.of_lives })
  first_life tasks lives place runs.States b why = why
  first_life tasks lives place runs.NoMemory b why = why
