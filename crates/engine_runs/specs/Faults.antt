-- Why the lives of a store don't run.
use Rattle.std.specs.Prelude.{◌≡◌, ℕ, ⊤, true, Contains, List}
use Rattle.kap_base.specs.Words.{HasRisen}
use Rattle.store_records.specs.declared.task.Life.{Life}
use Rattle.tick_compile.specs.Scripts.{Refuses}
use Rattle.tick_compile.specs.Tasks.{is_refusal, refusal_in}
use Rattle.tick_compile.specs.declared.script_fault.ScriptFault.{ScriptFault}
use Rattle.tick_compile.specs.declared.script_fault.ScriptFault.TheVariants as scripts
use Rattle.engine_runs.specs.declared.fault.RunFault.{RunFault}
use Rattle.engine_runs.specs.declared.fault.RunFault.TheVariants.{NoMemory, Script, States}

-- the fault of a script that was defined at a place
abbrev pub fault_at : ℕ → ScriptFault → RunFault
fault_at at scripts.NoMemory = NoMemory
fault_at at other = Script at

-- A script has this first fault; where that is a refused pattern, the count of refusals rose from the one number to the
-- other, and this text was refused last.
pub record IsRefused (before after : ℕ) (refused script : List ℕ) : Type 0 where
  pub fault : ScriptFault
  pub why : Refuses (refusal_in fault refused) script fault
  pub rose : is_refusal fault ≡ true → HasRisen before after

module _ (before after : ℕ) (refused : List ℕ) where
  -- why the life doesn't run: the script of the record that defined its task is refused, or memory ran out
  abbrev pub IsWhy : Life → RunFault → Type 0
  IsWhy life (Script at) = (at ≡ life.define_at) × IsRefused before after refused life.script
  IsWhy life States = ⊥
  IsWhy life NoMemory = ⊤

  -- why one of these lives doesn't run
  pub record IsRefusedOne (lives : List Life) (at : ℕ) : Type 0 where
    pub life : Life
    pub among : Contains lives life
    pub place : at ≡ life.define_at
    pub why : IsRefused before after refused life.script

  abbrev pub IsWhyOne : List Life → RunFault → Type 0
  IsWhyOne lives (Script at) = IsRefusedOne lives at
  IsWhyOne lives States = ⊥
  IsWhyOne lives NoMemory = ⊤
