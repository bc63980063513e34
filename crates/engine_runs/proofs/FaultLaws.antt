-- Why lives don't run.
use Rattle.std.proofs.Common.{◌≡◌, ℕ, true, List, refl}
use Rattle.std.specs.Prelude.{◌≢◌}
use Rattle.kap_base.specs.Words.{HasRisen}
use Rattle.store_records.specs.declared.task.Life.{Life}
use Rattle.tick_compile.specs.Scripts.{Refuses}
use Rattle.tick_compile.specs.Tasks.{is_refusal, refusal_in}
use Rattle.tick_compile.specs.declared.script_fault.ScriptFault.{ScriptFault}
use Rattle.tick_compile.specs.declared.script_fault.ScriptFault.TheVariants as scripts
use Rattle.engine_runs.specs.declared.fault.RunFault.{RunFault}
use Rattle.engine_runs.specs.declared.fault.RunFault.TheVariants as runs
use Rattle.engine_runs.specs.Faults.{IsWhy, fault_at}

module _ (before after : ℕ) (refused : List ℕ) where
  -- a script's first fault is why its life doesn't run, unless memory lacked
  pub why_at : (life : Life) (f : ScriptFault) → (f ≢ scripts.NoMemory → Refuses (refusal_in f refused) life.script f) → (is_refusal f ≡ true → HasRisen before after) → IsWhy before after refused life (fault_at life.define_at f)
  why_at life (scripts.NotUtf8 at) why rose = (refl, record { fault = scripts.NotUtf8 at; why = why (λ e. absurd cc); rose = rose })
  why_at life (scripts.Lex fault) why rose = (refl, record { fault = scripts.Lex fault; why = why (λ e. absurd cc); rose = rose })
  why_at life (scripts.Parse fault) why rose = (refl, record { fault = scripts.Parse fault; why = why (λ e. absurd cc); rose = rose })
  why_at life (scripts.Name fault) why rose = (refl, record { fault = scripts.Name fault; why = why (λ e. absurd cc); rose = rose })
  why_at life (scripts.NoKind at) why rose = (refl, record { fault = scripts.NoKind at; why = why (λ e. absurd cc); rose = rose })
  why_at life (scripts.Property at) why rose = (refl, record { fault = scripts.Property at; why = why (λ e. absurd cc); rose = rose })
  why_at life (scripts.Argument at) why rose = (refl, record { fault = scripts.Argument at; why = why (λ e. absurd cc); rose = rose })
  why_at life (scripts.Handler at) why rose = (refl, record { fault = scripts.Handler at; why = why (λ e. absurd cc); rose = rose })
  why_at life (scripts.Template at fault) why rose = (refl, record { fault = scripts.Template at fault; why = why (λ e. absurd cc); rose = rose })
  why_at life (scripts.Lambda fault) why rose = (refl, record { fault = scripts.Lambda fault; why = why (λ e. absurd cc); rose = rose })
  why_at life (scripts.Graph fault) why rose = (refl, record { fault = scripts.Graph fault; why = why (λ e. absurd cc); rose = rose })
  why_at life scripts.NoFrom why rose = (refl, record { fault = scripts.NoFrom; why = why (λ e. absurd cc); rose = rose })
  why_at life scripts.NoMemory why rose = tt
