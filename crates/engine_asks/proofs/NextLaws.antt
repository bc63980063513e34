-- What stands behind an ask.
use Rattle.std.proofs.Common.{◌≡◌, ℕ, ℤ, Bool, true, false, List, [], ◌∷◌, ◌++◌, Result, Ok, Err, refl, sym, subst}
use Rattle.std.specs.Prelude.{OnOk}
use Rattle.kap_io.specs.Disk.{Image}
use Rattle.node_core.specs.declared.node.Node.{Ghosts}
use Rattle.node_set.specs.Tasks.{Planned}
use Rattle.kap_http.specs.declared.ask.Ask.{Ask}
use Rattle.store_records.specs.declared.rec.Rec.{Rec}
use Rattle.tick_compile.specs.declared.tasks.Task.{Task}
use Rattle.topic_core.specs.declared.transition.Transition.{Transition}
use Rattle.kap_engine.specs.Engines.{EngineValue, IsEngine}
use Rattle.reply_bodies.specs.Asks.{is_done}
use Rattle.engine_asks.specs.Nexts.{HasRecord, IsNext, IsNextIf, NextOf, Stays}

module _ {N P S : Type 0} (g : Ghosts N P S) (planned : Planned P) (rs : List Rec) where
  -- a call that adds a record leaves it
  pub recorded : {E : Type 0} (result : Result (Unit {0}) E) (r : Rec) (seen : Image) (images : Image → Type 0) (e : EngineValue N)
      → OnOk result (IsEngine g planned (rs ++ r ∷ []) seen images e) → OnOk result (e.stored ≡ []) → OnOk result (HasRecord g planned rs r seen images e)
  recorded (Ok x) r seen images e engine none = record { engine = engine; none = none }
  recorded (Err fault) r seen images e engine none = tt

  -- where nothing has changed the engine stays
  pub stays_same : {D : Type 0} (seen : D → Image) (may_leave : D → Image → Type 0) (old new : D) (e f : EngineValue N) → IsEngine g planned rs (seen old) (may_leave old) e
      → (f ≡ e) × (new ≡ old) → Stays g planned rs e.stored (seen new) (may_leave new) f
  stays_same {D = D} seen may_leave old new e f at same =
      subst (λ (d : D). Stays g planned rs e.stored (seen d) (may_leave d) f) (sym same.1)
      (subst (λ (x : EngineValue N). Stays g planned rs e.stored (seen old) (may_leave old) x) (sym same.0) (record { engine = at; same = refl }))

  -- the next store, by whether what was asked is done
  pub next_if : (tasks : List Task) (stored : List Transition) (seen : Image) (images : Image → Type 0) (e : EngineValue N) (ask : Ask) (now : ℤ) (status : ℕ)
      → (is_done status ≡ true → NextOf g planned rs tasks stored seen images e ask now) → (is_done status ≡ false → Stays g planned rs stored seen images e)
      → IsNext g planned rs tasks stored seen images e ask now status
  next_if tasks stored seen images e ask now status done refused = by (is_done status) refl
    where
      by : (b : Bool) → is_done status ≡ b → IsNextIf g planned rs tasks stored seen images e b ask now
      by true is = done is
      by false is = refused is
