-- What points that are written leave.
use Rattle.std.proofs.Common.{◌≡◌, ℕ, ◌+◌, false, List, [], ◌∷◌, ◌++◌, length, sym, ap, subst, ◌∙◌}
use Rattle.kap_base.specs.Points.{PointValue}
use Rattle.kap_io.specs.Disk.{Image}
use Rattle.kap_io.specs.Moments.{Moments, then_run, weaker}
use Rattle.life_effects.proofs.FitLaws.{held_fits}
use Rattle.life_effects.specs.Effects.{LivesFit}
use Rattle.node_core.specs.declared.node.Node.{Ghosts}
use Rattle.node_set.specs.Tasks.{Planned}
use Rattle.store_records.specs.Histories.{held}
use Rattle.store_records.specs.declared.rec.Rec.{Rec}
use Rattle.store_records.specs.declared.rec.Rec.TheVariants as kinds
use Rattle.store_records.specs.declared.task.Life.{Life}
use Rattle.tick_compile.specs.declared.tasks.Task.{Task}
use Rattle.topic_core.specs.declared.transition.Transition.{Transition}
use Rattle.topic_store.specs.Adding.{stands_before_or_after}
use Rattle.topic_store.specs.Stores.{IsOn, StoreState}
use Rattle.engine_runs.specs.Running.{HasRun, RunValue, Tells}
use Rattle.engine_store.specs.Good.{IsFull, IsGood}
use Rattle.engine_store.specs.Opening.{HasRunAll}
use Rattle.kap_engine.specs.Engines.{EngineValue, IsEngine}
use Rattle.kap_engine.specs.Writing.{HasStored, HasWritten, stands_storing, stands_writing}
use Rattle.kap_engine.proofs.BatchLaws.{ComeBehind, HasBatch, batch_good, batch_held, points_then, ran_all, with_or_without, with_some}
use Rattle.kap_engine.proofs.ShotLaws.{snapped_same}

module _ {N P S : Type 0} (g : Ghosts N P S) (planned : Planned P) (rs rs' : List Rec) (new : List PointValue) (full : IsFull g planned rs) (b : HasBatch rs new rs') where
  -- the engine stands over records that hold the points more
  pub written : (r : RunValue N) (text : List ℕ) (due stored : List Transition) → stored ≡ due → (seen : Image) (images : Image → Type 0) (store : StoreState) → HasStored g planned rs' full.good.tasks due seen images store
      → HasRun g planned (held rs).lives full.good.tasks ((held rs).points ++ new) 1 r → length r.names ≡ length (held rs).lives
      → Tells g planned (held rs).lives full.good.tasks (held rs).points new [] text [] due
      → HasWritten g planned rs full.good.tasks new seen images (record { store = store; run = r; stored = stored; spent = false }) text
  written r text due stored same seen images store m h names t =
      let lives : (held m.records).lives ≡ (held rs).lives = m.holds.lives ∙ b.has.lives in
      let points : (held m.records).points ≡ (held rs).points ++ new = m.holds.points ∙ b.has.points in
      record {
        records = m.records;
        engine = record {
          on = m.on;
          full = m.full;
          runs =
              subst (λ (ts : List Task). HasRun g planned (held m.records).lives ts (held m.records).points 1 r) (sym m.same)
              (subst (λ (ls : List Life). HasRun g planned ls full.good.tasks (held m.records).points 1 r) (sym lives)
              (subst (λ (ps : List PointValue). HasRun g planned (held rs).lives full.good.tasks ps 1 r) (sym points) h));
          numbered = names ∙ ap (λ (ls : List Life). length ls) (sym lives);
        };
        points = points_then new due (held rs) (held rs') (held m.records) b.has m.holds;
        transitions = m.holds.transitions ∙ ap (λ (l : List Transition). l ++ due) b.transitions ∙ ap (λ (l : List Transition). (held rs).transitions ++ l) (sym same);
        snapped_is = snapped_same g planned rs rs' m.records full.good.tasks b.snap m.snapped_is;
        tells = record { effects = t.effects; more = t.more; text_is = t.text_is };
      }

-- ---- a batch is stored, and its points run

module _ {N P S : Type 0} (g : Ghosts N P S) (planned : Planned P) (new : List PointValue) where
  -- lives go on behind all points so far, however many come
  abbrev pub GoesOn : Type 0
  GoesOn =
      (lives : List Life) (tasks : List Task) (points : List PointValue) (n : ℕ) (r : RunValue N)
      → LivesFit (length points) lives → HasRun g planned lives tasks points 1 r → HasRun g planned lives tasks points n r

  -- they run on the new ones
  abbrev pub RunsOn : RunValue N → RunValue N → Type 0
  RunsOn run run' =
      (lives : List Life) (tasks : List Task) (before : List PointValue) (more : ℕ)
      → HasRun g planned lives tasks before (length new + more) run → HasRun g planned lives tasks (before ++ new) more run'

  -- and what they do is told
  abbrev pub IsTold : RunValue N → List ℕ → List Transition → Type 0
  IsTold run text told =
      (lives : List Life) (tasks : List Task) (before : List PointValue) (more : ℕ)
      → HasRun g planned lives tasks before (length new + more) run → Tells g planned lives tasks before new [] text [] told

  module _ (rs : List Rec) (db rp : List ℕ) (full : IsFull g planned rs) where
    -- the store has the batch more, and the lives have run on all its points
    pub record HasRunBatch (seen : Image) (images : Image → Type 0) (store : StoreState) (run : RunValue N) (text : List ℕ) (told : List Transition) : Type 0 where
      pub on : IsOn (rs ++ kinds.Batch db rp new ∷ []) seen images store
      pub all : HasRunAll g planned (rs ++ kinds.Batch db rp new ∷ []) full.good.tasks 1 run told
      pub ran : HasRun g planned (held rs).lives full.good.tasks ((held rs).points ++ new) 1 run
      pub told_is : Tells g planned (held rs).lives full.good.tasks (held rs).points new [] text [] told

    -- that is a right store
    abbrev pub good_batch : ComeBehind g.answer → IsGood g planned (rs ++ kinds.Batch db rp new ∷ [])
    good_batch behind = batch_good g planned rs (rs ++ kinds.Batch db rp new ∷ []) new full (batch_held rs db rp new) behind

  pub ran_batch : (rs : List Rec) (db rp : List ℕ) (seen seen' : Image) (images images' : Image → Type 0) (e e' : EngineValue N) → e ≡ e' → (at : IsEngine g planned rs seen images e')
      → (given : List PointValue) → given ≡ new → (store : StoreState) → (IsOn rs seen images e.store → IsOn (rs ++ kinds.Batch db rp given ∷ []) seen' images' store)
      → GoesOn → (run : RunValue N) → RunsOn e.run run → (text : List ℕ) (told : List Transition) → IsTold e.run text told
      → HasRunBatch rs db rp at.full seen' images' store run text told
  ran_batch rs db rp seen seen' images images' e e' is at given same store added goes_on run runs_on text told tells =
      let runs = subst (λ (v : EngineValue N). HasRun g planned (held rs).lives at.full.good.tasks (held rs).points 1 v.run) (sym is) at.runs in
      let ready = goes_on (held rs).lives at.full.good.tasks (held rs).points (length new + 1) e.run (held_fits rs) runs in
      let ran = runs_on (held rs).lives at.full.good.tasks (held rs).points 1 ready in
      let told_is = tells (held rs).lives at.full.good.tasks (held rs).points 1 ready in
      record {
        on =
            subst (λ (ps : List PointValue). IsOn (rs ++ kinds.Batch db rp ps ∷ []) seen' images' store) same
            (added (subst (λ (v : EngineValue N). IsOn rs seen images v.store) (sym is) at.on));
        all = ran_all g planned rs (rs ++ kinds.Batch db rp new ∷ []) new at.full (batch_held rs db rp new) run text told ran told_is;
        ran = ran;
        told_is = told_is;
      }

-- ---- at each moment

module _ {N P S : Type 0} (g : Ghosts N P S) (planned : Planned P) (rs : List Rec) (db rp : List ℕ) (new given : List PointValue) (same : given ≡ new) (full : IsFull g planned rs) (behind : ComeBehind g.answer)
    {D : Type 0} (moment : D → ℕ) (may_leave : D → Image → Type 0) (left_since : D → ℕ → Image → Type 0) where
  -- while the batch is added
  pub batch_moments : (old now : D) → Moments moment may_leave left_since old now (stands_before_or_after rs (kinds.Batch db rp given)) → Moments moment may_leave left_since old now (stands_writing g planned rs new)
  batch_moments old now run =
      let here = subst (λ (ps : List PointValue). Moments moment may_leave left_since old now (stands_before_or_after rs (kinds.Batch db rp ps))) same run in
      weaker moment may_leave left_since old now _ _ here
      (λ a b was how. with_or_without g planned rs (rs ++ kinds.Batch db rp new ∷ []) new full (batch_held rs db rp new) behind b how)

  -- and while its transitions are
  pub due_moments : (old mid now : D) → Moments moment may_leave left_since old mid (stands_before_or_after rs (kinds.Batch db rp given))
      → Moments moment may_leave left_since mid now (stands_storing g planned (rs ++ kinds.Batch db rp new ∷ []))
      → Moments moment may_leave left_since old now (stands_writing g planned rs new)
  due_moments old mid now one two =
      then_run moment may_leave left_since old mid now _ _ _ (batch_moments old mid one) two
      (λ a b was how. how)
      (λ a b c was how left s. with_some g planned rs (rs ++ kinds.Batch db rp new ∷ []) new full (batch_held rs db rp new) c s)
