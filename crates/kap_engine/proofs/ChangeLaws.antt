-- An engine stands behind a record that changes a task: where a life begins, where one ends, and where none does.
use Rattle.std.proofs.Common.{◌≡◌, ◌⊎◌, inl, inr, ⊎_elim, ℕ, ◌+◌, ◌<◌, ◌≤◌, Bool, true, false, not, ◌&&◌, cond, List, [], ◌∷◌, ◌++◌, length, Option, None, Some, refl, sym, ap, subst, ◌∙◌, length-append, arith}
use Rattle.std.specs.Prelude.{nat_le, nat_lt, slice_get}
use Rattle.std.specs.List.{AllByRecursion as Each, AllZip}
use Rattle.std.proofs.lemmas.Bool.Decides.{nat_tests}
use Rattle.kap_base.specs.Points.{PointValue}
use Rattle.kap_base.specs.Texts.{is_task_id}
use Rattle.kap_base.specs.declared.limits.TheConstants.{SCRIPT_LIMIT, TASK_LIMIT}
use Rattle.kap_io.specs.Disk.{Image}
use Rattle.kap_io.specs.Moments.{Moments, no_call, weaker}
use Rattle.effect_text.specs.declared.names.TaskNames.{TaskNames}
use Rattle.life_effects.proofs.FitLaws.{held_fits}
use Rattle.node_core.specs.declared.node.Node.{Ghosts}
use Rattle.node_set.specs.Tasks.{Planned}
use Rattle.store_kept.specs.Keeping.{AreValid, KeptValue}
use Rattle.store_records.specs.Held.{Held, MayFollow, begun, ended, has_task, life_from, life_of, may_define, task_of}
use Rattle.store_records.specs.Histories.{end_of, held}
use Rattle.store_records.specs.Orders.{IsValid}
use Rattle.store_records.specs.declared.rec.Rec.{Rec}
use Rattle.store_records.specs.declared.rec.Rec.TheVariants as kinds
use Rattle.store_records.specs.declared.task.Life.{Life}
use Rattle.store_records.specs.declared.task.StoredTask.{StoredTask}
use Rattle.task_run.specs.Plans.{PlanValue}
use Rattle.tick_compile.specs.declared.tasks.Task.{Task}
use Rattle.topic_core.specs.declared.transition.Transition.{Transition}
use Rattle.topic_store.specs.Adding.{stands_before_or_after}
use Rattle.topic_store.specs.Stores.{IsOn, StoreState}
use Rattle.topic_store.proofs.Adding.{image_stands}
use Rattle.engine_runs.specs.Running.{HasRun, RunValue}
use Rattle.engine_runs.specs.Scripts.{IsTaskOf}
use Rattle.engine_runs.proofs.ChangeLaws.{run_later}
use Rattle.engine_runs.proofs.PlaceLaws.{each_at}
use Rattle.engine_runs.proofs.RunLaws.{ran_less}
use Rattle.engine_store.specs.Good.{IsFull}
use Rattle.kap_engine.specs.Changing.{AreNext, BeginsAs, ChangesTask, DefinesScript, HasBegun, IsNext, ending, stands_full_before_or_after}
use Rattle.kap_engine.specs.Engines.{IsEngine}
use Rattle.kap_engine.proofs.FullLaws.{full_behind, later, lives_are, new_lives, new_scripts, new_tasks, old_lives, same_points}
use Rattle.kap_engine.proofs.TaskLaws.{LifeHasScript, ended_tasks, tasks_for}

-- ---- the record

both-true : (a b : Bool) → a ≡ true → b ≡ true → (a && b) ≡ true
both-true true b e f = f
both-true false b e f = e

-- a task may be defined
pub define_may : (id script : List ℕ) (tasks : List StoredTask) → is_task_id id ≡ true → has_task id tasks ≡ false → length tasks < TASK_LIMIT → length script ≤ SCRIPT_LIMIT → may_define id script tasks ≡ true
define_may id script tasks called free few short =
    let lt : nat_lt (length tasks) TASK_LIMIT ≡ true = grind (arith, nat_tests) in
    let le : nat_le (length script) SCRIPT_LIMIT ≡ true = grind (arith, nat_tests) in
    both-true (is_task_id id) _ called (both-true (not (has_task id tasks)) _ (ap not free) (both-true (nat_lt (length tasks) TASK_LIMIT) (nat_le (length script) SCRIPT_LIMIT) lt le))

module _ (id script i t : List ℕ) (enabled : Bool) (same_id : i ≡ id) (same_script : t ≡ script) where
  -- a record with copies is the same
  pub define_same : kinds.Define i t enabled ≡ kinds.Define id script enabled
  define_same = ap (λ (j : List ℕ). kinds.Define j t enabled) same_id ∙ ap (λ (s : List ℕ). kinds.Define id s enabled) same_script

  -- and may follow where the task may be defined
  pub define_follows : (h : Held) (tasks : List StoredTask) → tasks ≡ h.tasks → is_task_id id ≡ true → has_task id tasks ≡ false → length tasks < TASK_LIMIT → length script ≤ SCRIPT_LIMIT → MayFollow h (kinds.Define i t enabled)
  define_follows h tasks same called free few short =
      subst (MayFollow h) (sym define_same)
      (subst (λ (ts : List StoredTask). may_define id script ts ≡ true) same (define_may id script tasks called free few short))

-- the script of a task that is kept is short
pub stored_short : (kept : KeptValue) (tasks : List StoredTask) (place : ℕ) (task : StoredTask) → AreValid kept → tasks ≡ kept.tasks → slice_get tasks place ≡ Some task → length task.script ≤ SCRIPT_LIMIT
stored_short kept tasks place task valid same at =
    (each_at (λ (t : StoredTask). IsValid t.id t.script) tasks place task (subst (Each (λ (t : StoredTask). IsValid t.id t.script)) (sym same) valid.tasks) at).short

module _ (deletes : Bool) (id : List ℕ) (r : Rec) (is : r ≡ ending deletes id) where
  -- one that ends a task may follow where there is the task
  pub ending_may : (h : Held) → has_task id h.tasks ≡ true → MayFollow h r
  ending_may h there = subst (MayFollow h) (sym is) (may deletes)
    where
      may : (deletes : Bool) → MayFollow h (ending deletes id)
      may true = there
      may false = there

  -- and defines none
  pub ending_defines : DefinesScript r
  ending_defines = subst DefinesScript (sym is) (none deletes)
    where
      none : (deletes : Bool) → DefinesScript (ending deletes id)
      none true = tt
      none false = tt

-- ---- the life that begins

-- it begins behind n points, and has not ended
record IsNew (n : ℕ) (life : Life) : Type 0 where
  first : life.first ≡ n + 1
  last : life.last ≡ None

of-new : (n : ℕ) (found : Option StoredTask) → Each (IsNew n) (life_of n found)
of-new n None = tt
of-new n (Some task) = elim task.enabled as (λ b. Each (IsNew n) (cond b [] (life_from n task ∷ []))) [
  | true ↦ tt
  | false ↦ (record { first = refl; last = refl }, tt)
]

begun-new : (n at : ℕ) (r : Rec) (tasks : List StoredTask) → Each (IsNew n) (begun n at r tasks)
begun-new n at (kinds.Define id script enabled) tasks = elim enabled as (λ b. Each (IsNew n) (cond b (life_from n (record { id = id; script = script; enabled = b; define_at = at }) ∷ []) [])) [
  | true ↦ (record { first = refl; last = refl }, tt)
  | false ↦ tt
]
begun-new n at (kinds.Enable id) tasks = of-new n (task_of id tasks)
begun-new n at (kinds.Disable id) tasks = tt
begun-new n at (kinds.Delete id) tasks = tt
begun-new n at (kinds.Batch db rp points) tasks = tt
begun-new n at (kinds.Trans ts) tasks = tt
begun-new n at (kinds.Snap points trans states) tasks = tt

-- where one begins none ends
one-changes : (n at : ℕ) (r : Rec) (tasks : List StoredTask) (lives : List Life) → (ended n r tasks lives ≡ lives) ⊎ (begun n at r tasks ≡ [])
one-changes n at (kinds.Define id script enabled) tasks lives = inl refl
one-changes n at (kinds.Enable id) tasks lives = inl refl
one-changes n at (kinds.Disable id) tasks lives = inr refl
one-changes n at (kinds.Delete id) tasks lives = inr refl
one-changes n at (kinds.Batch db rp points) tasks lives = inl refl
one-changes n at (kinds.Trans ts) tasks lives = inl refl
one-changes n at (kinds.Snap points trans states) tasks lives = inl refl

zip-long : {A B : Type 0} (R : A → B → Type 0) (xs : List A) (ys : List B) → AllZip R xs ys → length xs ≡ length ys
zip-long R [] [] h = refl
zip-long R [] (y ∷ ys) h = absurd h
zip-long R (x ∷ xs) [] h = absurd h
zip-long R (x ∷ xs) (y ∷ ys) h = let rest = zip-long R xs ys h.1 in omega (arith, rest)

module _ {N P S : Type 0} (g : Ghosts N P S) (planned : Planned P) where
  -- just one life begins, the one that was planned
  record IsOne (n begun : ℕ) (lives : List Life) (tasks : List Task) (next : TaskNames × PlanValue N) : Type 0 where
    life : Life
    task : Task
    is : lives ≡ life ∷ []
    task_is : tasks ≡ task ∷ []
    accepted : IsTaskOf life task
    new : IsNew n life
    planned_is : IsNext g planned begun life next

  one-begins : (n begun : ℕ) (lives : List Life) (h : Each LifeHasScript lives) (next : TaskNames × PlanValue N) → Each (IsNew n) lives → AreNext g planned begun lives (Some next) → IsOne n begun lives (tasks_for lives h) next
  one-begins n begun [] h next new are = absurd are
  one-begins n begun (life ∷ []) h next new are = record { life = life; task = h.0.0; is = refl; task_is = refl; accepted = h.0.1; new = new.0; planned_is = are }
  one-begins n begun (life ∷ other ∷ lives) h next new are = absurd are

  -- none begins where a task ends
  pub next_ending : (n many at : ℕ) (deletes : Bool) (id : List ℕ) (r : Rec) (tasks : List StoredTask) → r ≡ ending deletes id → AreNext g planned many (begun n at r tasks) None
  next_ending n many at deletes id r tasks is = subst (λ (s : Rec). AreNext g planned many (begun n at s tasks) None) (sym is) (none deletes)
    where
      none : (deletes : Bool) → AreNext g planned many (begun n at (ending deletes id) tasks) None
      none true = tt
      none false = tt

  -- where the task that is enabled isn't so yet one begins, and else none does
  pub next_of : (n begun : ℕ) (found : Option StoredTask) (task : StoredTask) (next : TaskNames × PlanValue N) → found ≡ Some task → task.enabled ≡ false → IsNext g planned begun (life_from n task) next → AreNext g planned begun (life_of n found) (Some next)
  next_of n begun None task next is off one = absurd cc
  next_of n begun (Some found) task next is off one =
      let same : found ≡ task = cc in
      subst (λ (t : StoredTask). AreNext g planned begun (life_of n (Some t)) (Some next)) (sym same)
      (subst (λ (b : Bool). AreNext g planned begun (cond b [] (life_from n task ∷ [])) (Some next)) (sym off) one)

  none-begins : (begun : ℕ) (lives : List Life) → AreNext g planned begun lives None → lives ≡ []
  none-begins begun [] are = refl
  none-begins begun (life ∷ []) are = absurd are
  none-begins begun (life ∷ other ∷ lives) are = absurd are

  -- what is promised where those end that have
  abbrev pub EndsAs : List Life → RunValue N → RunValue N → Type 0
  EndsAs lives run run' =
      (tasks : List Task) (points : List PointValue) → length run.names ≡ length lives
      → HasRun g planned lives tasks points 0 run → HasRun g planned lives tasks points 1 run'

  module _ (rs : List Rec) (r : Rec) (changes : ChangesTask r) (defines : DefinesScript r) (full : IsFull g planned rs) where
    -- the lives have run behind the record, but those that it ends are there still
    abbrev pub HasTurned : RunValue N → Type 0
    HasTurned run = HasRun g planned (held (rs ++ r ∷ [])).lives (full.good.tasks ++ new_tasks g planned rs r changes defines full) (held rs).points 0 run

    old-long : length (old_lives g planned rs r changes defines full) ≡ length (held rs).lives
    old-long =
        zip-long IsTaskOf (old_lives g planned rs r changes defines full) full.good.tasks (ended_tasks (length (held rs).points) r (held rs).tasks (held rs).lives full.good.tasks full.good.are)
        ∙ sym (zip-long IsTaskOf (held rs).lives full.good.tasks full.good.are)

    all-long : length (held (rs ++ r ∷ [])).lives ≡ length (held rs).lives + length (new_lives g planned rs r changes defines full)
    all-long =
        ap length (lives_are g planned rs r changes defines full)
        ∙ length-append (old_lives g planned rs r changes defines full) (new_lives g planned rs r changes defines full)
        ∙ ap (λ (n : ℕ). n + length (new_lives g planned rs r changes defines full)) old-long

    module _ (run : RunValue N) (runs : HasRun g planned (held rs).lives full.good.tasks (held rs).points 1 run) (numbered : length run.names ≡ length (held rs).lives) where
      -- none begins
      pub none_run : HasTurned run
      none_run =
          run_later g planned (held rs).lives (held (rs ++ r ∷ [])).lives full.good.tasks (new_tasks g planned rs r changes defines full) full.good.are (held rs).points (later g planned rs r changes defines full) 1 run runs

      pub none_numbered : AreNext g planned (length run.names) (new_lives g planned rs r changes defines full) None → length run.names ≡ length (held (rs ++ r ∷ [])).lives
      none_numbered are =
          let none : length (new_lives g planned rs r changes defines full) ≡ 0 = ap length (none-begins (length run.names) (new_lives g planned rs r changes defines full) are) in
          omega (arith, numbered, all-long, none)

      -- one does
      module _ (next : TaskNames × PlanValue N) (are : AreNext g planned (length run.names) (new_lives g planned rs r changes defines full) (Some next)) where
        one : IsOne (length (held rs).points) (length run.names) (new_lives g planned rs r changes defines full) (new_tasks g planned rs r changes defines full) next
        one =
            one-begins (length (held rs).points) (length run.names) (new_lives g planned rs r changes defines full) (new_scripts g planned rs r changes defines full) next
            (begun-new (length (held rs).points) (end_of rs) r (held rs).tasks) are

        old-same : old_lives g planned rs r changes defines full ≡ (held rs).lives
        old-same = ⊎_elim (λ same. same) (λ none. absurd (not-none none one.is)) (one-changes (length (held rs).points) (end_of rs) r (held rs).tasks (held rs).lives)
          where
            not-none : {A : Type 0} {xs : List A} {x : A} → xs ≡ [] → xs ≡ x ∷ [] → ⊥
            not-none e f = absurd (cc (e, f))

        one-more : (held (rs ++ r ∷ [])).lives ≡ (held rs).lives ++ one.life ∷ []
        one-more =
            lives_are g planned rs r changes defines full
            ∙ ap (λ (ls : List Life). ls ++ new_lives g planned rs r changes defines full) old-same
            ∙ ap (λ (ls : List Life). (held rs).lives ++ ls) one.is

        pub one_run : (run' : RunValue N) → BeginsAs g planned run run' next → HasTurned run'
        one_run run' begins =
            let h = begins (held rs).lives full.good.tasks (held rs).points one.life one.task full.good.are one.accepted one.new.first one.new.last one.planned_is.planned_is one.planned_is.plan numbered (held_fits rs) runs in
            ran_less g planned (held (rs ++ r ∷ [])).lives (full.good.tasks ++ new_tasks g planned rs r changes defines full) (held rs).points 0 1 run' (omega arith)
            (subst (λ (ls : List Life). HasRun g planned ls (full.good.tasks ++ new_tasks g planned rs r changes defines full) (held rs).points 1 run') (sym one-more)
            (subst (λ (ts : List Task). HasRun g planned ((held rs).lives ++ one.life ∷ []) (full.good.tasks ++ ts) (held rs).points 1 run') (sym one.task_is) h))

        pub one_numbered : (names : ℕ) → names ≡ length run.names + 1 → names ≡ length (held (rs ++ r ∷ [])).lives
        one_numbered names is =
            let long : length (new_lives g planned rs r changes defines full) ≡ 1 = ap length one.is in
            omega (arith, numbered, all-long, long, is)

      -- either way
      pub begun_turned : (run' : RunValue N) (next : Option (TaskNames × PlanValue N)) → HasBegun g planned run run' next → AreNext g planned (length run.names) (new_lives g planned rs r changes defines full) next
          → HasTurned run' × (length run'.names ≡ length (held (rs ++ r ∷ [])).lives)
      begun_turned run' None same are = (subst HasTurned (sym same) none_run, ap (λ (v : RunValue N). length v.names) same ∙ none_numbered are)
      begun_turned run' (Some next) begins are = (one_run next are run' begins.0, one_numbered next are (length run'.names) begins.1)

    -- and where the others have ended, the engine stands
    pub engine_behind : (seen : Image) (images : Image → Type 0) (store : StoreState) (run : RunValue N) (stored : List Transition) (spent : Bool) → IsOn (rs ++ r ∷ []) seen images store
        → HasRun g planned (held (rs ++ r ∷ [])).lives (full.good.tasks ++ new_tasks g planned rs r changes defines full) (held rs).points 1 run
        → length run.names ≡ length (held (rs ++ r ∷ [])).lives
        → IsEngine g planned (rs ++ r ∷ []) seen images (record { store = store; run = run; stored = stored; spent = spent })
    engine_behind seen images store run stored spent on runs numbered = record {
      on = on;
      full = full_behind g planned rs r changes defines full;
      runs =
          subst (λ (ps : List PointValue). HasRun g planned (held (rs ++ r ∷ [])).lives (full.good.tasks ++ new_tasks g planned rs r changes defines full) ps 1 run)
          (sym (same_points rs r changes)) runs;
      numbered = numbered;
    }

    pub turned_behind : (seen : Image) (images : Image → Type 0) (store : StoreState) (lives : List Life) (run run' : RunValue N) (stored : List Transition) (spent : Bool) → IsOn (rs ++ r ∷ []) seen images store → lives ≡ store.kept.lives
        → EndsAs lives run run' → run'.names ≡ run.names → HasTurned run → length run.names ≡ length (held (rs ++ r ∷ [])).lives
        → IsEngine g planned (rs ++ r ∷ []) seen images (record { store = store; run = run'; stored = stored; spent = spent })
    turned_behind seen images store lives run run' stored spent on lives_is ends names turned numbered =
        let here : EndsAs (held (rs ++ r ∷ [])).lives run run' = subst (λ (ls : List Life). EndsAs ls run run') (lives_is ∙ on.kept.keeps.lives) ends in
        engine_behind seen images store run' stored spent on
        (here (full.good.tasks ++ new_tasks g planned rs r changes defines full) (held rs).points numbered turned)
        (ap (λ (ns : List TaskNames). length ns) names ∙ numbered)

    -- at each moment each image stands for the store without the record or with it
    pub full_moments : {D : Type 0} (moment : D → ℕ) (may_leave : D → Image → Type 0) (left_since : D → ℕ → Image → Type 0) (old new : D)
        → Moments moment may_leave left_since old new (stands_before_or_after rs r) → Moments moment may_leave left_since old new (stands_full_before_or_after g planned rs r)
    full_moments moment may_leave left_since old new m = weaker moment may_leave left_since old new _ _ m (λ a b was how. stands-full a b how)
      where
        stands-full : (a b : Image) → stands_before_or_after rs r a b → stands_full_before_or_after g planned rs r a b
        stands-full a b (inl s) = inl (record { stands = s; full = full })
        stands-full a b (inr s) = inr (record { stands = s; full = full_behind g planned rs r changes defines full })

  -- where nothing is added each stands for the store as it was
  pub still_moments : {D : Type 0} (seen : D → Image) (moment : D → ℕ) (may_leave : D → Image → Type 0) (left_since : D → ℕ → Image → Type 0) (d : D) (rs : List Rec) (r : Rec) (store : StoreState)
      → IsOn rs (seen d) (may_leave d) store → IsFull g planned rs → Moments moment may_leave left_since d d (stands_full_before_or_after g planned rs r)
  still_moments seen moment may_leave left_since d rs r store on full =
      no_call moment may_leave left_since d _ (λ c left. inl (record { stands = image_stands rs (seen d) (may_leave d) store on c left; full = full }))
