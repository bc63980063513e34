-- An engine stands over the records that stay where its store is compacted.
use Rattle.std.proofs.Common.{◌≡◌, ◌⊎◌, inl, inr, ⊎_elim, ℕ, Bool, true, false, List, [], ◌∷◌, ◌++◌, length, map, refl, sym, ap, subst, ◌∙◌, append_assoc, true≢false}
use Rattle.std.specs.Prelude.{Err, ◌||◌}
use Rattle.std.specs.List.{list_any}
use Rattle.kap_base.specs.Points.{PointValue}
use Rattle.kap_base.specs.Events.{EventValue}
use Rattle.kap_io.specs.Disk.{Image}
use Rattle.kap_io.specs.Moments.{Moments, weaker}
use Rattle.barrier_snapshot.specs.Snapshots.{IsSnapshot}
use Rattle.effect_text.specs.Lines.{events_of}
use Rattle.life_effects.specs.Effects.{courses_of, open_courses}
use Rattle.node_core.specs.declared.node.Node.{Ghosts}
use Rattle.node_set.specs.Tasks.{Planned}
use Rattle.store_compact.specs.Same.{HoldSame, unplaced, unplaced_life}
use Rattle.store_compact.specs.Staying.{if_stays, is_snap_at, staying, staying_from, staying_of, stays}
use Rattle.store_compact.proofs.Later.{own_number}
use Rattle.store_compact.proofs.Total.{same_held, stand_at}
use Rattle.store_records.specs.Held.{Held, after}
use Rattle.store_records.specs.Histories.{Follow, end_from, end_of, first_gate, held, held_from, next_gate}
use Rattle.store_records.specs.declared.rec.Rec.{Rec}
use Rattle.store_records.specs.declared.rec.Rec.TheVariants as kinds
use Rattle.store_records.specs.declared.task.Life.{Life}
use Rattle.task_run.specs.Courses.{Course, course_effects}
use Rattle.task_run.specs.Graphs.{Placed}
use Rattle.tick_compile.specs.declared.tasks.Task.{Task}
use Rattle.topic_core.specs.Topics.{Trans}
use Rattle.topic_core.specs.declared.transition.Transition.{Transition}
use Rattle.topic_store.specs.Rewriting.{RewritesOrNot, stands_old_or_new}
use Rattle.topic_store.specs.Snapshots.{LastSnap, is_snap}
use Rattle.topic_store.specs.Stores.{IsOn, StoreState}
use Rattle.topic_store.specs.declared.fault.StoreFault.{StoreFault}
use Rattle.topic_store.specs.declared.fault.StoreFault.TheVariants as stores
use Rattle.engine_runs.specs.Running.{HasRun, life_events}
use Rattle.engine_runs.specs.Scripts.{graphs_from}
use Rattle.engine_runs.specs.Whole.{IsSnapOf}
use Rattle.engine_store.specs.Asking.{IsScript}
use Rattle.engine_store.specs.Faults.{store_fault}
use Rattle.engine_store.specs.Good.{IsFull, IsGood}
use Rattle.engine_store.specs.declared.fault.EngineFault.{EngineFault}
use Rattle.engine_store.proofs.SnapLaws.{IsThisSnap, last_added, last_before, last_kept, snap_kept}
use Rattle.kap_engine.specs.Changing.{IsFailure}
use Rattle.kap_engine.specs.Compacting.{stands_full_old_or_new}
use Rattle.kap_engine.specs.Engines.{EngineValue, IsEngine}
use Rattle.kap_engine.proofs.UnplacedLaws.{courses_same, each_same, events_same, graphs_same, long_same, open_same, run_same, tasks_same}

-- ---- the last snapshot of those that stay

split-staying : (all h : Held) (at : ℕ) (xs ys : List Rec) → staying_from all h at (xs ++ ys) ≡ staying_from all h at xs ++ staying_from all (held_from h at xs) (end_from at xs) ys
split-staying all h at [] ys = refl
split-staying all h at (x ∷ xs) ys =
    ap (λ (l : List Rec). if_stays (stays all h at x) x ++ l) (split-staying all (after h at x) (next_gate at x) xs ys)
    ∙ sym (append_assoc (if_stays (stays all h at x) x) (staying_from all (after h at x) (next_gate at x) xs) (staying_from all (held_from (after h at x) (next_gate at x) xs) (end_from (next_gate at x) xs) ys))

none-more : (b : Bool) (r : Rec) (ks : List Rec) → is_snap r ≡ false → list_any is_snap ks ≡ false → list_any is_snap (if_stays b r ++ ks) ≡ false
none-more true r ks none rest = ap (λ (b : Bool). b || list_any is_snap ks) none ∙ rest
none-more false r ks none rest = rest

first-none : (a b : Bool) → (a || b) ≡ false → (a ≡ false) × (b ≡ false)
first-none true b e = absurd (true≢false e)
first-none false b e = (refl, e)

none-stay : (all h : Held) (at : ℕ) (rs : List Rec) → list_any is_snap rs ≡ false → list_any is_snap (staying_from all h at rs) ≡ false
none-stay all h at [] none = refl
none-stay all h at (r ∷ rs) none =
    let both = first-none (is_snap r) (list_any is_snap rs) none in
    none-more (stays all h at r) r (staying_from all (after h at r) (next_gate at r) rs) both.0 (none-stay all (after h at r) (next_gate at r) rs both.1)

cons-snap : (r : Rec) (rs : List Rec) → LastSnap rs → LastSnap (r ∷ rs)
cons-snap r rs s = record {
  before = r ∷ s.before;
  points = s.points;
  trans = s.trans;
  states = s.states;
  behind = s.behind;
  split = ap (λ (l : List Rec). r ∷ l) s.split;
  none_behind = s.none_behind;
}

-- there is a last snapshot, or none
find-snap : (rs : List Rec) → (list_any is_snap rs ≡ false) ⊎ LastSnap rs
find-snap [] = inl refl
find-snap (r ∷ rs) = ⊎_elim (λ none. here r none) (λ s. inr (cons-snap r rs s)) (find-snap rs)
  where
    here : (r : Rec) → list_any is_snap rs ≡ false → (list_any is_snap (r ∷ rs) ≡ false) ⊎ LastSnap (r ∷ rs)
    here (kinds.Define id script enabled) none = inl none
    here (kinds.Enable id) none = inl none
    here (kinds.Disable id) none = inl none
    here (kinds.Delete id) none = inl none
    here (kinds.Batch db rp points) none = inl none
    here (kinds.Trans ts) none = inl none
    here (kinds.Snap points trans states) none = inr (record { before = []; points = points; trans = trans; states = states; behind = rs; split = refl; none_behind = none })

no-snap-in : (before : List Rec) (points trans : ℕ) (states : List ℕ) (behind rs : List Rec) → rs ≡ before ++ kinds.Snap points trans states ∷ behind → list_any is_snap rs ≡ false → ⊥
no-snap-in before points trans states behind rs split none = absurd (true≢false (sym (any before) ∙ ap (list_any is_snap) (sym split) ∙ none))
  where
    or-true : (b : Bool) → (b || true) ≡ true
    or-true true = refl
    or-true false = refl

    any : (before : List Rec) → list_any is_snap (before ++ kinds.Snap points trans states ∷ behind) ≡ true
    any [] = refl
    any (b ∷ before) = ap (λ (c : Bool). is_snap b || c) (any before) ∙ or-true (is_snap b)

module _ (rs : List Rec) (s : LastSnap rs) where
  abbrev snap-of : Rec
  snap-of = kinds.Snap s.points s.trans s.states

  abbrev behind-of : List Rec
  behind-of = staying_from (held rs) (after (held s.before) (end_of s.before) snap-of) (next_gate (end_of s.before) snap-of) s.behind

  snap-stays : stays (held rs) (held s.before) (end_of s.before) snap-of ≡ true
  snap-stays = ap (is_snap_at (end_of s.before)) (snap_kept rs s) ∙ own_number (end_of s.before)

  -- what stays before it, the snapshot, and what stays behind it
  staying-is : staying rs ≡ (staying_of rs s.before ++ snap-of ∷ []) ++ behind-of
  staying-is =
      ap (λ (l : List Rec). staying_from (held rs) (held []) first_gate l) s.split
      ∙ split-staying (held rs) (held []) first_gate s.before (snap-of ∷ s.behind)
      ∙ ap (λ (b : Bool). staying_of rs s.before ++ (if_stays b snap-of ++ behind-of)) snap-stays
      ∙ sym (append_assoc (staying_of rs s.before) (snap-of ∷ []) behind-of)

  -- the last one of those that stay is this one
  same-snap : (t : LastSnap (staying rs)) → IsThisSnap (staying_of rs s.before) t.before s.points t.points s.trans t.trans s.states t.states
  same-snap t =
      let front = staying_of rs s.before ++ snap-of ∷ [] in
      let there : LastSnap (front ++ behind-of) = record { before = t.before; points = t.points; trans = t.trans; states = t.states; behind = t.behind; split = sym staying-is ∙ t.split; none_behind = t.none_behind } in
      let kept = last_kept front behind-of (none-stay (held rs) (after (held s.before) (end_of s.before) snap-of) (next_gate (end_of s.before) snap-of) s.behind s.none_behind) there in
      last_added (staying_of rs s.before) s.points s.trans s.states (last_before front t.before t.points t.trans t.states kept)

-- ---- stores that hold the same

module _ {N P S : Type 0} (g : Ghosts N P S) (planned : Planned P) (tasks : List Task) (lives others : List Life) (same : map unplaced_life lives ≡ map unplaced_life others) where
  -- a snapshot is right where lives have other places
  snap-same : (h k : Held) → map unplaced_life h.lives ≡ map unplaced_life k.lives → h.points ≡ k.points → (trans : ℕ) (states : List ℕ)
      → IsSnapOf g (graphs_from planned 1 lives tasks) h trans states → IsSnapOf g (graphs_from planned 1 others tasks) k trans states
  snap-same h k like points trans states is = record {
    states_are =
        subst (λ (cs : List (Course P)). IsSnapshot g cs states)
        (sym (ap (open_courses k.lives (graphs_from planned 1 others tasks)) (sym points)
        ∙ open_same h.lives k.lives like (graphs_from planned 1 others tasks) h.points
        ∙ ap (λ (gs : List (List (Placed P))). open_courses h.lives gs h.points) (graphs_same lives others same planned tasks))) is.states_are;
    trans_are =
        is.trans_are
        ∙ ap (λ (cs : List (Course P)). length (Trans (events_of (course_effects g.answer (length h.points) cs))))
        (sym (courses_same h.lives k.lives like (graphs_from planned 1 others tasks) h.points
        ∙ ap (λ (gs : List (List (Placed P))). courses_of h.lives gs h.points) (graphs_same lives others same planned tasks)))
        ∙ ap (λ (ps : List PointValue). length (Trans (events_of (course_effects g.answer (length ps) (courses_of k.lives (graphs_from planned 1 others tasks) ps))))) points;
  }

module _ {N P S : Type 0} (g : Ghosts N P S) (planned : Planned P) (rs : List Rec) (follow : Follow rs) where
  pub hold : HoldSame (held rs) (held (staying rs))
  hold = same_held rs follow

  pub due_same : (tasks : List Task) → Trans (life_events g planned (held (staying rs)).lives tasks (held (staying rs)).points) ≡ Trans (life_events g planned (held rs).lives tasks (held rs).points)
  due_same tasks =
      ap (λ (es : List EventValue). Trans es) (events_same (held rs).lives (held (staying rs)).lives hold.lives g planned tasks (held (staying rs)).points)
      ∙ ap (λ (ps : List PointValue). Trans (life_events g planned (held rs).lives tasks ps)) (sym hold.points)

  pub snap_right : (good : IsGood g planned rs) (t : LastSnap (staying rs)) → IsSnapOf g (graphs_from planned 1 (held (staying rs)).lives good.tasks) (held t.before) t.trans t.states
  snap_right good t = ⊎_elim
      (λ none. absurd (no-snap-in t.before t.points t.trans t.states t.behind (staying rs) t.split (none-stay (held rs) (held []) first_gate rs none)))
      (λ s. from s) (find-snap rs)
    where
      from : LastSnap rs → IsSnapOf g (graphs_from planned 1 (held (staying rs)).lives good.tasks) (held t.before) t.trans t.states
      from s =
          let is = same-snap rs s t in
          let thin = (stand_at rs s.before (snap-of rs s ∷ s.behind) follow s.split).thin in
          let right = snap-same g planned good.tasks (held rs).lives (held (staying rs)).lives hold.lives (held s.before) (held (staying_of rs s.before)) (sym thin.lives) (sym thin.points) s.trans s.states (good.consistent.snap s) in
          subst (λ (l : List Rec). IsSnapOf g (graphs_from planned 1 (held (staying rs)).lives good.tasks) (held l) t.trans t.states) (sym is.records)
          (subst (λ (n : ℕ). IsSnapOf g (graphs_from planned 1 (held (staying rs)).lives good.tasks) (held (staying_of rs s.before)) n t.states) (sym is.trans_are)
          (subst (λ (bytes : List ℕ). IsSnapOf g (graphs_from planned 1 (held (staying rs)).lives good.tasks) (held (staying_of rs s.before)) s.trans bytes) (sym is.states_are) right))

  -- what stays is a right store with the same tasks of its lives
  abbrev pub good_staying : IsGood g planned rs → IsGood g planned (staying rs)
  good_staying good = record {
    scripts = record {
      of_tasks = each_same unplaced (λ task. IsScript task.script) (λ t is. is) (λ t is. is) (held rs).tasks (held (staying rs)).tasks hold.tasks good.scripts.of_tasks;
      of_lives = each_same unplaced_life (λ life. IsScript life.script) (λ l is. is) (λ l is. is) (held rs).lives (held (staying rs)).lives hold.lives good.scripts.of_lives;
    };
    tasks = good.tasks;
    are = tasks_same (held rs).lives (held (staying rs)).lives hold.lives good.tasks good.are;
    consistent = record {
      others = good.consistent.others;
      prefix = due_same good.tasks ∙ good.consistent.prefix ∙ ap (λ (ts : List Transition). ts ++ good.consistent.others) hold.transitions;
      snap = snap_right good;
    };
  }

  -- and has all transitions
  abbrev pub full_staying : IsFull g planned rs → IsFull g planned (staying rs)
  full_staying full = record {
    good = good_staying full.good;
    all = due_same full.good.tasks ∙ full.all ∙ hold.transitions;
  }

  -- ---- engines

  -- over the records that stay an engine stands whose lives are those of before
  pub engine_staying : (seen seen' : Image) (images images' : Image → Type 0) (e : EngineValue N) (store : StoreState) (stored : List Transition) (spent : Bool) → IsEngine g planned rs seen images e → IsOn (staying rs) seen' images' store
      → IsEngine g planned (staying rs) seen' images' (record { store = store; run = e.run; stored = stored; spent = spent })
  engine_staying seen seen' images images' e store stored spent at on = record {
    on = on;
    full = full_staying at.full;
    runs =
        subst (λ (ps : List PointValue). HasRun g planned (held (staying rs)).lives at.full.good.tasks ps 1 e.run) hold.points
        (run_same (held rs).lives (held (staying rs)).lives hold.lives g planned at.full.good.tasks (held rs).points 1 e.run at.runs);
    numbered = at.numbered ∙ long_same unplaced_life (held rs).lives (held (staying rs)).lives hold.lives;
  }

  -- at each moment each image stands for a right store with all transitions
  pub compact_moments : {D : Type 0} (moment : D → ℕ) (may_leave : D → Image → Type 0) (left_since : D → ℕ → Image → Type 0) (old new : D) → IsFull g planned rs
      → Moments moment may_leave left_since old new (stands_old_or_new rs) → Moments moment may_leave left_since old new (stands_full_old_or_new g planned rs)
  compact_moments moment may_leave left_since old new full m = weaker moment may_leave left_since old new _ _ m (λ a b was how. stands-full a b how)
    where
      stands-full : (a b : Image) → stands_old_or_new rs a b → stands_full_old_or_new g planned rs a b
      stands-full a b (inl s) = inl (record { stands = s; full = full })
      stands-full a b (inr s) = inr (record { stands = s; full = full_staying full })

-- ---- faults

-- on a disk that tells what a read gives the disk failed, or memory ran out
pub rewrite_failed : {T : Type 0} (IsNew : T → Type 0) (e : StoreFault) (f : EngineFault) → f ≡ store_fault e → RewritesOrNot {T = T} IsNew (Err e) → IsFailure f
rewrite_failed IsNew (stores.NotStore part offset) f is or = absurd or
rewrite_failed IsNew stores.DiskFault f is or = subst IsFailure (sym is) tt
rewrite_failed IsNew stores.Long f is or = absurd or
rewrite_failed IsNew stores.NoMemory f is or = subst IsFailure (sym is) tt
