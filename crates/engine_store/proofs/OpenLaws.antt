-- The lives of a store as an engine is made: from its last snapshot on, or from the first point.
use Rattle.std.proofs.Common.{◌≡◌, ℕ, ◌+◌, ◌≤◌, ◌<◌, ◌^◌, Bool, true, List, [], ◌∷◌, ◌++◌, length, map, drop, refl, sym, ap, subst, ◌∙◌, length-append, arith}
use Rattle.std.specs.Prelude.{IsTrue, take}
use Rattle.std.specs.List.{AllByRecursion as Each}
use Rattle.std.proofs.lemmas.List.{drop_all, drop_at, take-append-le, take_at}
use Rattle.std.proofs.lemmas.List.Concat.{flat_map-append}
use Rattle.kap_base.specs.Points.{PointValue}
use Rattle.kap_base.specs.declared.items.Effect.{Effect}
use Rattle.kap_base.specs.Events.{EventValue}
use Rattle.barrier_snapshot.specs.Snapshots.{IsSnapshot}
use Rattle.effect_text.specs.Lines.{event_in, events_of}
use Rattle.life_effects.proofs.FitLaws.{held_fits}
use Rattle.life_effects.proofs.TransLaws.{trans_next, trans_rest}
use Rattle.life_effects.specs.Effects.{LifeFits, stored_effects}
use Rattle.life_effects.specs.Times.{times_fit}
use Rattle.node_core.specs.Cut.{IsStamped}
use Rattle.node_core.specs.Meaning.{Input}
use Rattle.node_core.specs.declared.node.Node.{Ghosts}
use Rattle.node_set.specs.Tasks.{Planned}
use Rattle.store_records.specs.Held.{are_next, is_open, open_from}
use Rattle.store_records.specs.Histories.{Follow, held}
use Rattle.store_records.specs.declared.rec.Rec.{Rec}
use Rattle.store_records.specs.declared.rec.Rec.TheVariants as kinds
use Rattle.store_records.specs.declared.task.Life.{Life}
use Rattle.task_run.specs.Courses.{Course}
use Rattle.tick_compile.specs.declared.tasks.Task.{Task}
use Rattle.topic_core.specs.Topics.{StandsFor, TopicsValue, Trans, changes, event_of, numbered}
use Rattle.topic_core.specs.declared.transition.Transition.{Transition}
use Rattle.topic_store.specs.Behind.{AreBehind}
use Rattle.topic_store.specs.Snapshots.{LastSnap}
use Rattle.engine_runs.specs.Later.{AreLater}
use Rattle.engine_runs.specs.Running.{HasRun, RunValue, courses_on, life_events}
use Rattle.engine_runs.specs.Scripts.{AreTasksOf}
use Rattle.engine_runs.specs.Spans.{Spans, numbers_from, picked}
use Rattle.engine_runs.specs.Whole.{IsConsistent, due_of, events_on}
use Rattle.engine_runs.proofs.HeldLaws.{held_later, held_points}
use Rattle.engine_runs.proofs.OpenLaws.{courses_later, effects_later, effects_on, numbers_later, spans_later}
use Rattle.engine_store.specs.Good.{graphs_in}
use Rattle.engine_store.specs.Opening.{HasBegun, HasRunAll}
use Rattle.engine_store.proofs.PassLaws.{each_to}
use Rattle.engine_store.proofs.SnapLaws.{held_trans, may_at}
use Rattle.engine_store.proofs.StoredLaws.{times_first, times_stored}

-- the lives of a store begin behind some points
pub firsts : (rs : List Rec) → Each (λ life. 0 < life.first) (held rs).lives
firsts rs = each_to (LifeFits (length (held rs).points)) (λ (l : Life). 0 < l.first) (held rs).lives (λ l (f : LifeFits (length (held rs).points) l). f.first) (held_fits rs)

no-trans : Trans [] ≡ []
unfolding changes numbered
no-trans = refl

events-append : (es fs : List Effect) → events_of (es ++ fs) ≡ events_of es ++ events_of fs
events-append es fs = flat_map-append (λ (e : Effect). event_in e.what) es fs

-- the lives that were open at a snapshot are those with these numbers
later-than : (rs : List Rec) (s : LastSnap rs) → AreLater (length (held s.before).points) (held s.before).lives (held rs).lives
later-than rs s =
    subst (λ (l : List Rec). AreLater (length (held s.before).points) (held s.before).lives (held l).lives) (sym s.split) (held_later s.before (kinds.Snap s.points s.trans s.states ∷ s.behind))

pub open_numbers : (rs : List Rec) (s : LastSnap rs) → picked (map is_open (held s.before).lives) (numbers_from 1 (held rs).lives) ≡ open_from 1 (held s.before).lives
open_numbers rs s = numbers_later (length (held s.before).points) 1 (held s.before).lives (held rs).lives (later-than rs s)

module _ {N P S : Type 0} (g : Ghosts N P S) (planned : Planned P) (rs : List Rec) (tasks : List Task) where
  -- before the first point none is missing
  pub begun_new : (r : RunValue N) → HasRun g planned (held rs).lives tasks [] 0 r → HasBegun g planned rs tasks r
  begun_new r h = record {
    points = [];
    others = (held rs).points;
    split = refl;
    runs = h;
    none = ap (drop (length (held rs).transitions)) no-trans ∙ drop_all (length (held rs).transitions) [] (omega arith);
  }

  -- ---- behind a snapshot

  module _ (stamped : (p : P) (before : List Input) (x : Input) → IsStamped (g.life p) (g.number p) x.1.stamp.0 (g.answer p before x)) (stood : (events : List EventValue) (kept : TopicsValue) → StandsFor (map event_of (Trans events)) kept → StandsFor events kept) (s : LastSnap rs) (follow : Follow rs) (c : IsConsistent g (graphs_in g planned rs tasks) rs) where
    abbrev pub there : List PointValue
    there = (held s.before).points

    abbrev pub open_there : List Bool
    open_there = map is_open (held s.before).lives

    abbrev snap : Rec
    snap = kinds.Snap s.points s.trans s.states

    later : AreLater (length there) (held s.before).lives (held rs).lives
    later = later-than rs s

    effects : stored_effects g.answer (held rs).lives (graphs_in g planned rs tasks) there ≡ stored_effects g.answer (held s.before).lives (graphs_in g planned rs tasks) there
    effects = effects_later g.answer (length there) (held s.before).lives (held rs).lives (graphs_in g planned rs tasks) there refl later

    -- the events so far are those of the lives that were there
    events : life_events g planned (held rs).lives tasks there ≡ events_on g.answer (held s.before).lives (graphs_in g planned rs tasks) there
    events = ap events_of effects

    few : length (Trans (life_events g planned (held rs).lives tasks there)) ≡ s.trans
    few = ap (λ (es : List EventValue). length (Trans es)) events ∙ sym (c.snap s).trans_are

    stored : s.trans ≡ length (held s.before).transitions
    stored = (may_at rs s.before snap s.behind follow s.split).trans_are

    more : (more : List Transition) × ((held rs).transitions ≡ (held s.before).transitions ++ more)
    more = subst (λ (l : List Rec). (more : List Transition) × ((held l).transitions ≡ (held s.before).transitions ++ more)) (sym s.split) (held_trans s.before (snap ∷ s.behind))

    within : s.trans ≤ length (held rs).transitions
    within =
        let long : length (held rs).transitions ≡ length (held s.before).transitions + length more.0 = ap length more.1 ∙ length-append (held s.before).transitions more.0 in
        omega (arith, stored, long)

    rest : (rest : List PointValue) × ((held rs).points ≡ there ++ rest)
    rest = subst (λ (l : List Rec). (rest : List PointValue) × ((held l).points ≡ there ++ rest)) (sym s.split) (held_points s.before (snap ∷ s.behind))

    -- the transitions so far are the first that are stored
    so-far : Trans (life_events g planned (held rs).lives tasks there) ≡ take s.trans (held rs).transitions
    so-far =
        let lives = (held rs).lives in
        let graphs = graphs_in g planned rs tasks in
        let old = life_events g planned lives tasks there in
        let new = effects_on g.answer g.life g.number stamped there rest.0 lives graphs (firsts rs) in
        let all : due_of g.answer graphs (held rs) ≡ Trans old ++ drop (length (Trans old)) (Trans (old ++ events_of new.0)) =
        ap (λ (ps : List PointValue). Trans (events_on g.answer lives graphs ps)) rest.1
        ∙ ap (λ (es : List Effect). Trans (events_of es)) new.1
        ∙ ap (λ (es : List EventValue). Trans es) (events-append (stored_effects g.answer lives graphs there) new.0)
        ∙ trans_rest old (events_of new.0) in
        sym (take_at (Trans old) (drop (length (Trans old)) (Trans (old ++ events_of new.0))) s.trans few)
        ∙ ap (take s.trans) (sym all ∙ c.prefix)
        ∙ take-append-le s.trans (held rs).transitions c.others within

    -- What a run is restored with.
    pub record CanRestore : Type 0 where
      pub points_are : s.points ≡ length there
      pub spans : Spans (length there) 0 open_there (held rs).lives
      pub numbers : picked open_there (numbers_from 1 (held rs).lives) ≡ open_from 1 (held s.before).lives
      pub states : IsSnapshot g (picked open_there (courses_on g planned (held rs).lives tasks there)) s.states
      pub topics : (topics : TopicsValue) → AreBehind (held rs).transitions topics s.trans → StandsFor (life_events g planned (held rs).lives tasks there) topics
      pub times : times_fit (map event_of (Trans (life_events g planned (held rs).lives tasks there))) ≡ true
      pub begun : (r : RunValue N) → HasRun g planned (held rs).lives tasks there 0 r → HasBegun g planned rs tasks r

    pub can_restore : CanRestore
    can_restore = record {
      points_are = (may_at rs s.before snap s.behind follow s.split).points_are;
      spans = spans_later (length there) (held s.before).lives (held rs).lives (held_fits s.before) later;
      numbers = open_numbers rs s;
      states =
          subst (λ (cs : List (Course P)). IsSnapshot g cs s.states) (sym (courses_later (length there) (held s.before).lives (held rs).lives (graphs_in g planned rs tasks) there refl later))
          (c.snap s).states_are;
      topics = λ topics behind.
          stood (life_events g planned (held rs).lives tasks there) topics
          (subst (λ (ts : List Transition). StandsFor (map event_of ts) topics) (sym so-far) behind);
      times = ap (λ (ts : List Transition). times_fit (map event_of ts)) so-far ∙ times_first s.trans (held rs).transitions (times_stored rs follow);
      begun = λ r h. record {
        points = there;
        others = rest.0;
        split = rest.1;
        runs = h;
        none = drop_all (length (held rs).transitions) (Trans (life_events g planned (held rs).lives tasks there)) (omega (arith, few, within));
      };
    }

    -- what restoring promises of lives
    abbrev pub RestoresFrom : List Life → List ℕ → List ℕ → ℕ → TopicsValue → RunValue N → Type 0
    RestoresFrom lives numbers states points topics r =
        (ts : List Task) (before : List PointValue) (open_before : List Bool) → AreTasksOf lives ts → points ≡ length before
        → Spans (length before) 0 open_before lives
        → numbers ≡ picked open_before (numbers_from 1 lives)
        → IsSnapshot g (picked open_before (courses_on g planned lives ts before)) states
        → StandsFor (life_events g planned lives ts before) topics
        → times_fit (map event_of (Trans (life_events g planned lives ts before))) ≡ true
        → HasRun g planned lives ts before 0 r

    -- the lives of the snapshot, restored, have begun
    pub restored : (lives : List Life) (numbers states : List ℕ) (points trans : ℕ) (topics : TopicsValue) (r : RunValue N) → lives ≡ (held rs).lives → AreTasksOf (held rs).lives tasks
        → numbers ≡ open_from 1 (held s.before).lives → states ≡ s.states → points ≡ s.points → trans ≡ s.trans → AreBehind (held rs).transitions topics trans
        → RestoresFrom lives numbers states points topics r → HasBegun g planned rs tasks r
    restored lives numbers states points trans topics r same are numbers_are states_are points_are trans_are behind clause =
        let here : RestoresFrom (held rs).lives numbers states points topics r = subst (λ (ls : List Life). RestoresFrom ls numbers states points topics r) same clause in
        let can = can_restore in
        can.begun r
        (here tasks there open_there are (points_are ∙ can.points_are) can.spans (numbers_are ∙ sym can.numbers)
        (subst (λ (b : List ℕ). IsSnapshot g (picked open_there (courses_on g planned (held rs).lives tasks there)) b) (sym states_are) can.states)
        (can.topics topics (subst (λ (n : ℕ). AreBehind (held rs).transitions topics n) trans_are behind)) can.times)

  -- ---- behind all points

  module _ (c : IsConsistent g (graphs_in g planned rs tasks) rs) (n : ℕ) (r : RunValue N) (due : List Transition) (h : HasRunAll g planned rs tasks n r due) where
    -- the transitions that are due are those that are stored, and the missing ones
    pub due_are : Trans (life_events g planned (held rs).lives tasks (held rs).points) ≡ (held rs).transitions ++ due
    due_are = c.prefix ∙ ap (λ (l : List Transition). (held rs).transitions ++ l) (sym (h.due_is ∙ ap (drop (length (held rs).transitions)) c.prefix ∙ drop_at (held rs).transitions c.others (length (held rs).transitions) refl))

    -- these may be stored
    pub due_next : (trans_again : (events : List EventValue) → Trans (map event_of (Trans events)) ≡ Trans events) → length (held rs).transitions + length due < 2 ^ 64 → IsTrue (are_next (held rs).transitions due)
    due_next trans_again lt =
        let long : length (Trans (life_events g planned (held rs).lives tasks (held rs).points)) ≡ length (held rs).transitions + length due = ap length due_are ∙ length-append (held rs).transitions due in
        let again = trans_again (life_events g planned (held rs).lives tasks (held rs).points) in
        let low : length (Trans (map event_of (Trans (life_events g planned (held rs).lives tasks (held rs).points)))) < 2 ^ 64 = subst (λ (ts : List Transition). length ts < 2 ^ 64) (sym again) (omega (arith, long, lt)) in
        trans_next (map event_of (Trans (life_events g planned (held rs).lives tasks (held rs).points))) (held rs).transitions due (again ∙ due_are) low h.runs.times
