-- Lives that ran on more points.
use Rattle.std.proofs.Common.{◌≡◌, ℕ, ◌+◌, ◌<◌, ◌≤◌, true, false, List, [], ◌++◌, length, map, drop, Option, None, Some, inl, inr, refl, sym, ap, subst, ◌∙◌, append-nil, arith}
use Rattle.std.specs.Prelude.{slice_get}
use Rattle.std.specs.List.{AllByRecursion as Each, AllZip}
use Rattle.std.proofs.lemmas.List.{length-append}
use Rattle.std.proofs.lemmas.List.Concat.{flat_map-append}
use Rattle.kap_base.specs.Points.{PointValue}
use Rattle.kap_base.specs.declared.items.Effect.{Effect}
use Rattle.kap_base.specs.Events.{EventValue}
use Rattle.effect_text.specs.Lines.{event_in, events_of, task_of}
use Rattle.effect_text.specs.declared.names.TaskNames.{TaskNames}
use Rattle.flow_core.specs.Nets.{IsResting, NumberedLife, numbers_of}
use Rattle.life_effects.specs.Effects.{LivesFit, open_courses, stored_effects}
use Rattle.life_effects.specs.Times.{times_fit}
use Rattle.net_epochs.specs.Epochs.{AreNumberedBy, IsOnCourse, NumbersRise, StandsAt}
use Rattle.node_core.specs.Cut.{IsStamped}
use Rattle.node_core.specs.Meaning.{Input}
use Rattle.node_core.specs.declared.node.Node.{Ghosts}
use Rattle.node_set.specs.Tasks.{Planned}
use Rattle.store_records.specs.Held.{open_from}
use Rattle.store_records.specs.declared.task.Life.{Life}
use Rattle.task_run.specs.Courses.{Course, grown, later_effects}
use Rattle.tick_compile.specs.declared.tasks.Task.{Task}
use Rattle.topic_core.specs.Topics.{StandsFor, Trans, event_of}
use Rattle.topic_core.specs.declared.transition.Transition.{Transition}
use Rattle.engine_runs.specs.Running.{AreRested, HasRun, LivesRun, RunValue, courses_on, due_behind, life_events}
use Rattle.engine_runs.specs.Scripts.{graphs_from, names_from}
use Rattle.engine_runs.specs.Spans.{FirstsRise, IsAway, IsOnward, Spans, last_of, picked}
use Rattle.engine_runs.proofs.LaterLaws.{effects_span, picked_grown}
use Rattle.engine_runs.proofs.OpenLaws.{courses_open, numbers_open, spans_open}
use Rattle.engine_runs.proofs.RestedLaws.{none_rest}
use Rattle.engine_runs.proofs.TimeLaws.{no_times, times_more}
use Rattle.engine_runs.proofs.TurnLaws.{lives_are_onward, lives_onward}
use Rattle.engine_runs.proofs.SpanLaws.{away_at, away_later, away_none, each_to, spans_less, spans_part}

module _ {N P S : Type 0} (g : Ghosts N P S) (planned : Planned P) (lives : List Life) (tasks : List Task) where
  abbrev Ran : List PointValue → ℕ → RunValue N → Type 0
  Ran = HasRun g planned lives tasks

  -- before the first point
  pub new_run : (r : RunValue N) → Each (λ life. 0 < life.first) lives → r.net.lives ≡ [] → r.net.gathered ≡ [] → r.net.last.0 ≡ 0 → r.net.spent ≡ false → StandsFor [] r.topics → r.names ≡ [] → r.points ≡ 0 → Ran [] 0 r
  new_run r firsts none gathered last unspent topics names count =
      let numbers : numbers_of r.net.lives ≡ [] = ap numbers_of none in
      record {
        lives_run = record {
          runs = [];
          long = sym (ap length names);
          there = tt;
          numbers = numbers;
          stands = record {
            unspent = unspent;
            rest = subst (Each IsResting) (sym none) tt;
            none = gathered;
            last = omega (arith, last);
            ends = tt;
            lives = subst (AllZip (IsOnCourse g) []) (sym none) tt;
            numbered = subst (λ (ns : List ℕ). AreNumberedBy g ns []) (sym numbers) tt;
            rise = subst (NumbersRise 0) (sym numbers) tt;
          };
          rested = none_rest g r.net none;
          named = subst (Each (λ number. task_of r.names number ≡ task_of (names_from lives tasks) number)) (sym numbers) tt;
        };
        away = subst (λ (i : ℕ). Each (IsAway 0 0) (drop i lives)) (sym (ap length names)) (each_to (λ (l : Life). 0 < l.first) (IsAway 0 0) lives (λ l (lt : 0 < l.first). inl (omega (arith, lt))) firsts);
        topics = topics;
        times = no_times;
        count = count;
      }

  pub spans_of : (points : List PointValue) (n : ℕ) (r : RunValue N) → (h : Ran points n r) → Spans (length points) n h.lives_run.runs lives
  spans_of points n r h = record {
    there = h.lives_run.there;
    away = subst (λ (i : ℕ). Each (IsAway (length points) n) (drop i lives)) (sym h.lives_run.long) h.away;
  }

  -- of fewer points too none begins or ends one
  pub ran_less : (points : List PointValue) (m n : ℕ) (r : RunValue N) → m ≤ n → Ran points n r → Ran points m r
  ran_less points m n r le h =
      let s = spans_less (length points) m n h.lives_run.runs lives le (spans_of points n r h) in
      record {
        lives_run = record { runs = h.lives_run.runs; long = h.lives_run.long; there = s.there; numbers = h.lives_run.numbers; stands = h.lives_run.stands; rested = h.lives_run.rested; named = h.lives_run.named };
        away = subst (λ (i : ℕ). Each (IsAway (length points) m) (drop i lives)) h.lives_run.long s.away;
        topics = h.topics;
        times = h.times;
        count = h.count;
      }

  module _ (stamped : (p : P) (before : List Input) (x : Input) → IsStamped (g.life p) (g.number p) x.1.stamp.0 (g.answer p before x)) where
    -- the effects go on by what the lives do that run
    pub effects_more : (points new : List PointValue) (n : ℕ) (es : List Effect) (r : RunValue N) → (h : Ran points n r) → length new ≤ n
        → es ≡ later_effects g.answer (length points) (length new) (map (grown new) (picked h.lives_run.runs (courses_on g planned lives tasks points)))
        → stored_effects g.answer lives (graphs_from planned 1 lives tasks) (points ++ new) ≡ stored_effects g.answer lives (graphs_from planned 1 lives tasks) points ++ es
    effects_more points new n es r h le is =
        effects_span g.answer g.life g.number stamped points new h.lives_run.runs lives (graphs_from planned 1 lives tasks) es (spans_less (length points) (length new) n h.lives_run.runs lives le (spans_of points n r h)) is

    -- and the events by those of these effects
    pub events_more : (points new : List PointValue) (n : ℕ) (es : List Effect) (r : RunValue N) → (h : Ran points n r) → length new ≤ n
        → es ≡ later_effects g.answer (length points) (length new) (map (grown new) (picked h.lives_run.runs (courses_on g planned lives tasks points)))
        → life_events g planned lives tasks (points ++ new) ≡ life_events g planned lives tasks points ++ events_of es
    events_more points new n es r h le is =
        ap events_of (effects_more points new n es r h le is)
        ∙ flat_map-append (λ (e : Effect). event_in e.what) (stored_effects g.answer lives (graphs_from planned 1 lives tasks) points) es

    -- behind an epoch
    pub ran_on : (points new : List PointValue) (m n : ℕ) (es : List Effect) (r r' : RunValue N) → (h : Ran points n r) → length new + m ≤ n
        → es ≡ later_effects g.answer (length points) (length new) (map (grown new) (picked h.lives_run.runs (courses_on g planned lives tasks points)))
        → StandsAt g (length points + length new) (map (grown new) (picked h.lives_run.runs (courses_on g planned lives tasks points))) r'.net
        → AreRested g r'.net → numbers_of r'.net.lives ≡ numbers_of r.net.lives → r'.names ≡ r.names → r'.points ≡ r.points + length new
        → ((events : List EventValue) → StandsFor events r.topics → StandsFor (events ++ events_of es) r'.topics)
        → times_fit (events_of es) ≡ true → Ran (points ++ new) m r'
    ran_on points new m n es r r' h le is stands rested numbers names counts takes fits =
        let k = length new in
        let few : k ≤ n = omega (arith, le) in
        let long : length (points ++ new) ≡ length points + k = length-append points new in
        let s : Spans (length points + k) m h.lives_run.runs lives = spans_part (length points) k m n h.lives_run.runs lives le (spans_of points n r h) in
        let more = events_more points new n es r h few is in
        let t : Spans (length (points ++ new)) m h.lives_run.runs lives = subst (λ (i : ℕ). Spans i m h.lives_run.runs lives) (sym long) s in
        let courses = picked_grown points new h.lives_run.runs lives (graphs_from planned 1 lives tasks) (spans_less (length points) k n h.lives_run.runs lives few (spans_of points n r h)).there in
        let count : r.points ≡ length points = h.count in
        record {
          lives_run = record {
            runs = h.lives_run.runs;
            long = h.lives_run.long ∙ ap length (sym names);
            there = t.there;
            numbers = numbers ∙ h.lives_run.numbers;
            stands = subst (λ (i : ℕ). StandsAt g i (picked h.lives_run.runs (courses_on g planned lives tasks (points ++ new))) r'.net) (sym long)
                (subst (λ (cs : List (Course P)). StandsAt g (length points + k) cs r'.net) (sym courses) stands);
            rested = rested;
            named = named-on r'.names (numbers_of r'.net.lives) names numbers;
          };
          away = subst (λ (i : ℕ). Each (IsAway (length (points ++ new)) m) (drop i lives)) (h.lives_run.long ∙ ap length (sym names)) t.away;
          topics = subst (λ (l : List EventValue). StandsFor l r'.topics) (sym more) (takes (life_events g planned lives tasks points) h.topics);
          times = ap (λ (l : List EventValue). times_fit (map event_of (Trans l))) more ∙ times_more (life_events g planned lives tasks points) (events_of es) h.times fits;
          count = omega (arith, counts, long, count);
        }
      where
        named-on : (names' : List TaskNames) (ns : List ℕ) → names' ≡ r.names → ns ≡ numbers_of r.net.lives → Each (λ number. task_of names' number ≡ task_of (names_from lives tasks) number) ns
        named-on names' ns e f =
            subst (λ (l : List TaskNames). Each (λ number. task_of l number ≡ task_of (names_from lives tasks) number) ns) (sym e)
            (subst (Each (λ number. task_of r.names number ≡ task_of (names_from lives tasks) number)) (sym f) h.lives_run.named)

  -- ---- how many points come before one begins or ends

  pub ran_before : (points : List PointValue) (n : ℕ) (r : RunValue N) → FirstsRise lives → (h : Ran points 1 r)
      → LivesRun g planned lives tasks points n r.names r.net
      → ((life : Life) → slice_get lives (length r.names) ≡ Some life → length points + 1 < life.first → length points + n < life.first)
      → ((life : Life) → slice_get lives (length r.names) ≡ Some life → life.first ≤ length points + 1 → n ≤ 1)
      → Ran points n r
  ran_before points n r rise h runs later soon = by-next (slice_get lives (length r.names)) refl
    where
      by-away : (life : Life) → slice_get lives (length r.names) ≡ Some life → IsAway (length points) 1 life → Ran points n r
      by-away life at (inl lt) = record {
        lives_run = runs;
        away = away_later (length points) n (length r.names) lives life rise at (later life at lt);
        topics = h.topics;
        times = h.times;
        count = h.count;
      }
      by-away life at (inr ended) = ran_less points n 1 r (soon life at ended.began) h

      by-next : (o : Option Life) → slice_get lives (length r.names) ≡ o → Ran points n r
      by-next None at = record {
        lives_run = runs;
        away = away_none (length points) n (length r.names) lives at;
        topics = h.topics;
        times = h.times;
        count = h.count;
      }
      by-next (Some life) at = by-away life at (away_at (length points) 1 (length r.names) lives life h.away at)

  -- ---- points, epoch after epoch

  -- of the points some have run, and these are left
  pub record RanSome (before all rest : List PointValue) (stored : ℕ) (due : List Transition) (r : RunValue N) (due' : List Transition) : Type 0 where
    pub passed : List PointValue
    pub split : all ≡ passed ++ rest
    pub runs : Ran (before ++ passed) 0 r
    pub due_is : due ≡ due_behind g planned lives tasks stored before → due' ≡ due_behind g planned lives tasks stored (before ++ passed)

  pub all_passed : (before all rest : List PointValue) (stored : ℕ) (due due' : List Transition) (r : RunValue N) → (s : RanSome before all rest stored due r due') → rest ≡ [] → s.passed ≡ all
  all_passed before all rest stored due due' r s e = sym (s.split ∙ ap (λ (l : List PointValue). s.passed ++ l) e ∙ append-nil s.passed)

  -- ---- behind all points

  -- none begins or ends any more
  pub open_runs : (points : List PointValue) (n : ℕ) (r : RunValue N) → LivesFit (length points) lives → Ran points 1 r → Ran points n r
  open_runs points n r fit h =
      let s = spans_open (length points) n h.lives_run.runs lives fit (spans_of points 1 r h) in
      record {
        lives_run = record { runs = h.lives_run.runs; long = h.lives_run.long; there = s.there; numbers = h.lives_run.numbers; stands = h.lives_run.stands; rested = h.lives_run.rested; named = h.lives_run.named };
        away = subst (λ (i : ℕ). Each (IsAway (length points) n) (drop i lives)) h.lives_run.long s.away;
        topics = h.topics;
        times = h.times;
        count = h.count;
      }

  -- the open ones run
  pub open_numbers : (points : List PointValue) (r : RunValue N) → LivesFit (length points) lives → Ran points 1 r → numbers_of r.net.lives ≡ open_from 1 lives
  open_numbers points r fit h =
      let s = spans_of points 1 r h in
      h.lives_run.numbers ∙ numbers_open (length points) 1 h.lives_run.runs lives fit s.there s.away

  pub open_stands : (points : List PointValue) (r : RunValue N) → LivesFit (length points) lives → Ran points 1 r → StandsAt g (length points) (open_courses lives (graphs_from planned 1 lives tasks) points) r.net
  open_stands points r fit h =
      let s = spans_of points 1 r h in
      subst (λ (cs : List (Course P)). StandsAt g (length points) cs r.net) (courses_open (length points) h.lives_run.runs lives (graphs_from planned 1 lives tasks) points fit s.there s.away) h.lives_run.stands

  -- ---- how long an epoch is

  pub epoch_before : (points : List PointValue) (n : ℕ) (r : RunValue N) (begun : ℕ) (net : List (NumberedLife N)) → FirstsRise lives → (h : Ran points 1 r) → begun ≡ length r.names → net ≡ r.net.lives
      → (Each (IsOnward (r.points + 1)) (map (last_of lives) (numbers_of net)) → Each (IsOnward (r.points + n)) (map (last_of lives) (numbers_of net)))
      → ((life : Life) → slice_get lives begun ≡ Some life → r.points + 1 < life.first → r.points + n < life.first)
      → ((life : Life) → slice_get lives begun ≡ Some life → life.first ≤ r.points + 1 → n ≤ 1)
      → Ran points n r
  epoch_before points n r begun net rise h long same onward later soon =
      let count : r.points ≡ length points = h.count in
      let was : Each (IsOnward (r.points + 1)) (map (last_of lives) (numbers_of net)) =
      subst (λ (ls : List (NumberedLife N)). Each (IsOnward (r.points + 1)) (map (last_of lives) (numbers_of ls))) (sym same)
      (subst (λ (k : ℕ). Each (IsOnward (k + 1)) (map (last_of lives) (numbers_of r.net.lives))) (sym count) (lives_are_onward g planned lives tasks points 1 r.names r.net h.lives_run)) in
      let now : Each (IsOnward (length points + n)) (map (last_of lives) (numbers_of r.net.lives)) =
      subst (λ (k : ℕ). Each (IsOnward (k + n)) (map (last_of lives) (numbers_of r.net.lives))) count
      (subst (λ (ls : List (NumberedLife N)). Each (IsOnward (r.points + n)) (map (last_of lives) (numbers_of ls))) same (onward was)) in
      ran_before points n r rise h (lives_onward g planned lives tasks points 1 n r.names r.net h.lives_run now)
      (λ life at lt. subst (λ (k : ℕ). k + n < life.first) count (later life (ap (slice_get lives) long ∙ at) (subst (λ (k : ℕ). k + 1 < life.first) (sym count) lt)))
      (λ life at le. soon life (ap (slice_get lives) long ∙ at) (subst (λ (k : ℕ). life.first ≤ k + 1) (sym count) le))
