-- What is said of lives doesn't hang on the places of the records that defined their tasks.
use Rattle.std.proofs.Common.{◌≡◌, inl, inr, ℕ, zero, suc, ◌+◌, Bool, true, false, cond, List, [], ◌∷◌, length, map, drop, refl, sym, ap, subst, ◌∙◌}
use Rattle.std.specs.List.{AllByRecursion as Each}
use Rattle.kap_base.specs.Points.{PointValue}
use Rattle.kap_base.specs.Events.{EventValue}
use Rattle.effect_text.specs.Lines.{events_of, task_of}
use Rattle.effect_text.specs.declared.names.TaskNames.{TaskNames}
use Rattle.flow_core.specs.Nets.{NetValue, numbers_of}
use Rattle.life_effects.specs.Effects.{course_of, courses_of, open_courses}
use Rattle.life_effects.specs.Times.{times_fit}
use Rattle.net_epochs.specs.Epochs.{StandsAt}
use Rattle.node_core.specs.declared.node.Node.{Ghosts}
use Rattle.node_set.specs.Tasks.{Planned}
use Rattle.store_compact.specs.Same.{unplaced_life}
use Rattle.store_records.specs.Held.{is_open}
use Rattle.store_records.specs.declared.task.Life.{Life}
use Rattle.task_run.specs.Courses.{Course, course_effects}
use Rattle.task_run.specs.Graphs.{Placed}
use Rattle.tick_compile.specs.declared.tasks.Task.{Task}
use Rattle.topic_core.specs.Topics.{StandsFor, Trans, event_of}
use Rattle.engine_runs.specs.Running.{HasRun, LivesRun, RunValue, courses_on, life_events}
use Rattle.engine_runs.specs.Scripts.{AreTasksOf, graphs_from, life_names, life_nodes, names_from}
use Rattle.engine_runs.specs.Spans.{AreThere, HasEnded, IsAway, IsThere, numbers_from, picked}

-- ---- lists whose items are changed in what isn't asked

pub each_mapped : {A : Type 0} (f : A → A) (P : A → Type 0) → ((x : A) → P x → P (f x)) → (xs : List A) → Each P xs → Each P (map f xs)
each_mapped f P to [] h = tt
each_mapped f P to (x ∷ xs) h = (to x h.0, each_mapped f P to xs h.1)

pub each_unmapped : {A : Type 0} (f : A → A) (P : A → Type 0) → ((x : A) → P (f x) → P x) → (xs : List A) → Each P (map f xs) → Each P xs
each_unmapped f P of [] h = tt
each_unmapped f P of (x ∷ xs) h = (of x h.0, each_unmapped f P of xs h.1)

-- what two lists have in common that are changed to the same
pub each_same : {A : Type 0} (f : A → A) (P : A → Type 0) → ((x : A) → P x → P (f x)) → ((x : A) → P (f x) → P x) → (xs ys : List A) → map f xs ≡ map f ys → Each P xs → Each P ys
each_same f P to of xs ys same h = each_unmapped f P of ys (subst (Each P) same (each_mapped f P to xs h))

long-mapped : {A : Type 0} (f : A → A) (xs : List A) → length (map f xs) ≡ length xs
long-mapped f [] = refl
long-mapped f (x ∷ xs) = ap (λ n. suc n) (long-mapped f xs)

pub long_same : {A : Type 0} (f : A → A) (xs ys : List A) → map f xs ≡ map f ys → length xs ≡ length ys
long_same f xs ys same = sym (long-mapped f xs) ∙ ap length same ∙ long-mapped f ys

-- ---- lives without places

bare-numbers : (n : ℕ) (ls : List Life) → numbers_from n (map unplaced_life ls) ≡ numbers_from n ls
bare-numbers n [] = refl
bare-numbers n (l ∷ ls) = ap (λ (ns : List ℕ). n ∷ ns) (bare-numbers (n + 1) ls)

bare-names : (ls : List Life) (tasks : List Task) → names_from (map unplaced_life ls) tasks ≡ names_from ls tasks
bare-names [] tasks = refl
bare-names (l ∷ ls) [] = refl
bare-names (l ∷ ls) (task ∷ tasks) = ap (λ (ns : List TaskNames). life_names l task ∷ ns) (bare-names ls tasks)

bare-are : (ls : List Life) (tasks : List Task) → AreTasksOf ls tasks → AreTasksOf (map unplaced_life ls) tasks
bare-are [] [] h = h
bare-are [] (task ∷ tasks) h = absurd h
bare-are (l ∷ ls) [] h = absurd h
bare-are (l ∷ ls) (task ∷ tasks) h = (h.0, bare-are ls tasks h.1)

are-bare : (ls : List Life) (tasks : List Task) → AreTasksOf (map unplaced_life ls) tasks → AreTasksOf ls tasks
are-bare [] [] h = h
are-bare [] (task ∷ tasks) h = absurd h
are-bare (l ∷ ls) [] h = absurd h
are-bare (l ∷ ls) (task ∷ tasks) h = (h.0, are-bare ls tasks h.1)

module _ {P : Type 0} where
  bare-graphs : (planned : Planned P) (n : ℕ) (ls : List Life) (tasks : List Task) → graphs_from planned n (map unplaced_life ls) tasks ≡ graphs_from planned n ls tasks
  bare-graphs planned n [] tasks = refl
  bare-graphs planned n (l ∷ ls) [] = refl
  bare-graphs planned n (l ∷ ls) (task ∷ tasks) = ap (λ (gs : List (List (Placed P))). life_nodes planned n l task ∷ gs) (bare-graphs planned (n + 1) ls tasks)

  bare-courses : (ls : List Life) (graphs : List (List (Placed P))) (points : List PointValue) → courses_of (map unplaced_life ls) graphs points ≡ courses_of ls graphs points
  bare-courses [] graphs points = refl
  bare-courses (l ∷ ls) [] points = refl
  bare-courses (l ∷ ls) (nodes ∷ graphs) points = ap (λ (cs : List (Course P)). course_of l nodes points ∷ cs) (bare-courses ls graphs points)

  bare-open : (ls : List Life) (graphs : List (List (Placed P))) (points : List PointValue) → open_courses (map unplaced_life ls) graphs points ≡ open_courses ls graphs points
  bare-open [] graphs points = refl
  bare-open (l ∷ ls) [] points = refl
  bare-open (l ∷ ls) (nodes ∷ graphs) points =
      ap (λ (cs : List (Course P)). cond (is_open l) (course_of l nodes points ∷ cs) cs) (bare-open ls graphs points)

-- ---- where they are in a net

module _ (k n : ℕ) where
  bare-ended : (l : Life) → HasEnded k l → HasEnded k (unplaced_life l)
  bare-ended l h = record { first = h.first; began = h.began; last = h.last; is = h.is; ended = h.ended }

  ended-bare : (l : Life) → HasEnded k (unplaced_life l) → HasEnded k l
  ended-bare l h = record { first = h.first; began = h.began; last = h.last; is = h.is; ended = h.ended }

  bare-one : (b : Bool) (l : Life) → IsThere k n b l → IsThere k n b (unplaced_life l)
  bare-one true l h = record { first = h.first; began = h.began; onward = h.onward }
  bare-one false l h = bare-ended l h

  one-bare : (b : Bool) (l : Life) → IsThere k n b (unplaced_life l) → IsThere k n b l
  one-bare true l h = record { first = h.first; began = h.began; onward = h.onward }
  one-bare false l h = ended-bare l h

  bare-there : (runs : List Bool) (ls : List Life) → AreThere k n runs ls → AreThere k n runs (map unplaced_life ls)
  bare-there [] ls h = tt
  bare-there (b ∷ runs) [] h = absurd h
  bare-there (b ∷ runs) (l ∷ ls) h = (bare-one b l h.0, bare-there runs ls h.1)

  there-bare : (runs : List Bool) (ls : List Life) → AreThere k n runs (map unplaced_life ls) → AreThere k n runs ls
  there-bare [] ls h = tt
  there-bare (b ∷ runs) [] h = absurd h
  there-bare (b ∷ runs) (l ∷ ls) h = (one-bare b l h.0, there-bare runs ls h.1)

  bare-away : (l : Life) → IsAway k n l → IsAway k n (unplaced_life l)
  bare-away l (inl above) = inl above
  bare-away l (inr h) = inr (bare-ended l h)

  away-bare : (l : Life) → IsAway k n (unplaced_life l) → IsAway k n l
  away-bare l (inl above) = inl above
  away-bare l (inr h) = inr (ended-bare l h)

dropped : (i : ℕ) (ls : List Life) → drop i (map unplaced_life ls) ≡ map unplaced_life (drop i ls)
dropped zero ls = refl
dropped (suc i) [] = refl
dropped (suc i) (l ∷ ls) = dropped i ls

-- ---- lives that differ in places only

module _ (lives others : List Life) (same : map unplaced_life lives ≡ map unplaced_life others) where
  equal : {A : Type 0} (f : List Life → A) → ((ls : List Life) → f (map unplaced_life ls) ≡ f ls) → f others ≡ f lives
  equal f bare = sym (bare others) ∙ ap f (sym same) ∙ bare lives

  -- are lives of the same tasks
  pub tasks_same : (tasks : List Task) → AreTasksOf lives tasks → AreTasksOf others tasks
  tasks_same tasks are = are-bare others tasks (subst (λ (ls : List Life). AreTasksOf ls tasks) same (bare-are lives tasks are))

  there-same : (k n : ℕ) (runs : List Bool) → AreThere k n runs lives → AreThere k n runs others
  there-same k n runs there = there-bare k n runs others (subst (AreThere k n runs) same (bare-there k n runs lives there))

  away-same : (k n i : ℕ) → Each (IsAway k n) (drop i lives) → Each (IsAway k n) (drop i others)
  away-same k n i away =
      each_same unplaced_life (IsAway k n) (bare-away k n) (away-bare k n) (drop i lives) (drop i others)
      (sym (dropped i lives) ∙ ap (drop i) same ∙ dropped i others) away

  module _ {P : Type 0} where
    -- have the same nodes
    pub graphs_same : (planned : Planned P) (tasks : List Task) → graphs_from planned 1 others tasks ≡ graphs_from planned 1 lives tasks
    graphs_same planned tasks = equal (λ (ls : List Life). graphs_from planned 1 ls tasks) (λ ls. bare-graphs planned 1 ls tasks)

    -- and courses
    pub courses_same : (graphs : List (List (Placed P))) (points : List PointValue) → courses_of others graphs points ≡ courses_of lives graphs points
    courses_same graphs points = equal (λ (ls : List Life). courses_of ls graphs points) (λ ls. bare-courses ls graphs points)

    pub open_same : (graphs : List (List (Placed P))) (points : List PointValue) → open_courses others graphs points ≡ open_courses lives graphs points
    open_same graphs points = equal (λ (ls : List Life). open_courses ls graphs points) (λ ls. bare-open ls graphs points)

  module _ {N P S : Type 0} (g : Ghosts N P S) (planned : Planned P) (tasks : List Task) where
    courses-on : (points : List PointValue) → courses_on g planned others tasks points ≡ courses_on g planned lives tasks points
    courses-on points =
        courses_same (graphs_from planned 1 others tasks) points ∙ ap (λ (gs : List (List (Placed P))). courses_of lives gs points) (graphs_same planned tasks)

    -- and so the same events
    pub events_same : (points : List PointValue) → life_events g planned others tasks points ≡ life_events g planned lives tasks points
    events_same points = ap (λ (cs : List (Course P)). events_of (course_effects g.answer (length points) cs)) (courses-on points)

    lives-same : (points : List PointValue) (n : ℕ) (names : List TaskNames) (net : NetValue N) → LivesRun g planned lives tasks points n names net → LivesRun g planned others tasks points n names net
    lives-same points n names net h = record {
      runs = h.runs;
      long = h.long;
      there = there-same (length points) n h.runs h.there;
      numbers = h.numbers ∙ ap (picked h.runs) (sym (equal (numbers_from 1) (bare-numbers 1)));
      stands = subst (λ (cs : List (Course P)). StandsAt g (length points) (picked h.runs cs) net) (sym (courses-on points)) h.stands;
      rested = h.rested;
      named =
          subst (λ (ns : List TaskNames). Each (λ number. task_of names number ≡ task_of ns number) (numbers_of net.lives))
          (sym (equal (λ (ls : List Life). names_from ls tasks) (λ ls. bare-names ls tasks))) h.named;
    }

    -- as these they have run on the same points
    pub run_same : (points : List PointValue) (n : ℕ) (r : RunValue N) → HasRun g planned lives tasks points n r → HasRun g planned others tasks points n r
    run_same points n r h = record {
      lives_run = lives-same points n r.names r.net h.lives_run;
      away = away-same (length points) n (length r.names) h.away;
      topics = subst (λ (es : List EventValue). StandsFor es r.topics) (sym (events_same points)) h.topics;
      times = ap (λ (es : List EventValue). times_fit (map event_of (Trans es))) (events_same points) ∙ h.times;
      count = h.count;
    }
