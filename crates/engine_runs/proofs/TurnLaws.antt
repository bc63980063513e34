-- Lives end and begin between two points.
use Rattle.std.proofs.Common.{◌≡◌, ℕ, ◌+◌, ◌-◌, ◌<◌, ◌≤◌, Bool, true, false, List, [], ◌∷◌, ◌++◌, length, map, Option, None, Some, inl, inr, refl, sym, ap, subst, ◌∙◌, arith}
use Rattle.std.specs.Prelude.{slice_get}
use Rattle.std.specs.List.{AllByRecursion as Each, remove}
use Rattle.std.proofs.lemmas.List.{length-append, map-append}
use Rattle.kap_base.specs.Points.{PointValue}
use Rattle.effect_text.specs.Lines.{task_of}
use Rattle.effect_text.specs.declared.names.TaskNames.{TaskNames}
use Rattle.flow_core.proofs.EndLaws.{each_remove}
use Rattle.flow_core.specs.Making.{Begins, Ends}
use Rattle.flow_core.specs.Nets.{IsResting, NetValue, NumberedLife, numbers_of}
use Rattle.life_effects.specs.Effects.{course_of}
use Rattle.net_epochs.proofs.StandLaws.{net_ended}
use Rattle.net_epochs.specs.Epochs.{StandsAt}
use Rattle.node_core.specs.declared.node.Node.{Ghosts}
use Rattle.node_set.specs.Tasks.{Planned}
use Rattle.store_records.specs.declared.task.Life.{Life}
use Rattle.task_run.specs.Courses.{Course, begun}
use Rattle.task_run.specs.Graphs.{Placed}
use Rattle.task_run.specs.Plans.{PlanValue}
use Rattle.tick_compile.specs.Scripts.{Accepts}
use Rattle.tick_compile.specs.declared.tasks.Task.{Task}
use Rattle.engine_runs.specs.Running.{AreRested, LivesRun, courses_on}
use Rattle.engine_runs.specs.Scripts.{AreTasksOf, IsTaskOf, life_names, life_nodes, names_from}
use Rattle.engine_runs.specs.Spans.{AreThere, HasEnded, HasEndedBy, IsAway, IsOnward, IsOpenOver, last_of, numbers_from, picked}
use Rattle.engine_runs.proofs.LaterLaws.{none_seen}
use Rattle.engine_runs.proofs.PlaceLaws.{course_at, each_more, get_map, map_remove, name_at, name_new, name_stays, names_at, number_at, numbers_below, task_at}
use Rattle.engine_runs.proofs.RestedLaws.{ended_rest}
use Rattle.engine_runs.proofs.SpanLaws.{each_to, lasts_picked, picked_more, picked_without, there_more, there_onward, there_without, without, without_length}

-- ---- one life, whose last stamp is looked at

-- a life that has ended by its last stamp
pub ended_by : (k : ℕ) (last : Option ℕ) (life : Life) → life.last ≡ last → 0 < life.first → life.first ≤ k + 1 → HasEndedBy k last → HasEnded k life
ended_by k None life e first began h = absurd h
ended_by k (Some last) life e first began h = record { first = first; began = began; last = last; is = e; ended = h }

pub is_ended : (k : ℕ) (life : Life) → HasEnded k life → HasEndedBy k life.last
is_ended k life h = subst (HasEndedBy k) (sym h.is) h.ended

module _ {N P S : Type 0} (g : Ghosts N P S) (planned : Planned P) (lives : List Life) (tasks : List Task) where
  abbrev Run : List PointValue → ℕ → List TaskNames → NetValue N → Type 0
  Run = LivesRun g planned lives tasks

  -- ---- none ends

  -- more points come, where none ends before
  pub lives_onward : (points : List PointValue) (m n : ℕ) (names : List TaskNames) (net : NetValue N) → Run points m names net → Each (IsOnward (length points + n)) (map (last_of lives) (numbers_of net.lives)) → Run points n names net
  lives_onward points m n names net r on =
      let now : Each (IsOnward (length points + n)) (picked r.runs (map (λ life. life.last) lives)) =
      subst (Each (IsOnward (length points + n))) (ap (map (last_of lives)) r.numbers ∙ lasts_picked r.runs lives) on in
      record {
        runs = r.runs;
        long = r.long;
        there = there_onward (length points) m n r.runs lives r.there now;
        numbers = r.numbers;
        stands = r.stands;
        rested = r.rested;
        named = r.named;
      }

  -- of those that run none ends before
  pub lives_are_onward : (points : List PointValue) (n : ℕ) (names : List TaskNames) (net : NetValue N) → Run points n names net → Each (IsOnward (length points + n)) (map (last_of lives) (numbers_of net.lives))
  lives_are_onward points n names net r =
      subst (Each (IsOnward (length points + n))) (sym (ap (map (last_of lives)) r.numbers ∙ lasts_picked r.runs lives)) (all-onward (length points) n r.runs lives r.there)
    where
      all-onward : (k n : ℕ) (runs : List Bool) (ls : List Life) → AreThere k n runs ls → Each (IsOnward (k + n)) (picked runs (map (λ life. life.last) ls))
      all-onward k n [] ls h = tt
      all-onward k n (r ∷ runs) [] h = absurd h
      all-onward k n (true ∷ runs) (life ∷ ls) h = (h.0.onward, all-onward k n runs ls h.1)
      all-onward k n (false ∷ runs) (life ∷ ls) h = all-onward k n runs ls h.1

  -- ---- one ends

  ended-at : (points : List PointValue) (names : List TaskNames) (net net' : NetValue N) (number last : ℕ) → Run points 0 names net → (e : Ends number net.lives net'.lives) → last_of lives number ≡ Some last → last ≤ length points
      → Each IsResting net'.lives → net'.gathered ≡ [] → net'.last ≡ net.last → net'.spent ≡ false → Run points 0 names net'
  ended-at points names net net' number last r e is low rest none same unspent =
      let found : slice_get (picked r.runs (map (λ life. life.last) lives)) e.place ≡ Some (Some last) =
      ap (λ (ls : List (Option ℕ)). slice_get ls e.place) (sym (ap (map (last_of lives)) r.numbers ∙ lasts_picked r.runs lives))
      ∙ get_map (last_of lives) (numbers_of net.lives) e.place number e.has ∙ ap (λ (l : Option ℕ). Some l) is in
      let numbers : numbers_of net'.lives ≡ remove (numbers_of net.lives) e.place = ap numbers_of e.is ∙ map_remove (λ (l : NumberedLife N). l.number) net.lives e.place in
      record {
        runs = without r.runs e.place;
        long = without_length r.runs e.place ∙ r.long;
        there = there_without (length points) last e.place r.runs lives r.there found low;
        numbers = numbers ∙ ap (λ (ns : List ℕ). remove ns e.place) r.numbers ∙ sym (picked_without r.runs (numbers_from 1 lives) e.place);
        stands = subst (λ (cs : List (Course P)). StandsAt g (length points) cs net') (sym (picked_without r.runs (courses_on g planned lives tasks points) e.place))
            (net_ended g (length points) number (picked r.runs (courses_on g planned lives tasks points)) net net' r.stands e rest none same unspent);
        rested = ended_rest g number net net' e same r.rested;
        named = subst (Each (λ n. task_of names n ≡ task_of (names_from lives tasks) n)) (sym numbers) (each_remove (λ n. task_of names n ≡ task_of (names_from lives tasks) n) (numbers_of net.lives) e.place r.named);
      }

  pub lives_ended : (points : List PointValue) (names : List TaskNames) (net net' : NetValue N) (number : ℕ) → Run points 0 names net → Ends number net.lives net'.lives → HasEndedBy (length points) (last_of lives number)
      → Each IsResting net'.lives → net'.gathered ≡ [] → net'.last ≡ net.last → net'.spent ≡ false → Run points 0 names net'
  lives_ended points names net net' number r e h rest none same unspent = by-last (last_of lives number) refl h
    where
      by-last : (o : Option ℕ) → last_of lives number ≡ o → HasEndedBy (length points) o → Run points 0 names net'
      by-last None is h = absurd h
      by-last (Some last) is h = ended-at points names net net' number last r e is h rest none same unspent

  -- ---- one begins

  names-stay : (names : List TaskNames) (name : TaskNames) (net : NetValue N) (points : List PointValue) (n : ℕ) → Run points n names net → Each (λ number. task_of (names ++ name ∷ []) number ≡ task_of (names_from lives tasks) number) (numbers_of net.lives)
  names-stay names name net points n r =
      both (numbers_of net.lives) (subst (Each (λ number. number < 1 + length r.runs)) (sym r.numbers) (numbers_below 1 r.runs lives)) r.named
    where
      long : length r.runs ≡ length names
      long = r.long

      both : (ns : List ℕ) → Each (λ number. number < 1 + length r.runs) ns → Each (λ number. task_of names number ≡ task_of (names_from lives tasks) number) ns
          → Each (λ number. task_of (names ++ name ∷ []) number ≡ task_of (names_from lives tasks) number) ns
      both [] low h = tt
      both (number ∷ ns) low h =
          let lt : number < 1 + length r.runs = low.0 in
          (name_stays names name number (omega (arith, lt, long)) ∙ h.0, both ns low.1 h.1)

  pub numbers_within : (points : List PointValue) (n : ℕ) (names : List TaskNames) (net : NetValue N) → Run points n names net → Each (λ number. number ≤ length names) (numbers_of net.lives)
  numbers_within points n names net r =
      let long : length r.runs ≡ length names = r.long in
      each_to (λ number. number < 1 + length r.runs) (λ number. number ≤ length names) (numbers_of net.lives) (λ number (lt : number < 1 + length r.runs). omega (arith, lt, long))
      (subst (Each (λ number. number < 1 + length r.runs)) (sym r.numbers) (numbers_below 1 r.runs lives))

  picked-pass : {A : Type 0} (runs : List Bool) (xs : List A) → picked (runs ++ false ∷ []) xs ≡ picked runs xs
  picked-pass [] [] = refl
  picked-pass [] (x ∷ xs) = refl
  picked-pass (r ∷ runs) [] = refl
  picked-pass (true ∷ runs) (x ∷ xs) = ap (λ l. x ∷ l) (picked-pass runs xs)
  picked-pass (false ∷ runs) (x ∷ xs) = picked-pass runs xs

  -- one that has ended is passed
  pub life_passed : (points : List PointValue) (n : ℕ) (names more : List TaskNames) (name : TaskNames) (net : NetValue N) (life : Life) → Run points n names net → slice_get lives (length names) ≡ Some life → HasEnded (length points) life
      → more ≡ names ++ name ∷ [] → Run points n more net
  life_passed points n names more name net life r at ended is =
      let long : length r.runs ≡ length names = r.long in
      let here : slice_get lives (length r.runs) ≡ Some life = ap (slice_get lives) long ∙ at in
      subst (λ (l : List TaskNames). Run points n l net) (sym is)
      (record {
        runs = r.runs ++ false ∷ [];
        long = length-append r.runs (false ∷ []) ∙ ap (λ (m : ℕ). m + 1) long ∙ sym (length-append names (name ∷ []));
        there = there_more (length points) n r.runs lives life false r.there here ended;
        numbers = r.numbers ∙ sym (picked-pass r.runs (numbers_from 1 lives));
        stands = subst (λ (cs : List (Course P)). StandsAt g (length points) cs net) (sym (picked-pass r.runs (courses_on g planned lives tasks points))) r.stands;
        rested = r.rested;
        named = names-stay names name net points n r;
      })

  -- one that begins has seen no points
  course-begins : (points : List PointValue) (n : ℕ) (life : Life) (nodes : List (Placed P)) → IsOpenOver (length points) n life → length points < life.first → course_of life nodes points ≡ begun (length points) nodes
  course-begins points n life nodes opens above =
      let began : life.first ≤ length points + 1 = opens.began in
      let base : life.first - 1 ≡ length points = omega (arith, began, above) in
      ap (λ (ps : List PointValue). record { nodes = nodes; base = life.first - 1; points = ps }) (none_seen (life.first - 1) life.last points (omega (arith, base)))
      ∙ ap (λ (b : ℕ). begun b nodes) base

  -- and runs from now on
  pub life_began : (points : List PointValue) (n : ℕ) (names more : List TaskNames) (net net' : NetValue N) (life : Life) (task : Task) → (r : Run points n names net) → slice_get lives (length names) ≡ Some life → slice_get tasks (length names) ≡ Some task
      → IsOpenOver (length points) n life → length points < life.first
      → numbers_of net'.lives ≡ numbers_of net.lives ++ (length names + 1) ∷ []
      → StandsAt g (length points) (picked r.runs (courses_on g planned lives tasks points) ++ begun (length points) (life_nodes planned (length names + 1) life task) ∷ []) net'
      → AreRested g net' → more ≡ names ++ life_names life task ∷ [] → Run points n more net'
  life_began points n names more net net' life task r at has opens above numbers stands rested is =
      let k = length points in
      let all = courses_on g planned lives tasks points in
      let i = length r.runs in
      let long : i ≡ length names = r.long in
      let here : slice_get lives i ≡ Some life = ap (slice_get lives) long ∙ at in
      let number : 1 + i ≡ length names + 1 = omega (arith, long) in
      let nodes = life_nodes planned (length names + 1) life task in
      let own : slice_get all i ≡ Some (begun k nodes) =
      ap (slice_get all) long ∙ course_at planned 1 points lives tasks (length names) life task at has
      ∙ ap (λ (m : ℕ). Some (course_of life (life_nodes planned m life task) points)) (one-first (length names))
      ∙ ap (λ (c : Course P). Some c) (course-begins points n life nodes opens above) in
      let seat : slice_get (numbers_from 1 lives) i ≡ Some (length names + 1) = number_at 1 lives i life here ∙ ap (λ (m : ℕ). Some m) number in
      subst (λ (l : List TaskNames). Run points n l net') (sym is)
      (record {
        runs = r.runs ++ true ∷ [];
        long = length-append r.runs (true ∷ []) ∙ ap (λ (m : ℕ). m + 1) long ∙ sym (length-append names (life_names life task ∷ []));
        there = there_more k n r.runs lives life true r.there here opens;
        numbers = numbers ∙ ap (λ (ns : List ℕ). ns ++ (length names + 1) ∷ []) r.numbers ∙ sym (picked_more r.runs (numbers_from 1 lives) (length names + 1) true seat);
        stands = subst (λ (cs : List (Course P)). StandsAt g k cs net') (sym (picked_more r.runs all (begun k nodes) true own)) stands;
        rested = rested;
        named = subst (Each (λ m. task_of (names ++ life_names life task ∷ []) m ≡ task_of (names_from lives tasks) m)) (sym numbers)
            (each_more (λ m. task_of (names ++ life_names life task ∷ []) m ≡ task_of (names_from lives tasks) m) (numbers_of net.lives) (length names + 1) (names-stay names (life_names life task) net points n r)
            (name_new names (life_names life task) ∙ sym (name_at (names_from lives tasks) (length names) ∙ names_at lives tasks (length names) life task at has)));
      })
    where
      one-first : (m : ℕ) → 1 + m ≡ m + 1
      one-first m = omega arith

-- ---- the next life

-- it has ended, and is passed
next-ended : (k : ℕ) (life : Life) → IsAway k 0 life → life.first ≤ k + 1 → HasEndedBy k life.last → HasEnded k life
next-ended k life (inl lt) began h = ended_by k life.last life refl (omega (arith, lt)) began h
next-ended k life (inr e) began h = e

onward-not-ended : (k : ℕ) (last : Option ℕ) → IsOnward (k + 1) last → HasEndedBy k last → ⊥
onward-not-ended k None on h = h
onward-not-ended k (Some l) on h = let high : k + 1 ≤ l = on in let low : l ≤ k = h in absurd (omega (arith, high, low))

-- or it begins here
next-begins : (k : ℕ) (life : Life) → IsAway k 0 life → IsOnward (k + 1) life.last → k < life.first
next-begins k life (inl lt) on = omega (arith, lt)
next-begins k life (inr e) on = absurd (onward-not-ended k life.last on (is_ended k life e))

module _ {N P S : Type 0} (g : Ghosts N P S) (planned : Planned P) (lives : List Life) (tasks : List Task) where
  pub next_passed : (points : List PointValue) (k : ℕ) (names more : List TaskNames) (name : TaskNames) (net : NetValue N) (life : Life) → k ≡ length points → slice_get lives (length names) ≡ Some life
      → IsAway k 0 life → life.first ≤ k + 1 → HasEndedBy k life.last → more ≡ names ++ name ∷ [] → LivesRun g planned lives tasks points 1 names net → LivesRun g planned lives tasks points 1 more net
  next_passed points k names more name net life long at away began h is r =
      life_passed g planned lives tasks points 1 names more name net life r at (subst (λ (i : ℕ). HasEnded i life) long (next-ended k life away began h)) is

  pub next_began : (one_task : (text : List ℕ) (a b : Task) → Accepts None text a → Accepts None text b → a ≡ b) (points : List PointValue) (k : ℕ) (names more : List TaskNames) (net net' : NetValue N) (life : Life)
      → k ≡ length points → AreTasksOf lives tasks → slice_get lives (length names) ≡ Some life
      → IsAway k 0 life → life.first ≤ k + 1 → IsOnward (k + 1) life.last
      → numbers_of net'.lives ≡ numbers_of net.lives ++ (length names + 1) ∷ []
      → ((i : ℕ) (courses : List (Course P)) (task : Task) → IsTaskOf life task → StandsAt g i courses net → Each (λ number. number ≤ length names) (numbers_of net.lives)
      → StandsAt g i (courses ++ begun i (life_nodes planned (length names + 1) life task) ∷ []) net')
      → ((task : Task) → IsTaskOf life task → more ≡ names ++ life_names life task ∷ [])
      → (AreRested g net → AreRested g net')
      → LivesRun g planned lives tasks points 1 names net → LivesRun g planned lives tasks points 1 more net'
  next_began one_task points k names more net net' life long are at away began on numbers stands named rested r =
      let t = task_at lives tasks (length names) life are at in
      let first : k < life.first = next-begins k life away on in
      let here : length points < life.first = subst (λ (i : ℕ). i < life.first) long first in
      let opens : IsOpenOver (length points) 1 life = subst (λ (i : ℕ). IsOpenOver i 1 life) long (record { first = omega (arith, first); began = began; onward = on }) in
      life_began g planned lives tasks points 1 names more net net' life t.task r at t.at opens here numbers
      (stands (length points) (picked r.runs (courses_on g planned lives tasks points)) t.task t.accepted r.stands (numbers_within g planned lives tasks points 1 names net r))
      (rested r.rested) (named t.task t.accepted)

-- ---- numbers

pub begun_numbers : {N P S : Type 0} (g : Ghosts N P S) (stamp : ℕ) (plan : PlanValue N) (before after : List (NumberedLife N)) → Begins g stamp plan before after → numbers_of after ≡ numbers_of before ++ plan.life ∷ []
begun_numbers g stamp plan before after b =
    ap numbers_of b.is ∙ map-append (λ (l : NumberedLife _). l.number) before (b.life ∷ []) ∙ ap (λ (n : ℕ). numbers_of before ++ n ∷ []) b.made.number

pub numbers_under : (n m : ℕ) (numbers : List ℕ) → n ≡ m + 1 → Each (λ number. number ≤ m) numbers → Each (λ number. number < n) numbers
numbers_under n m numbers e h = each_to (λ number. number ≤ m) (λ number. number < n) numbers (λ number (le : number ≤ m). omega (arith, le, e)) h
