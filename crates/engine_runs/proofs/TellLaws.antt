-- What lives do with points is told.
use Rattle.std.proofs.Common.{◌≡◌, ℕ, zero, suc, ◌+◌, ◌≤◌, List, [], ◌∷◌, ◌++◌, length, map, refl, sym, ap, subst, ◌∙◌, append-nil, append_assoc, length-append, arith}
use Rattle.std.specs.List.{AllByRecursion as Each}
use Rattle.std.proofs.lemmas.List.Concat.{flat_map-append}
use Rattle.kap_base.specs.Points.{PointValue}
use Rattle.kap_base.specs.declared.items.Effect.{Effect}
use Rattle.kap_base.specs.Events.{EventValue}
use Rattle.effect_text.proofs.TextLaws.{text_by_names, text_more}
use Rattle.effect_text.specs.Lines.{event_in, events_of, task_of, text_behind}
use Rattle.flow_core.proofs.RisingLaws.{IsFrom, each-map, each_append, nodes-from}
use Rattle.flow_core.specs.Gathering.{NumbersEffects}
use Rattle.flow_core.specs.Nets.{numbers_of}
use Rattle.life_effects.specs.Effects.{stored_effects}
use Rattle.net_epochs.specs.Epochs.{AreNumberedBy}
use Rattle.node_core.specs.Cut.{IsStamped}
use Rattle.node_core.specs.Meaning.{Input}
use Rattle.node_core.specs.declared.node.Node.{Ghosts}
use Rattle.node_set.specs.Tasks.{Planned}
use Rattle.store_records.specs.declared.task.Life.{Life}
use Rattle.task_run.specs.Courses.{Course, course_effects_with, course_gives, end_of, grown, items_of, later_effects}
use Rattle.task_run.specs.Lives.{node_effects_with}
use Rattle.tick_compile.specs.declared.tasks.Task.{Task}
use Rattle.topic_core.specs.Topics.{StandsFor, Trans}
use Rattle.topic_core.specs.declared.transition.Transition.{Transition}
use Rattle.engine_runs.specs.Running.{HasRun, RunValue, Tells, courses_on, life_events}
use Rattle.engine_runs.specs.Scripts.{graphs_from, names_from}
use Rattle.engine_runs.specs.Spans.{picked}
use Rattle.engine_runs.proofs.RunLaws.{effects_more, events_more}

module _ {N P S : Type 0} (g : Ghosts N P S) (stamped : (p : P) (before : List Input) (x : Input) → IsStamped (g.life p) (g.number p) x.1.stamp.0 (g.answer p before x)) (numbering : (p : P) → NumbersEffects (g.answer p)) where
  -- what courses do is of their lives
  lives-with : (Q : ℕ → Type 0) (s : ℕ) (numbers : List ℕ) (courses : List (Course P)) → AreNumberedBy g numbers courses → Each Q numbers → Each (λ (e : Effect). Q e.life) (course_effects_with g.answer s courses)
  lives-with Q s [] [] are h = tt
  lives-with Q s [] (c ∷ courses) are h = absurd are
  lives-with Q s (n ∷ numbers) [] are h = absurd are
  lives-with Q s (n ∷ numbers) (c ∷ courses) are h =
      each_append (λ (e : Effect). Q e.life) (node_effects_with s (course_gives g.answer c)) (course_effects_with g.answer s courses)
      (each-map (IsFrom s n 0) (λ (e : Effect). Q e.life) (node_effects_with s (course_gives g.answer c)) (λ e f. subst Q (sym f.1) h.0) (nodes-from g.answer g.life g.number stamped numbering s n 0 0 (end_of c) (items_of c) [] c.nodes (omega arith) are.0))
      (lives-with Q s numbers courses are.1 h.1)

  pub lives_later : (Q : ℕ → Type 0) (n k : ℕ) (numbers : List ℕ) (courses : List (Course P)) → AreNumberedBy g numbers courses → Each Q numbers → Each (λ (e : Effect). Q e.life) (later_effects g.answer n k courses)
  lives_later Q n zero numbers courses are h = tt
  lives_later Q n (suc k) numbers courses are h =
      each_append (λ (e : Effect). Q e.life) (later_effects g.answer n k courses) (course_effects_with g.answer (suc (n + k)) courses) (lives_later Q n k numbers courses are h) (lives-with Q (suc (n + k)) numbers courses are h)

  numbered-grown : (new : List PointValue) (numbers : List ℕ) (courses : List (Course P)) → AreNumberedBy g numbers courses → AreNumberedBy g numbers (map (grown new) courses)
  numbered-grown new [] [] are = tt
  numbered-grown new [] (c ∷ courses) are = absurd are
  numbered-grown new (n ∷ numbers) [] are = absurd are
  numbered-grown new (n ∷ numbers) (c ∷ courses) are = (are.0, numbered-grown new numbers courses are.1)

  module _ (planned : Planned P) (lives : List Life) (tasks : List Task) where
    abbrev Told : List PointValue → List PointValue → List ℕ → List ℕ → List Transition → List Transition → Type 0
    Told = Tells g planned lives tasks

    -- an epoch is told
    pub epoch_told : (points new : List PointValue) (n : ℕ) (es : List Effect) (r : RunValue N) (text text' : List ℕ) (told told' : List Transition) → (h : HasRun g planned lives tasks points n r) → length new ≤ n
        → es ≡ later_effects g.answer (length points) (length new) (map (grown new) (picked h.lives_run.runs (courses_on g planned lives tasks points)))
        → ((events : List EventValue) → StandsFor events r.topics → text' ≡ text ++ text_behind r.names events es)
        → ((events : List EventValue) (before : List Transition) → StandsFor events r.topics → Trans events ≡ before ++ told → Trans (events ++ events_of es) ≡ before ++ told')
        → Told points new text text' told told'
    epoch_told points new n es r text text' told told' h le is texts tells =
        let Q : ℕ → Type 0 = λ number. task_of r.names number ≡ task_of (names_from lives tasks) number in
        let s = h.lives_run.stands in
        let of_lives = lives_later Q (length points) (length new) (numbers_of r.net.lives) (map (grown new) (picked h.lives_run.runs (courses_on g planned lives tasks points)))
        (numbered-grown new (numbers_of r.net.lives) (picked h.lives_run.runs (courses_on g planned lives tasks points)) s.numbered) h.lives_run.named in
        let same : text_behind r.names (life_events g planned lives tasks points) es ≡ text_behind (names_from lives tasks) (life_events g planned lives tasks points) es =
        text_by_names (names_from lives tasks) r.names (life_events g planned lives tasks points) es (subst (Each (λ (e : Effect). Q e.life)) (sym is) of_lives) in
        record {
          effects = es;
          more = effects_more g planned lives tasks stamped points new n es r h le is;
          text_is = texts (life_events g planned lives tasks points) h.topics ∙ ap (λ (l : List ℕ). text ++ l) same;
          told_is = λ before at. ap Trans (events_more g planned lives tasks stamped points new n es r h le is) ∙ tells (life_events g planned lives tasks points) before h.topics at;
        }

module _ {N P S : Type 0} (g : Ghosts N P S) (planned : Planned P) (lives : List Life) (tasks : List Task) where
  abbrev ToldBy : List PointValue → List PointValue → List ℕ → List ℕ → List Transition → List Transition → Type 0
  ToldBy = Tells g planned lives tasks

  -- none are told of no points
  pub none_told : (points : List PointValue) (text : List ℕ) (told : List Transition) → ToldBy points [] text text told told
  unfolding text_behind
  none_told points text told = record {
    effects = [];
    more = ap (stored_effects g.answer lives (graphs_from planned 1 lives tasks)) (append-nil points) ∙ sym (append-nil _);
    text_is = sym (append-nil text);
    told_is = λ before at. ap (λ (ps : List PointValue). Trans (life_events g planned lives tasks ps)) (append-nil points) ∙ at;
  }

  -- one behind the other
  pub both_told : (points some more : List PointValue) (text text' text'' : List ℕ) (told told' told'' : List Transition) → ToldBy points some text text' told told' → ToldBy (points ++ some) more text' text'' told' told'' → ToldBy points (some ++ more) text text'' told told''
  both_told points some more text text' text'' told told' told'' a b =
      let names = names_from lives tasks in
      let es = a.effects in
      let fs = b.effects in
      let same : points ++ (some ++ more) ≡ (points ++ some) ++ more = sym (append_assoc points some more) in
      let events : life_events g planned lives tasks (points ++ some) ≡ life_events g planned lives tasks points ++ events_of es =
      ap events_of a.more ∙ flat_map-append (λ (e : Effect). event_in e.what) (stored_effects g.answer lives (graphs_from planned 1 lives tasks) points) es in
      record {
        effects = es ++ fs;
        more = ap (stored_effects g.answer lives (graphs_from planned 1 lives tasks)) same ∙ b.more ∙ ap (λ (l : List Effect). l ++ fs) a.more ∙ append_assoc _ es fs;
        text_is = b.text_is ∙ ap (λ (l : List ℕ). l ++ text_behind names (life_events g planned lives tasks (points ++ some)) fs) a.text_is ∙ append_assoc text _ _
            ∙ ap (λ (l : List ℕ). text ++ l) (ap (λ (evs : List EventValue). text_behind names (life_events g planned lives tasks points) es ++ text_behind names evs fs) events ∙ sym (text_more names (life_events g planned lives tasks points) es fs));
        told_is = λ before at. ap (λ (ps : List PointValue). Trans (life_events g planned lives tasks ps)) same ∙ b.told_is before (a.told_is before at);
      }

  -- ---- points, epoch after epoch

  abbrev RanBy : List PointValue → ℕ → RunValue N → Type 0
  RanBy = HasRun g planned lives tasks

  -- of the points some have run, and what was done with them is told; these are left, and more come
  pub record RanOn (points all rest : List PointValue) (more : ℕ) (text text' : List ℕ) (told told' : List Transition) (r : RunValue N) : Type 0 where
    pub passed : List PointValue
    pub split : all ≡ passed ++ rest
    pub runs : RanBy (points ++ passed) (length rest + more) r
    pub tells : ToldBy points passed text text' told told'

  pub on_none : (points all : List PointValue) (more : ℕ) (text : List ℕ) (told : List Transition) (r : RunValue N) → RanBy points (length all + more) r → RanOn points all all more text text told told r
  on_none points all more text told r h = record {
    passed = [];
    split = refl;
    runs = subst (λ (ps : List PointValue). RanBy ps (length all + more) r) (sym (append-nil points)) h;
    tells = none_told points text told;
  }

  -- the next ones can run
  pub on_next : (points all rest piece behind : List PointValue) (more : ℕ) (text text' : List ℕ) (told told' : List Transition) (r : RunValue N) → (s : RanOn points all rest more text text' told told' r) → rest ≡ piece ++ behind
      → RanBy (points ++ s.passed) (length piece + (length behind + more)) r
  on_next points all rest piece behind more text text' told told' r s cut =
      let long : length rest ≡ length piece + length behind = ap length cut ∙ length-append piece behind in
      let same : length rest + more ≡ length piece + (length behind + more) = omega (arith, long) in
      subst (λ (n : ℕ). RanBy (points ++ s.passed) n r) same s.runs

  pub on_then : (points all rest piece behind : List PointValue) (more : ℕ) (text text' text'' : List ℕ) (told told' told'' : List Transition) (r r' : RunValue N) → (s : RanOn points all rest more text text' told told' r) → rest ≡ piece ++ behind
      → RanBy ((points ++ s.passed) ++ piece) (length behind + more) r' → ToldBy (points ++ s.passed) piece text' text'' told' told'' → RanOn points all behind more text text'' told told'' r'
  on_then points all rest piece behind more text text' text'' told told' told'' r r' s cut runs tells = record {
    passed = s.passed ++ piece;
    split = s.split ∙ ap (λ (l : List PointValue). s.passed ++ l) cut ∙ sym (append_assoc s.passed piece behind);
    runs = subst (λ (ps : List PointValue). RanBy ps (length behind + more) r') (append_assoc points s.passed piece) runs;
    tells = both_told points s.passed piece text text' text'' told told' told'' s.tells tells;
  }

  -- all have run
  pub on_all : (points all rest : List PointValue) (more : ℕ) (text text' : List ℕ) (told told' : List Transition) (r : RunValue N) → (s : RanOn points all rest more text text' told told' r) → length rest ≤ 0 → s.passed ≡ all
  on_all points all [] more text text' told told' r s none = sym (s.split ∙ append-nil s.passed)
  on_all points all (p ∷ rest) more text text' told told' r s none = absurd (omega (arith, none))
