-- The lives of a store run on its points, piece by piece.
use Rattle.std.proofs.Common.{◌≡◌, ℕ, suc, ◌+◌, ◌≤◌, Bool, List, [], ◌∷◌, ◌++◌, length, drop, refl, sym, ap, subst, ◌∙◌, append-nil, append_assoc, arith}
use Rattle.std.specs.Prelude.{take}
use Rattle.std.specs.List.{AllByRecursion as Each}
use Rattle.std.proofs.lemmas.List.{drop_at, take-append-drop}
use Rattle.kap_base.specs.Points.{PointValue}
use Rattle.life_effects.proofs.FitLaws.{held_fits}
use Rattle.life_effects.specs.Effects.{LifeFits}
use Rattle.node_core.specs.declared.node.Node.{Ghosts}
use Rattle.node_set.specs.Tasks.{Planned}
use Rattle.store_records.specs.Histories.{held}
use Rattle.store_records.specs.declared.rec.Rec.{Rec}
use Rattle.store_records.specs.declared.task.Life.{Life}
use Rattle.tick_compile.specs.declared.tasks.Task.{Task}
use Rattle.topic_core.specs.declared.transition.Transition.{Transition}
use Rattle.topic_store.specs.Points.{IsBefore, PointsState}
use Rattle.engine_runs.specs.Running.{HasRun, RunValue, due_behind}
use Rattle.engine_runs.specs.Scripts.{AreTasksOf}
use Rattle.engine_runs.specs.Spans.{AreThere, FirstsRise}
use Rattle.engine_runs.proofs.HeldLaws.{held_rise}
use Rattle.engine_store.specs.Opening.{HasBegun, HasRunAll, HasRunOn, missing}
use Rattle.engine_store.proofs.PassLaws.{each_to}

none-first : (n : ℕ) (ps : List PointValue) → take (suc n) ps ≡ [] → ps ≡ []
none-first n [] e = refl
none-first n (p ∷ ps) e = absurd cc

none-left : (ps : List PointValue) → take 4096 ps ≡ [] → ps ≡ []
none-left ps e = none-first 4095 ps e

-- no more lives run than there are
there-few : (k n : ℕ) (runs : List Bool) (lives : List Life) → AreThere k n runs lives → length runs ≤ length lives
there-few k n [] lives h = omega arith
there-few k n (b ∷ runs) [] h = absurd h
there-few k n (b ∷ runs) (life ∷ lives) h = let rest = there-few k n runs lives h.1 in omega (arith, rest)

-- a reader stands before some points
pub record StandsBefore (rs : List Rec) (reader : PointsState) : Type 0 where
  pub points : List PointValue
  pub before : IsBefore rs points reader

module _ {N P S : Type 0} (g : Ghosts N P S) (planned : Planned P) (rs : List Rec) (tasks : List Task) where
  -- The lives have run on the first points, a reader stands before the others, and these transitions are missing.
  pub record IsReading (reader : PointsState) (r : RunValue N) (due : List Transition) : Type 0 where
    pub passed : List PointValue
    pub others : List PointValue
    pub split : (held rs).points ≡ passed ++ others
    pub before : IsBefore rs others reader
    pub runs : HasRunOn g planned rs tasks passed 0 r
    pub due_is : due ≡ missing g planned rs tasks passed

  pub reading_start : (reader : PointsState) (r : RunValue N) (points : ℕ) (due : List Transition) → HasBegun g planned rs tasks r → points ≡ r.points → IsBefore rs (drop points (held rs).points) reader → due ≡ [] → IsReading reader r due
  reading_start reader r points due h same before none = record {
    passed = h.points;
    others = h.others;
    split = h.split;
    before =
        subst (λ (ps : List PointValue). IsBefore rs ps reader)
        (ap (λ (n : ℕ). drop n (held rs).points) (same ∙ h.runs.count) ∙ ap (drop (length h.points)) h.split ∙ drop_at h.points h.others (length h.points) refl) before;
    runs = h.runs;
    due_is = none ∙ sym h.none;
  }

  module _ (lives : List Life) (same : lives ≡ (held rs).lives) (are : AreTasksOf (held rs).lives tasks) where
    are-here : AreTasksOf lives tasks
    are-here = subst (λ (ls : List Life). AreTasksOf ls tasks) (sym same) are

    rise-here : FirstsRise lives
    rise-here = subst FirstsRise (sym same) (held_rise rs)

    run-here : (points : List PointValue) (n : ℕ) (r : RunValue N) → HasRunOn g planned rs tasks points n r → HasRun g planned lives tasks points n r
    run-here points n r h = subst (λ (ls : List Life). HasRun g planned ls tasks points n r) (sym same) h

    run-there : (points : List PointValue) (n : ℕ) (r : RunValue N) → HasRun g planned lives tasks points n r → HasRunOn g planned rs tasks points n r
    run-there points n r h = subst (λ (ls : List Life). HasRun g planned ls tasks points n r) same h

    -- the next piece was run
    pub reading_on : (reader reader' : PointsState) (r r' : RunValue N) (due due' : List Transition) (stored : ℕ) (piece : List PointValue) → stored ≡ length (held rs).transitions → (s : IsReading reader r due) → piece ≡ take 4096 s.others → IsBefore rs (drop 4096 s.others) reader'
        → ((ts : List Task) (before : List PointValue) → AreTasksOf lives ts → FirstsRise lives → HasRun g planned lives ts before 0 r → HasRun g planned lives ts (before ++ piece) 0 r')
        → ((ts : List Task) (before : List PointValue) → AreTasksOf lives ts → FirstsRise lives → HasRun g planned lives ts before 0 r → due ≡ due_behind g planned lives ts stored before → due' ≡ due_behind g planned lives ts stored (before ++ piece))
        → IsReading reader' r' due'
    reading_on reader reader' r r' due due' stored piece count s piece_is before runs dues = record {
      passed = s.passed ++ piece;
      others = drop 4096 s.others;
      split =
          s.split
          ∙ ap (λ (l : List PointValue). s.passed ++ l) (sym (take-append-drop 4096 s.others) ∙ ap (λ (l : List PointValue). l ++ drop 4096 s.others) (sym piece_is))
          ∙ sym (append_assoc s.passed piece (drop 4096 s.others));
      before = before;
      runs = run-there (s.passed ++ piece) 0 r' (runs tasks s.passed are-here rise-here (run-here s.passed 0 r s.runs));
      due_is =
          dues tasks s.passed are-here rise-here (run-here s.passed 0 r s.runs) (s.due_is ∙ missing-here s.passed)
          ∙ sym (missing-here (s.passed ++ piece));
    }
      where
        missing-here : (ps : List PointValue) → missing g planned rs tasks ps ≡ due_behind g planned lives tasks stored ps
        missing-here ps = ap (λ (ls : List Life). due_behind g planned ls tasks (length (held rs).transitions) ps) (sym same) ∙ ap (λ (n : ℕ). due_behind g planned lives tasks n ps) (sym count)

    -- behind all points lives end and begin
    pub turned : (r r' : RunValue N) (due : List Transition) → ((ts : List Task) (before : List PointValue) → AreTasksOf lives ts → FirstsRise lives → HasRun g planned lives ts before 0 r → HasRun g planned lives ts before 1 r') → HasRunAll g planned rs tasks 0 r due → HasRunAll g planned rs tasks 1 r' due
    turned r r' due turn h = record {
      runs = run-there (held rs).points 1 r' (turn tasks (held rs).points are-here rise-here (run-here (held rs).points 0 r h.runs));
      due_is = h.due_is;
    }

    -- each life has its names then, since each has begun
    pub all_named : (r r' : RunValue N) (due : List Transition) → (Each (λ (l : Life). l.first ≤ r.points + 1) lives → length lives ≤ length r'.names) → HasRunAll g planned rs tasks 0 r due → HasRunAll g planned rs tasks 1 r' due
        → length r'.names ≡ length (held rs).lives
    all_named r r' due all old new =
        let count : r.points ≡ length (held rs).points = old.runs.count in
        let began : Each (λ (l : Life). l.first ≤ r.points + 1) (held rs).lives =
        each_to (LifeFits (length (held rs).points)) (λ (l : Life). l.first ≤ r.points + 1) (held rs).lives
        (λ l (f : LifeFits (length (held rs).points) l). let low : l.first ≤ length (held rs).points + 1 = f.began in omega (arith, low, count)) (held_fits rs) in
        let many : length lives ≤ length r'.names = all (subst (Each (λ (l : Life). l.first ≤ r.points + 1)) (sym same) began) in
        let few : length new.runs.lives_run.runs ≤ length (held rs).lives = there-few (length (held rs).points) 1 new.runs.lives_run.runs (held rs).lives new.runs.lives_run.there in
        let long : length new.runs.lives_run.runs ≡ length r'.names = new.runs.lives_run.long in
        let sizes : length lives ≡ length (held rs).lives = ap length same in
        omega (arith, many, few, long, sizes)

  -- no piece is left
  pub reading_done : (reader : PointsState) (r : RunValue N) (due : List Transition) (given : List PointValue) → (s : IsReading reader r due) → given ≡ take 4096 s.others → given ≡ [] → HasRunAll g planned rs tasks 0 r due
  reading_done reader r due given s is none =
      let all : s.passed ≡ (held rs).points = sym (s.split ∙ ap (λ (l : List PointValue). s.passed ++ l) (none-left s.others (sym is ∙ none)) ∙ append-nil s.passed) in
      record {
        runs = subst (λ (ps : List PointValue). HasRunOn g planned rs tasks ps 0 r) all s.runs;
        due_is = s.due_is ∙ ap (missing g planned rs tasks) all;
      }
