-- Snapshots of lives that are where their points have brought them.
use Rattle.std.specs.Prelude.{List, [], ◌∷◌, ◌++◌, ℕ, map}
use Rattle.std.specs.List.{AllZip}
use Rattle.node_core.specs.declared.node.Node.{Ghosts}
use Rattle.task_run.specs.Active.{Active}
use Rattle.task_run.specs.Courses.{Course, IsWhere}
use Rattle.barrier_snapshot.specs.Captures.{IsCapture}

-- what the nodes of lives are
abbrev pub specs_all : {P S : Type 0} → List (List (Active P S)) → List P
specs_all [] = []
specs_all (acts ∷ all) = map (λ a. a.spec) acts ++ specs_all all

-- in which states they are
abbrev pub states_all : {P S : Type 0} → List (List (Active P S)) → List S
states_all [] = []
states_all (acts ∷ all) = map (λ a. a.state) acts ++ states_all all

module _ {N P S : Type 0} (g : Ghosts N P S) where
  -- The bytes hold the states of the nodes of lives where their points have brought them, life by life and node by
  -- node.
  pub record IsSnapshot (courses : List (Course P)) (bytes : List ℕ) : Type 0 where
    pub acts : List (List (Active P S))
    pub are : AllZip (IsWhere g.answer g.first g.step) courses acts
    pub capture : IsCapture g.fits g.spell (specs_all acts) (states_all acts) bytes
