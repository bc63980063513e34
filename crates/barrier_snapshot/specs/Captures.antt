-- Bytes that hold the states of nodes: how many they are, and the spelling of each as a byte string.
use Rattle.std.specs.Prelude.{◌≡◌, ℕ, ⊤, List, [], ◌∷◌, ◌++◌, map}
use Rattle.state_code.specs.Spelling.{FitsBytes, FitsList, spell_bytes, spell_list}
use Rattle.task_run.specs.Plans.{PlanValue}

module _ {P S : Type 0} (fits : P → S → Type 0) (spell : P → S → List ℕ) where
  -- each is a state of a node of the spec at its place
  abbrev pub AreStatesOf : List P → List S → Type 0
  AreStatesOf [] [] = ⊤
  AreStatesOf [] (s ∷ states) = ⊥
  AreStatesOf (p ∷ specs) [] = ⊥
  AreStatesOf (p ∷ specs) (s ∷ states) = fits p s × AreStatesOf specs states

  -- the spelling of each
  abbrev pub spellings : List P → List S → List (List ℕ)
  spellings [] states = []
  spellings (p ∷ specs) [] = []
  spellings (p ∷ specs) (s ∷ states) = spell p s ∷ spellings specs states

  -- these bytes are the number of these states, which nodes of these specs have, and the spelling of each as a byte
  -- string
  pub record IsCapture (specs : List P) (states : List S) (bytes : List ℕ) : Type 0 where
    pub states_are : AreStatesOf specs states
    pub short : FitsList FitsBytes (spellings specs states)
    pub is : bytes ≡ spell_list spell_bytes (spellings specs states)

module _ {N X : Type 0} (of : N → X) where
  -- what the nodes of lives have, life by life and node by node: their specs, or their states
  abbrev pub in_lives : List (PlanValue N) → List X
  in_lives [] = []
  in_lives (plan ∷ plans) = map of plan.nodes ++ in_lives plans
