-- What contracts see of a board.
use Rattle.std.specs.Prelude.{◌≡◌, ℕ, List, []}
use Rattle.topic_core.specs.declared.transition.Transition.{Transition}

-- a poster: the transitions that readers see, and behind them those that they don't see yet
pub record Posts : Type 0 where
  pub published : List Transition
  pub pending : List Transition

-- a look: the transitions that it saw or learnt of, and how often it was refused
pub record Looks : Type 0 where
  pub known : List Transition
  pub aways : ℕ

-- it saw nothing yet, and was never refused
abbrev pub IsNew : Looks → Type 0
IsNew look = (look.known ≡ []) × (look.aways ≡ 0)
