-- Lives that do the same under other numbers.
use Rattle.std.specs.Prelude.{◌≡◌, ℕ, List, map}
use Rattle.std.specs.List.{AllZip}
use Rattle.kap_base.specs.declared.items.Effect.{Effect}
use Rattle.kap_base.specs.declared.items.What.{What}
use Rattle.node_core.specs.Meaning.{Answer, Saying}
use Rattle.node_core.specs.Numbering.{stamped}
use Rattle.task_run.specs.Graphs.{Placed}

-- what effects tell, without whose they are
abbrev pub whats : List Effect → List What
whats effects = map (λ e. e.what) effects

module _ {P : Type 0} (answer : P → Answer) where
  -- a node of the life with one number says what a node of the life with another one says, under the same parents
  pub record SaysAlike (one other : ℕ) (a b : Placed P) : Type 0 where
    pub parents : a.parents ≡ b.parents
    pub saying : Saying
    pub node : ℕ
    pub answer_one : answer a.spec ≡ stamped one node saying
    pub answer_other : answer b.spec ≡ stamped other node saying

  -- and so do all nodes of lives
  pub record AreAlike (one other : List (Placed P)) : Type 0 where
    pub number : ℕ
    pub other_number : ℕ
    pub nodes : AllZip (SaysAlike number other_number) one other
