-- All steps of lives, which of them can be made, and what lives and their net keep while steps are made.
use Rattle.std.specs.Prelude.{◌≡◌, ℕ, ◌+◌, ◌≤◌, List, [], ◌∷◌, ◌++◌, length, map}
use Rattle.std.specs.List.{All, AllByRecursion as Each}
use Rattle.kap_base.specs.declared.items.Effect.{Effect}
use Rattle.node_core.specs.declared.node.Node.{Ghosts}
use Rattle.flow_life.specs.declared.steps.Step.{Step}
use Rattle.flow_life.specs.Left.{left_of}
use Rattle.flow_life.specs.Listing.{ends_of, steps_from}
use Rattle.flow_core.specs.Nets.{EnabledIn, IsLifeIn, NetValue, NumberedLife, numbers_of, plans_in, specs_in}
use Rattle.flow_core.specs.Done.{GathersAll, effects_in}
use Rattle.flow_core.specs.Rooms.{rooms_in}

-- the steps of lives whose cells are numbered from here on, life by life; of each life it is known how many inputs and
-- outs its cells have
abbrev pub steps_onward : ℕ → List (List (ℕ × ℕ)) → List Step
steps_onward cell [] = []
steps_onward cell (ends ∷ others) = steps_from cell ends ++ steps_onward (cell + length ends) others

module _ {N : Type 0} where
  -- of each life how many inputs and outs its cells have
  abbrev pub ends_in : List (NumberedLife N) → List (List (ℕ × ℕ))
  ends_in lives = map (λ l. ends_of l.life.cells) lives

  -- all steps of lives, by cell, of each cell its takes by input and then its puts by out
  abbrev pub steps_of : List (NumberedLife N) → List Step
  steps_of lives = steps_onward 0 (ends_in lives)

  -- the same steps can be made
  pub record SameEnabledIn (lives lives' : List (NumberedLife N)) : Type 0 where
    pub forth : (next : Step) → EnabledIn lives next → EnabledIn lives' next
    pub back : (next : Step) → EnabledIn lives' next → EnabledIn lives next

  -- a step can't be made
  abbrev pub IsOff : List (NumberedLife N) → Step → Type 0
  IsOff lives next = EnabledIn lives next → ⊥

  -- none of these steps can be made
  pub record AreOff (lives : List (NumberedLife N)) (steps : List Step) : Type 0 where
    pub off : All (IsOff lives) steps

module _ {N P S : Type 0} (g : Ghosts N P S) where
  -- how many messages are still to be sent and to be received in all lives until nothing is left to do
  abbrev pub left_in : List (NumberedLife N) → ℕ
  left_in [] = 0
  left_in (l ∷ lives) = left_of g l.life.cells + left_in lives

  -- some steps were made, or none: lives, nodes and edges stay, cells keep what those of a life keep, and what was done
  -- more is gathered
  pub record GoesOn (lives lives' : List (NumberedLife N)) (gathered gathered' : List Effect) : Type 0 where
    pub numbers : numbers_of lives' ≡ numbers_of lives
    pub plans : plans_in g lives' ≡ plans_in g lives
    pub specs : specs_in g lives' ≡ specs_in g lives
    pub rooms : rooms_in lives' ≡ rooms_in lives
    pub ends : ends_in lives' ≡ ends_in lives
    pub left : left_in lives' ≤ left_in lives
    pub keeps : Each (IsLifeIn g) lives → Each (IsLifeIn g) lives'
    pub gathers : GathersAll (effects_in lives) (effects_in lives') gathered gathered'

  -- A net in which some moves were made, or none: its lives with their numbers, nodes, edges and steps stay, and so do
  -- its load and its last barrier. What was done more is gathered.
  pub record NetGoesOn (net net' : NetValue N) : Type 0 where
    pub numbers : numbers_of net'.lives ≡ numbers_of net.lives
    pub plans : plans_in g net'.lives ≡ plans_in g net.lives
    pub specs : specs_in g net'.lives ≡ specs_in g net.lives
    pub rooms : rooms_in net'.lives ≡ rooms_in net.lives
    pub steps : steps_of net'.lives ≡ steps_of net.lives
    pub last : net'.last ≡ net.last
    pub gathers : GathersAll (effects_in net.lives) (effects_in net'.lives) net.gathered net'.gathered
