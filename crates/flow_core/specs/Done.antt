-- What the cells of lives have done since the load, and what of it was gathered and collected.
use Rattle.std.specs.Prelude.{◌≡◌, List, [], ◌∷◌, ◌++◌, IsPermutation}
use Rattle.kap_base.specs.declared.items.Effect.{Effect}
use Rattle.flow_core.specs.LifeLoads.{effects_since}
use Rattle.flow_core.specs.Nets.{NetValue, NumberedLife}

-- lists, one behind the other
abbrev pub together : List (List Effect) → List Effect
together [] = []
together (es ∷ lists) = es ++ together lists

-- all that the cells of lives have done since the load, life by life and cell by cell
abbrev pub effects_in : {N : Type 0} → List (NumberedLife N) → List Effect
effects_in [] = []
effects_in (l ∷ lives) = together (effects_since l.life.cells) ++ effects_in lives

-- what was done more, in any order, stands behind what was gathered before
pub record GathersAll (done done' gathered gathered' : List Effect) : Type 0 where
  pub more : List Effect
  pub given : gathered' ≡ gathered ++ more
  pub all : IsPermutation done' (done ++ more)

-- all that the cells of a net have done since the load is what was collected since then and what wasn't yet
abbrev pub HasGathered : {N : Type 0} → List Effect → NetValue N → Type 0
HasGathered collected net = IsPermutation (effects_in net.lives) (collected ++ net.gathered)
