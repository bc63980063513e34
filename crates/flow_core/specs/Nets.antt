-- Lives side by side, whose cells are numbered life by life.
use Rattle.std.specs.Prelude.{◌≡◌, ℕ, ◌+◌, ◌-◌, ◌<◌, ◌≤◌, Bool, false, List, [], ◌∷◌, Some, length, map, slice_get}
use Rattle.std.specs.List.{AllByRecursion as Each, AllZip}
use Rattle.kap_base.specs.declared.items.Effect.{Effect}
use Rattle.kap_base.specs.declared.items.Msg.{Msg}
use Rattle.kap_base.specs.declared.items.Stamp.{Stamp}
use Rattle.node_core.specs.declared.node.Node.{Ghosts}
use Rattle.flow_cells.specs.declared.parts.CellParts.{CellParts}
use Rattle.flow_life.specs.declared.steps.Step.{Step}
use Rattle.flow_life.specs.declared.steps.Step.TheVariants as steps
use Rattle.flow_life.specs.Loads.{IsGathered, plan_now}
use Rattle.flow_life.specs.Nodes.{specs_of}
use Rattle.flow_life.specs.Settling.{Grows}
use Rattle.flow_life.specs.Steps.{AreQuiet, IsEnabled, moves_of}
use Rattle.flow_life.specs.Streams.{AreStreams, CarriesPrefixes, CarriesStreams, Plan, plans_of, stream_length}
use Rattle.flow_life.specs.Trying.{mover}
use Rattle.flow_life.specs.Wired.{parents_of, sum_of_all}
use Rattle.flow_life.specs.Lives.{IsLife, LifeValue}
use Rattle.flow_core.specs.declared.lives.Numbered.{Numbered}

-- a life with its number
abbrev pub NumberedLife : Type 0 → Type 0
NumberedLife N = Numbered (LifeValue N)

-- its lives, the effects that weren't collected yet, its last barrier, and whether a call failed in the middle
pub record NetValue (N : Type 0) : Type 0 where
  pub lives : List (NumberedLife N)
  pub gathered : List Effect
  pub last : Stamp
  pub spent : Bool

-- a life on which no call failed, and whose effects were gathered
pub record IsSound {N : Type 0} (l : NumberedLife N) : Type 0 where
  pub unspent : l.life.spent ≡ false
  pub gathered : Each IsGathered l.life.cells

-- the cell that a step moves
abbrev pub cell_of : Step → ℕ
cell_of next = mover next

-- the step that it is for lives behind so many cells
abbrev pub step_behind : ℕ → Step → Step
step_behind n (steps.Take cell input) = steps.Take (cell - n) input
step_behind n (steps.Put cell out) = steps.Put (cell - n) out

-- and before so many cells
abbrev pub step_before : ℕ → Step → Step
step_before n (steps.Take cell input) = steps.Take (cell + n) input
step_before n (steps.Put cell out) = steps.Put (cell + n) out

-- a step can be made: in the life that has the cell
pub data EnabledIn {N : Type 0} : List (NumberedLife N) → Step → Type 0 where
  here : {l : NumberedLife N} {lives : List (NumberedLife N)} {next : Step} → cell_of next < length l.life.cells
      → IsEnabled l.life.cells next → EnabledIn (l ∷ lives) next
  later : {l : NumberedLife N} {lives : List (NumberedLife N)} {next : Step} → length l.life.cells ≤ cell_of next
      → EnabledIn lives (step_behind (length l.life.cells) next) → EnabledIn (l ∷ lives) next

-- some step can be made
pub record SomeEnabledIn {N : Type 0} (lives : List (NumberedLife N)) : Type 0 where
  pub step : Step
  pub enabled : EnabledIn lives step

-- a step makes exactly one list longer, by one message, in the life that has the cell; the others stay
pub data GrowsIn {N : Type 0} : Step → List (NumberedLife N) → List (NumberedLife N) → Type 0 where
  in_it : {l l' : NumberedLife N} {lives : List (NumberedLife N)} {next : Step} → Grows next l.life.cells l'.life.cells
      → GrowsIn next (l ∷ lives) (l' ∷ lives)
  behind : {l : NumberedLife N} {lives lives' : List (NumberedLife N)} {next : Step}
      → length l.life.cells ≤ cell_of next → GrowsIn (step_behind (length l.life.cells) next) lives lives'
      → GrowsIn next (l ∷ lives) (l ∷ lives')

-- how many messages were sent and received by all cells since the load
abbrev pub moves_in : {N : Type 0} → List (NumberedLife N) → ℕ
moves_in [] = 0
moves_in (l ∷ lives) = moves_of l.life.cells + moves_in lives

-- the numbers of lives
abbrev pub numbers_of : {N : Type 0} → List (NumberedLife N) → List ℕ
numbers_of lives = map (λ l. l.number) lives

-- nothing waits in it, and nothing is on an edge
abbrev pub IsResting : {N : Type 0} → NumberedLife N → Type 0
IsResting l = AreQuiet l.life.cells

-- the length of the streams of each life, over all its edges, added up
abbrev pub streams_length : {N : Type 0} → List (NumberedLife N) → List (List (List Msg)) → ℕ
streams_length [] all = 0
streams_length (l ∷ lives) [] = 0
streams_length (l ∷ lives) (streams ∷ all) =
    sum_of_all (stream_length streams) (parents_of l.life.cells) + streams_length lives all

-- a cell by its number
pub data HasCell {N : Type 0} : List (NumberedLife N) → ℕ → CellParts N → Type 0 where
  own : {l : NumberedLife N} {lives : List (NumberedLife N)} {cell : ℕ} {c : CellParts N}
      → slice_get l.life.cells cell ≡ Some c → HasCell (l ∷ lives) cell c
  after : {l : NumberedLife N} {lives : List (NumberedLife N)} {cell : ℕ} {c : CellParts N} → length l.life.cells ≤ cell
      → HasCell lives (cell - length l.life.cells) c → HasCell (l ∷ lives) cell c

-- how many cells all lives have
abbrev pub cell_count : {N : Type 0} → List (NumberedLife N) → ℕ
cell_count [] = 0
cell_count (l ∷ lives) = length l.life.cells + cell_count lives

module _ {N P S : Type 0} (g : Ghosts N P S) where
  -- what each edge of it has carried is a prefix of its stream
  abbrev pub HasPrefixes : NumberedLife N → Type 0
  HasPrefixes l = CarriesPrefixes g l.life.cells

  -- its cells keep what those of a life keep
  abbrev pub IsLifeIn : NumberedLife N → Type 0
  IsLifeIn l = IsLife g l.life.cells

  -- the nodes of each life at the last load
  abbrev pub plans_in : List (NumberedLife N) → List (List (Plan S))
  plans_in lives = map (λ l. plans_of g l.life.cells) lives

  -- what the nodes of each life are
  abbrev pub specs_in : List (NumberedLife N) → List (List P)
  specs_in lives = map (λ l. specs_of g l.life.cells) lives

  -- and as a load of these messages finds them
  abbrev pub plans_from : List Msg → List (NumberedLife N) → List (List (Plan S))
  plans_from source lives = map (λ l. map (plan_now g source) l.life.cells) lives

  -- what each edge of it has carried is its stream
  abbrev pub HasStreamsCarried : NumberedLife N → Type 0
  HasStreamsCarried l = CarriesStreams g l.life.cells

  -- it has sent and received twice the length of all streams
  abbrev pub HasMovedTwice : NumberedLife N → Type 0
  HasMovedTwice l = (streams : List (List Msg)) → AreStreams (plans_of g l.life.cells) streams
      → moves_of l.life.cells
      ≡ sum_of_all (stream_length streams) (parents_of l.life.cells) + sum_of_all (stream_length streams)
      (parents_of l.life.cells)

  -- the streams of each life
  abbrev pub AreStreamsIn : List (NumberedLife N) → List (List (List Msg)) → Type 0
  AreStreamsIn lives all = AllZip (λ l streams. AreStreams (plans_of g l.life.cells) streams) lives all

  -- they have sent and received twice the length of all streams of all lives
  abbrev pub HaveMovedTwice : List (NumberedLife N) → Type 0
  HaveMovedTwice lives = (all : List (List (List Msg))) → AreStreamsIn lives all
      → moves_in lives ≡ streams_length lives all + streams_length lives all
