-- What a node says of what arrives, and what it gives on a whole list of inputs.
use Rattle.std.specs.Prelude.{◌≡◌, ℕ, ◌+◌, Bool, if◌then◌else◌, List, [], ◌∷◌, ◌++◌}
use Rattle.kap_base.specs.Points.{PointValue}
use Rattle.kap_base.specs.declared.items.Body.{Body}
use Rattle.kap_base.specs.declared.items.Body.TheVariants as bodies
use Rattle.kap_base.specs.declared.items.Item.{Item}
use Rattle.kap_base.specs.declared.items.Effect.{Effect}
use Rattle.node_core.specs.declared.said.Said.{Said}

-- ---- without stamps

-- nothing
abbrev pub silence : Said
silence = record { bodies = []; deeds = []; drops = 0 }

-- an input that is dropped and counted
abbrev pub a_drop : Said
a_drop = record { bodies = []; deeds = []; drops = 1 }

-- the point is given out
abbrev pub passed : PointValue → Said
passed p = record { bodies = bodies.Point p ∷ []; deeds = []; drops = 0 }

-- where this is true; else nothing is said of it
abbrev pub passed_if : Bool → PointValue → Said
passed_if b p = if b then passed p else silence

-- a body at a port
abbrev pub Arrival : Type 0
Arrival = ℕ × Body

-- what a node says of an arrival, by the arrivals before it
abbrev pub Saying : Type 0
Saying = List Arrival → Arrival → Said

-- what a step leaves and says
pub record Turn (S : Type 0) : Type 0 where
  pub state : S
  pub said : Said

-- ---- with stamps

-- what is given out, what is done, and how many inputs are dropped and counted
pub record Given : Type 0 where
  pub items : List Item
  pub effects : List Effect
  pub drops : ℕ

-- nothing is given
abbrev pub nothing : Given
nothing = record { items = []; effects = []; drops = 0 }

-- one after the other
abbrev pub also : Given → Given → Given
also a b = record { items = a.items ++ b.items; effects = a.effects ++ b.effects; drops = a.drops + b.drops }

-- an item at a port
abbrev pub Input : Type 0
Input = ℕ × Item

-- what a node answers to an input, by the inputs before it
abbrev pub Answer : Type 0
Answer = List Input → Input → Given

-- what it gives for the inputs xs that come behind others
abbrev pub given_after : Answer → List Input → List Input → Given
given_after answer before [] = nothing
given_after answer before (x ∷ xs) = also (answer before x) (given_after answer (before ++ x ∷ []) xs)

-- what it gives for a whole list
abbrev pub given : Answer → List Input → Given
given answer xs = given_after answer [] xs

-- what a machine's step leaves and gives
pub record Move (S : Type 0) : Type 0 where
  pub state : S
  pub given : Given

-- the step that gives nothing and changes nothing
abbrev pub stay : {S : Type 0} → S → Move S
stay s = record { state = s; given = nothing }

-- the repetition of a step
abbrev pub fold : {S : Type 0} → (S → Input → Move S) → S → List Input → Move S
fold step s [] = stay s
fold step s (x ∷ xs) =
    let first = step s x in
    let rest = fold step first.state xs in
    record { state = rest.state; given = also first.given rest.given }

-- The machine is in the state that its inputs so far make, and answers as the node does.
pub record Follows {S : Type 0} (step : S → Input → Move S) (answer : Answer) (Kept : List Input → S
    → Type 0) : Type 0 where
  pub state : (before : List Input) (s : S) (x : Input) → Kept before s → Kept (before ++ x ∷ []) (step s x).state
  pub given : (before : List Input) (s : S) (x : Input) → Kept before s → (step s x).given ≡ answer before x
