-- What is read of bytes that may hold states.
use Rattle.std.specs.Prelude.{◌≡◌, ⊤, ℕ, List, [], ◌∷◌, ◌++◌, None, Option, Result, Ok, Err}
use Rattle.state_code.specs.declared.fault.CodeFault.{CodeFault}
use Rattle.state_code.specs.declared.fault.CodeFault.TheVariants.{At, NoMemory}
use Rattle.state_code.specs.Places.{Passes, Place}
use Rattle.state_code.specs.Spelling.{Reading, read_bytes, read_then, value_then}

-- a value, where nothing more stands in its byte string, and the bytes behind the string
abbrev pub alone : {A : Type 0} → A → List ℕ → List ℕ → Option (A × List ℕ)
alone x [] rest = value_then x rest
alone x (b ∷ more) rest = None

-- the value whose spelling is the byte string that stands there
abbrev pub read_whole : {A : Type 0} → Reading A → Reading A
read_whole read bytes =
    read_then (read_bytes bytes) (λ piece rest. read_then (read piece) (λ x more. alone x more rest))

module _ {P S : Type 0} (read : P → Reading S) where
  -- a state of a node of each spec, one behind the other
  abbrev pub read_each : List P → Reading (List S)
  read_each [] bytes = value_then [] bytes
  read_each (p ∷ specs) bytes =
      read_then (read_whole (read p) bytes)
      (λ s rest. read_then (read_each specs rest) (λ states behind. value_then (s ∷ states) behind))

  -- states of the first nodes stand at a place, and behind them, at an offset, no byte string that is the state of the
  -- next one
  pub record StopsAt (specs : List P) (from : Place) (offset : ℕ) : Type 0 where
    pub before : List P
    pub next : P
    pub after : List P
    pub states : List S
    pub place : Place
    pub specs_are : specs ≡ before ++ next ∷ after
    pub passes : Passes (read_each before) from place states
    pub none : read_whole (read next) place.rest ≡ None
    pub named : offset ≡ place.offset

  -- the fault names this place, or memory ran out
  abbrev pub StopsBy : List P → Place → CodeFault → Type 0
  StopsBy specs from (At offset) = StopsAt specs from offset
  StopsBy specs from NoMemory = ⊤

-- no such value stands at a place, and the fault names it, or memory ran out
abbrev pub RefusedBy : {A : Type 0} → Reading A → Place → CodeFault → Type 0
RefusedBy read from (At offset) = (read from.rest ≡ None) × (offset ≡ from.offset)
RefusedBy read from NoMemory = ⊤

-- the value that stands at a place was loaded, or it is refused; the place may then be anywhere
abbrev pub LoadsOrNot : {A U : Type 0} → Reading A → Place → Place → A → Result U CodeFault → Type 0
LoadsOrNot read old new value (Ok u) = Passes read old new value
LoadsOrNot read old new value (Err fault) = RefusedBy read old fault

-- a fault inside a byte string names the place of the string
abbrev pub outside : ℕ → CodeFault → CodeFault
outside offset (At inside) = At offset
outside offset NoMemory = NoMemory
