-- What the fakes in memory do at each call.
use Rattle.std.specs.Prelude.{◌≡◌, ℕ, Bool, true, false, ◌||◌, List, [], ◌∷◌, if◌then◌else◌}
use Rattle.kap_io.specs.Fakes.{is_call_listed, next_count}
use Rattle.kap_io.specs.Tries.{TryState}

-- What tells numbers, in memory: the lists still to come, the numbers that the last wait found, the numbers of the
-- calls that fail, how many calls there were, and how many of them failed.
pub record ReadyState : Type 0 where
  pub lists : List (List ℕ)
  pub numbers : List ℕ
  pub fails : List ℕ
  pub calls : ℕ
  pub faults : ℕ

-- no list is left
abbrev pub has_none : {X : Type 0} → List X → Bool
has_none [] = true
has_none (x ∷ xs) = false

-- the next wait fails, by its number, or since no list is left
abbrev pub fails_wait : ReadyState → Bool
fails_wait ready = is_call_listed ready.fails ready.calls || has_none ready.lists

-- a wait: it is counted, and so is its failure, which takes no list and leaves the numbers; those of the calls that fail
-- stay
pub record WaitCounts (old new : ReadyState) : Type 0 where
  pub failed : fails_wait old ≡ true → new.lists ≡ old.lists
  pub left : fails_wait old ≡ true → new.numbers ≡ old.numbers
  pub next : fails_wait old ≡ false → old.lists ≡ new.numbers ∷ new.lists
  pub fails : new.fails ≡ old.fails
  pub calls : new.calls ≡ next_count old.calls
  pub faults : new.faults ≡ (if fails_wait old then next_count old.faults else old.faults)

-- A door in memory that doesn't wait: the links still to come, the numbers of the calls that wait and of those that
-- fail, how many calls there were, how many of them failed, and how many waited.
pub record TryDoorState : Type 0 where
  pub links : List TryState
  pub waits : List ℕ
  pub fails : List ℕ
  pub calls : ℕ
  pub faults : ℕ
  pub waited : ℕ

-- the next call fails by its number, or else waits
abbrev pub door_fails : TryDoorState → Bool
door_fails door = is_call_listed door.fails door.calls

abbrev pub door_waits : TryDoorState → Bool
door_waits door = if door_fails door then false else is_call_listed door.waits door.calls

-- a call of a door: it is counted, and so is that it failed or waited, where no link is taken; the lists stay
pub record TryDoorCounts (old new : TryDoorState) : Type 0 where
  pub failed : door_fails old ≡ true → new.links ≡ old.links
  pub waiting : door_waits old ≡ true → new.links ≡ old.links
  pub waits : new.waits ≡ old.waits
  pub fails : new.fails ≡ old.fails
  pub calls : new.calls ≡ next_count old.calls
  pub faults : new.faults ≡ (if door_fails old then next_count old.faults else old.faults)
  pub waited : new.waited ≡ (if door_waits old then next_count old.waited else old.waited)
