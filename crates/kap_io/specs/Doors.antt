-- The links that come at a door.
use Rattle.std.specs.Prelude.{◌≡◌, ℕ, ◌+◌, ⊤, Bool, true, List, Option, Some, None, Result, Ok, Err, if◌then◌else◌}
use Rattle.kap_io.specs.Fakes.{next_count}
use Rattle.kap_io.specs.Links.{LinkState}

-- a link comes where the number of those that are left falls by one, and none only where none is left
abbrev pub Admits : {L E : Type 0} → Option ℕ → Option ℕ → Result (Option L) E → Type 0
Admits None now result = ⊤
Admits (Some n) now (Ok None) = (n ≡ 0) × (now ≡ Some 0)
Admits (Some n) now (Ok (Some link)) = (m : ℕ) × (now ≡ Some m) × (n ≡ m + 1)
Admits (Some n) now (Err e) = now ≡ Some n

-- a door in memory: the links still to come, the numbers of the calls that fail, how many calls there were, and how
-- many of them failed
pub record DoorState : Type 0 where
  pub links : List LinkState
  pub fails : List ℕ
  pub calls : ℕ
  pub faults : ℕ

-- a call of a door: it is counted, and so is its failure, which takes no link; the numbers of the calls that fail stay
pub record DoorCounts (old new : DoorState) (failed : Bool) : Type 0 where
  pub links : failed ≡ true → new.links ≡ old.links
  pub fails : new.fails ≡ old.fails
  pub calls : new.calls ≡ next_count old.calls
  pub faults : new.faults ≡ (if failed then next_count old.faults else old.faults)
