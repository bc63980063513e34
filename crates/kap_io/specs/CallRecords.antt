-- The record of the calls of a disk in memory, and which of them fail.
use Rattle.std.specs.Prelude.{◌≡◌, ◌⊎◌, ℕ, ◌≤◌, Bool, true, false, IsTrue, length, ◌||◌, List, [], ◌∷◌, ◌++◌, if◌then◌else◌, nat_le, Option, Some, None}
use Rattle.kap_io.specs.Fakes.{is_listed, next_count}
use Rattle.kap_io.specs.declared.disk.Part.{Part}
use Rattle.kap_io.specs.declared.disk_work.DiskCall.{DiskCall}
use Rattle.kap_io.specs.declared.disk_work.DiskWork.{DiskWork}

-- the calls in their order, the numbers of those that fail, the number from which on each fails, how many calls there
-- were, how many of them failed, and how many calls the record can hold before it has to ask for memory
pub record CallRecord : Type 0 where
  pub noted : List DiskCall
  pub fails : List ℕ
  pub stop : Option ℕ
  pub count : ℕ
  pub faults : ℕ
  pub room : ℕ

-- each call from this number on fails
abbrev pub is_stopped : Option ℕ → ℕ → Bool
is_stopped None call = false
is_stopped (Some stop) call = nat_le stop call

-- the call with this number fails
abbrev pub is_failing : CallRecord → ℕ → Bool
is_failing calls call = is_stopped calls.stop call || is_listed calls.fails call

-- the next call fails
abbrev pub is_next_failing : CallRecord → Bool
is_next_failing calls = is_failing calls (next_count calls.count)

-- the next call fails, or memory is wanted for the record
abbrev pub MayFail : CallRecord → Type 0
MayFail calls = IsTrue (is_next_failing calls) ⊎ (calls.room ≤ length calls.noted)

-- a call is counted, and so is its failure; which calls fail stays
pub record Counts (old new : CallRecord) (failed : Bool) : Type 0 where
  pub fails : new.fails ≡ old.fails
  pub stop : new.stop ≡ old.stop
  pub count : new.count ≡ next_count old.count
  pub faults : new.faults ≡ (if failed then next_count old.faults else old.faults)

-- the calls with one more
abbrev pub with_call : List DiskCall → Part → DiskWork → Bool → List DiskCall
with_call calls part work done = calls ++ record { part = part; work = work; done = done } ∷ []

-- the call is put on the record; one that fails may be left out, for want of memory
abbrev pub Notes : List DiskCall → List DiskCall → Part → DiskWork → Bool → Type 0
Notes old new part work false = new ≡ with_call old part work true
Notes old new part work true = (new ≡ with_call old part work false) ⊎ (new ≡ old)
