-- A connection in memory.
use Rattle.std.specs.Prelude.{◌≡◌, ◌⊎◌, ℕ, ◌+◌, ◌<◌, Bool, IsTrue, List, length, if◌then◌else◌}
use Rattle.kap_io.specs.Fakes.{SinkState, SourceState, is_call_listed, next_count, taken_of}

-- what comes, what goes, the numbers of the calls that fail, how many calls there were, and how many reads and writes
-- failed
pub record LinkState : Type 0 where
  pub source : SourceState
  pub sink : SinkState
  pub fails : List ℕ
  pub calls : ℕ
  pub read_faults : ℕ
  pub write_faults : ℕ

-- a read: it is counted, and so is its failure; what the connection was made with stays, and so do the failures of
-- writes
pub record LinkReads (old new : LinkState) (failed : Bool) : Type 0 where
  pub step : new.source.step ≡ old.source.step
  pub sink : new.sink ≡ old.sink
  pub fails : new.fails ≡ old.fails
  pub calls : new.calls ≡ next_count old.calls
  pub faults : new.read_faults ≡ (if failed then next_count old.read_faults else old.read_faults)
  pub others : new.write_faults ≡ old.write_faults

-- a write: it is counted, and so is its failure; what the connection was made with stays, and so do the failures of
-- reads
pub record LinkWrites (old new : LinkState) (failed : Bool) : Type 0 where
  pub step : new.sink.step ≡ old.sink.step
  pub source : new.source ≡ old.source
  pub fails : new.fails ≡ old.fails
  pub calls : new.calls ≡ next_count old.calls
  pub faults : new.write_faults ≡ (if failed then next_count old.write_faults else old.write_faults)
  pub others : new.read_faults ≡ old.read_faults

-- the call is one that fails, or memory is wanted for what it takes of a piece of this length
abbrev pub MayRefuseLink : LinkState → ℕ → Type 0
MayRefuseLink link size =
    IsTrue (is_call_listed link.fails link.calls)
    ⊎ (link.sink.room < length link.sink.bytes + taken_of link.sink size)
