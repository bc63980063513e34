-- What the fakes in memory do at each call.
use Rattle.std.specs.Prelude.{◌≡◌, ℕ, ◌+◌, ◌-◌, ◌^◌, ◌<◌, ◌⊎◌, ◌==◌, Bool, IsTrue, List, length, min, if◌then◌else◌}
use Rattle.std.specs.List.{list_any}

-- the count behind this one; at 2 ^ 64 - 1 it stays
abbrev pub next_count : ℕ → ℕ
next_count n = min (n + 1) (2 ^ 64 - 1)

-- the call with this number is one of those that fail
abbrev pub is_listed : List ℕ → ℕ → Bool
is_listed fails call = list_any (λ n. n == call) fails

-- the call behind so many calls is one of those that fail
abbrev pub is_call_listed : List ℕ → ℕ → Bool
is_call_listed fails calls = is_listed fails (next_count calls)

-- a source in memory: the bytes still to come, how many it gives a call at most, the numbers of the calls that fail,
-- how many calls there were, and how many of them failed
pub record SourceState : Type 0 where
  pub left : List ℕ
  pub step : ℕ
  pub fails : List ℕ
  pub calls : ℕ
  pub faults : ℕ

-- a sink in memory: the bytes that it has, how many it takes a call at most, the numbers of the calls that fail, how
-- many calls there were, how many of them failed, and how many bytes it can hold before it has to ask for memory
pub record SinkState : Type 0 where
  pub bytes : List ℕ
  pub step : ℕ
  pub fails : List ℕ
  pub calls : ℕ
  pub faults : ℕ
  pub room : ℕ

-- a call of a source: it is counted, and so is its failure; what the source was made with stays
pub record SourceCounts (old new : SourceState) (failed : Bool) : Type 0 where
  pub step : new.step ≡ old.step
  pub fails : new.fails ≡ old.fails
  pub calls : new.calls ≡ next_count old.calls
  pub faults : new.faults ≡ (if failed then next_count old.faults else old.faults)

-- a call of a sink: it is counted, and so is its failure; what the sink was made with stays
pub record SinkCounts (old new : SinkState) (failed : Bool) : Type 0 where
  pub step : new.step ≡ old.step
  pub fails : new.fails ≡ old.fails
  pub calls : new.calls ≡ next_count old.calls
  pub faults : new.faults ≡ (if failed then next_count old.faults else old.faults)

-- how many bytes a source gives into a buffer of this length
abbrev pub given_of : SourceState → ℕ → ℕ
given_of source size = min source.step (min (length source.left) size)

-- how many bytes of a piece of this length a sink takes
abbrev pub taken_of : SinkState → ℕ → ℕ
taken_of sink size = min sink.step size

-- the call of a sink is one that fails, or memory is wanted for what it takes of a piece of this length
abbrev pub MayRefuse : SinkState → ℕ → Type 0
MayRefuse sink size =
    IsTrue (is_call_listed sink.fails sink.calls)
    ⊎ (sink.room < length sink.bytes + taken_of sink size)
