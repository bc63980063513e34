-- Links that don't wait.
use Rattle.std.specs.Prelude.{◌≡◌, ℕ, ◌≤◌, ⊤, Bool, false, List, Result, Ok, Err, if◌then◌else◌}
use Rattle.kap_base.specs.Words.{HasRisen}
use Rattle.kap_io.specs.declared.try_link.Stop.{Stop}
use Rattle.kap_io.specs.declared.try_link.Stop.TheVariants as stops
use Rattle.kap_io.specs.Fakes.{SinkState, SourceState, is_call_listed, next_count}

-- a call fails only where its count of failures rose, and waits only where the count of waits did
abbrev pub StopsBy : {T : Type 0} → ℕ → ℕ → ℕ → ℕ → Result T Stop → Type 0
StopsBy faults now_faults waits now_waits (Ok x) = ⊤
StopsBy faults now_faults waits now_waits (Err stops.Failed) = HasRisen faults now_faults
StopsBy faults now_faults waits now_waits (Err stops.Waits) = HasRisen waits now_waits

-- the same, and no count falls, the other side's neither
pub record MayStop {T : Type 0} (faults now_faults others now_others waits now_waits : ℕ) (result : Result T Stop)
    : Type 0 where
  pub later : faults ≤ now_faults
  pub other : others ≤ now_others
  pub waited : waits ≤ now_waits
  pub cause : StopsBy faults now_faults waits now_waits result

-- A connection in memory: what comes, what goes, the numbers of the calls that wait and of those that fail, how many
-- calls there were, how many reads and writes failed, and how many calls waited.
pub record TryState : Type 0 where
  pub source : SourceState
  pub sink : SinkState
  pub waits : List ℕ
  pub fails : List ℕ
  pub calls : ℕ
  pub read_faults : ℕ
  pub write_faults : ℕ
  pub waited : ℕ

-- the next call fails by its number, or else waits
abbrev pub fails_next : TryState → Bool
fails_next link = is_call_listed link.fails link.calls

abbrev pub waits_next : TryState → Bool
waits_next link = if fails_next link then false else is_call_listed link.waits link.calls

-- a call: it is counted; what the connection was made with stays
pub record TryCounts (old new : TryState) : Type 0 where
  pub source_step : new.source.step ≡ old.source.step
  pub sink_step : new.sink.step ≡ old.sink.step
  pub waits : new.waits ≡ old.waits
  pub fails : new.fails ≡ old.fails
  pub calls : new.calls ≡ next_count old.calls
