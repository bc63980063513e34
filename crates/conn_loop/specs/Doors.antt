-- Doors that don't wait.
use Rattle.std.specs.Prelude.{ℕ, ◌≤◌, Result}
use Rattle.kap_io.specs.declared.try_link.Stop.{Stop}
use Rattle.kap_io.specs.Tries.{StopsBy}

-- a call fails only where its count of failures rose, and waits only where the count of waits did; no count falls
pub record MayStopAt {T : Type 0} (faults now_faults waits now_waits : ℕ) (result : Result T Stop) : Type 0 where
  pub later : faults ≤ now_faults
  pub waited : waits ≤ now_waits
  pub cause : StopsBy faults now_faults waits now_waits result
