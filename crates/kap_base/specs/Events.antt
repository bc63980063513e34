-- What an alert tells a topic, as definitions speak of it.
use Rattle.std.specs.Prelude.{ℕ, ℤ, List}
use Rattle.kap_base.specs.declared.items.Level.{Level}

-- an event: its topic, the id of what is watched, its level, the time of its point, and its message
pub record EventValue : Type 0 where
  pub topic : List ℕ
  pub id : List ℕ
  pub level : Level
  pub time : ℤ
  pub message : List ℕ
