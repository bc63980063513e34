-- What contracts see of lives that run through a net.
use Rattle.std.specs.Prelude.{ℕ, Bool, List}
use Rattle.kap_base.specs.Points.{PointValue}
use Rattle.task_run.specs.Graphs.{Placed}

-- the nodes of each life, the points so far, how many messages each edge has room for, and whether memory ran out
pub record NetRunValue (P : Type 0) : Type 0 where
  pub lives : List (List (Placed P))
  pub points : List PointValue
  pub capacity : ℕ
  pub spent : Bool
