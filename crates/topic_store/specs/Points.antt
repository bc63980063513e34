-- Points that are read one after the other, each record once.
use Rattle.std.specs.Prelude.{◌≡◌, ℕ, ◌≤◌, List, ◌++◌, length, take, drop, Result, Ok, Err, Vec, ⊤}
use Rattle.std.specs.List.{flat_map}
use Rattle.std.specs.declared.alloc.Global.{Global}
use Rattle.kap_base.specs.Points.{PointValue}
use Rattle.store_records.specs.Held.{points_in}
use Rattle.store_records.specs.Histories.{end_of}
use Rattle.store_records.specs.declared.rec.Rec.{Rec}
use Rattle.topic_store.specs.declared.fault.StoreFault.{StoreFault}
use Rattle.topic_store.specs.declared.fault.StoreFault.TheVariants.{DiskFault, NoMemory}
use Rattle.topic_store.specs.declared.reader.Ahead.{Ahead}

-- a reader of points: those that come next, and behind them, of what the records from this gate on store behind the
-- first `skip`, the first `left`
pub record PointsState : Type 0 where
  pub points : List PointValue
  pub gate : ℕ
  pub skip : ℕ
  pub left : ℕ

-- what is kept of it
abbrev pub state_of : Ahead → PointsState
state_of ahead = record { points = ahead.points.items; gate = ahead.gate; skip = ahead.skip; left = ahead.left }

-- The reader stands before these points, in a store with these records.
pub record IsBefore (rs : List Rec) (points : List PointValue) (r : PointsState) : Type 0 where
  pub before : List Rec
  pub behind : List Rec
  pub split : rs ≡ before ++ behind
  pub at_gate : r.gate ≡ end_of before
  pub enough : r.left ≤ length (drop r.skip (flat_map points_in behind))
  pub points_are : points ≡ r.points ++ take r.left (drop r.skip (flat_map points_in behind))

-- it stands before the same points, unless the disk failed or memory ran out
abbrev pub IsBeforeOrNot : List Rec → List PointValue → Result Ahead StoreFault → Type 0
IsBeforeOrNot rs points (Ok ahead) = IsBefore rs points (state_of ahead)
IsBeforeOrNot rs points (Err DiskFault) = ⊤
IsBeforeOrNot rs points (Err NoMemory) = ⊤
IsBeforeOrNot rs points (Err fault) = ⊥

-- it gives the first 4,096 of the points, or all where there are no more, and then stands before the others, unless the
-- disk failed or memory ran out
abbrev pub GivesOrNot : List Rec → List PointValue → Result (Vec PointValue Global × PointsState) StoreFault → Type 0
GivesOrNot rs points (Ok given) = (given.0.items ≡ take 4096 points) × IsBefore rs (drop 4096 points) given.1
GivesOrNot rs points (Err DiskFault) = ⊤
GivesOrNot rs points (Err NoMemory) = ⊤
GivesOrNot rs points (Err fault) = ⊥
