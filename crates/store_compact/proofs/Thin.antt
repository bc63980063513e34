-- What a store holds without the records that are left out.
use Rattle.std.proofs.Common.{◌≡◌, ℕ, ◌<◌, Bool, true, cond, map, Option, None, Some}
use Rattle.std.specs.Prelude.{◌||◌, IfSome, option_map}
use Rattle.std.specs.List.{AllByRecursion as Each, filter}
use Rattle.store_records.specs.Held.{Held}
use Rattle.store_records.specs.Orders.{IdsRise}
use Rattle.store_records.specs.declared.task.Snapshot.{Snapshot}
use Rattle.store_records.specs.declared.task.StoredTask.{StoredTask}
use Rattle.store_compact.specs.Same.{unplaced, unplaced_life, unplaced_snap}
use Rattle.store_compact.specs.Staying.{has_lived, is_snap_at, is_there}

-- the task is there in the end, or has had a life
abbrev pub remains : Held → StoredTask → Bool
remains all task = is_there task.id task.define_at all.tasks || has_lived task.define_at all.lives

-- the last snapshot so far, where it is the last of all
abbrev pub last_of_all : Held → Option Snapshot → Option Snapshot
last_of_all all None = None
last_of_all all (Some s) = cond (is_snap_at s.at all.snap) (Some (unplaced_snap s)) None

-- Of a store that holds `all` in the end and `h` at a place, the records that stay up to there stand for `g`.
pub record IsThin (all h g : Held) : Type 0 where
  pub tasks : map unplaced g.tasks ≡ map unplaced (filter (remains all) h.tasks)
  pub lives : map unplaced_life g.lives ≡ map unplaced_life h.lives
  pub points : g.points ≡ h.points
  pub transitions : g.transitions ≡ h.transitions
  pub snap : option_map unplaced_snap g.snap ≡ last_of_all all h.snap

-- What holds of a store at a place: its records stand before it, and each enabled task has had a life.
pub record IsSteady (h : Held) (at : ℕ) : Type 0 where
  pub rise : IdsRise h.tasks
  pub placed : Each (λ task. task.define_at < at) h.tasks
  pub lived : Each (λ task. task.enabled ≡ true → has_lived task.define_at h.lives ≡ true) h.tasks
  pub snap : IfSome h.snap (λ s. s.at < at)
