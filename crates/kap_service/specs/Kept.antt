-- What the lock keeps.
use Rattle.std.specs.Prelude.{◌≡◌, ℕ, ◌≤◌, Bool, true, false, List, [], ◌++◌}
use mathlib.Core.List.{IsPrefix}
use Rattle.topic_core.specs.declared.transition.Transition.{Transition}
use Rattle.topic_board.specs.Values.{Posts}
use Rattle.kap_service.specs.Causes.{AreCaused}
use Rattle.kap_service.specs.Values.{Faults, Seats, Stores}

-- the transitions that were posted
abbrev pub posted : Posts → List Transition
posted posts = posts.published ++ posts.pending

-- Of a store that the disk may stand for: it has no fewer changes than the first book says, and its transitions begin
-- with those that were posted. While no reply said that the store failed, and nothing was short, it has just so many
-- changes, and all its transitions were posted.
pub record IsTold (first second : ℕ) (short : Bool) (posts : Posts) (store : Stores) : Type 0 where
  pub below : first ≤ store.changes
  pub begun : IsPrefix (posted posts) store.stored
  pub tied : second ≡ 0 → short ≡ false → first ≡ store.changes
  pub whole : second ≡ 0 → short ≡ false → posted posts ≡ store.stored

-- What is kept of an engine whose disk tells, and stood for a right store as the service began: it does so still,
-- whatever a crash may leave of it, and each store that it may stand for is told so; and the second book holds no more
-- than the counts of faults have risen by.
pub record IsKept (before : Faults) (faults : Faults) (right : Type 0) (leaves : Stores → Type 0) (first second : ℕ)
    (short : Bool) (posts : Posts) : Type 0 where
  pub right_is : right
  pub stores : (store : Stores) → leaves store → IsTold first second short posts store
  pub caused : AreCaused before faults second

-- a seat that was never answered: all was shown when it was made, and its look saw nothing yet and was never refused
pub record IsNewSeat (seat : Seats) : Type 0 where
  pub changes : seat.changes ≡ 0
  pub faults : seat.faults ≡ 0
  pub answers : seat.answers ≡ 0
  pub status : seat.status ≡ 0
  pub shown : seat.shown ≡ true
  pub known : seat.known ≡ []
  pub aways : seat.aways ≡ 0
