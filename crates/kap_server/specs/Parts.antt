-- Lives that run in parts side by side, each part a net of its own.
use Rattle.std.specs.Prelude.{◌≡◌, ℕ, ◌<◌, Bool, false, List, [], ◌∷◌, ◌++◌, length, map}
use Rattle.std.specs.List.{AllByRecursion as Each, flat_map}
use Rattle.kap_base.specs.Points.{PointValue}
use Rattle.kap_base.specs.declared.items.Effect.{Effect}
use Rattle.effect_text.specs.declared.names.TaskNames.{TaskNames}
use Rattle.effect_text.specs.Pieces.{PieceValue, by_stamp, piece_of}
use Rattle.node_core.specs.declared.node.Node.{Ghosts}
use Rattle.node_core.specs.Meaning.{Answer}
use Rattle.flow_core.specs.Carried.{HasCarried}
use Rattle.flow_core.specs.Nets.{NetValue}
use Rattle.flow_core.specs.Rooms.{HasRoomIn}
use Rattle.net_run.specs.Runs.{NetRunValue}
use Rattle.task_run.specs.Courses.{course_effects_with, from_first, later_effects}
use Rattle.task_run.specs.Graphs.{Placed}
use Rattle.task_run.specs.Lives.{dropped_of, effects_of}
use Rattle.kap_server.specs.declared.parts.Ran.{Ran}
use Rattle.kap_server.specs.declared.parts.Ran.TheVariants as ran

-- the lives of all parts: those of the first, and then those of the next ones
abbrev pub lives_of_runs : {P : Type 0} → List (NetRunValue P) → List (List (Placed P))
lives_of_runs runs = flat_map (λ r. r.lives) runs

-- the points and the room of the first, which are those of each
abbrev pub points_of_runs : {P : Type 0} → List (NetRunValue P) → List PointValue
points_of_runs [] = []
points_of_runs (r ∷ runs) = r.points

abbrev pub capacity_of_runs : {P : Type 0} → List (NetRunValue P) → ℕ
capacity_of_runs [] = 0
capacity_of_runs (r ∷ runs) = r.capacity

-- runs side by side are seen as one, which may be spent
abbrev pub one_run : {P : Type 0} → Bool → List (NetRunValue P) → NetRunValue P
one_run spent runs = record {
  lives = lives_of_runs runs;
  points = points_of_runs runs;
  capacity = capacity_of_runs runs;
  spent = spent;
}

-- a run that has had these points, has this room, and can go on
pub record HasHad {P : Type 0} (points : List PointValue) (capacity : ℕ) (run : NetRunValue P) : Type 0 where
  pub points_are : run.points ≡ points
  pub capacity_is : run.capacity ≡ capacity
  pub unspent : run.spent ≡ false

-- some runs, and each is such
pub record AreBeside {P : Type 0} (points : List PointValue) (capacity : ℕ) (runs : List (NetRunValue P)) : Type 0 where
  pub some : 0 < length runs
  pub had : Each (HasHad points capacity) runs

-- each has the points and the room of the first
abbrev pub AreOne : {P : Type 0} → List (NetRunValue P) → Type 0
AreOne runs = AreBeside (points_of_runs runs) (capacity_of_runs runs) runs

-- a run of these lives before the first point
abbrev pub first_run : {P : Type 0} → ℕ → List (List (Placed P)) → NetRunValue P
first_run capacity lives = record { lives = lives; points = []; capacity = capacity; spent = false }

-- a run that has had new points too
abbrev pub with_points : {P : Type 0} → List PointValue → NetRunValue P → NetRunValue P
with_points new r = record { lives = r.lives; points = r.points ++ new; capacity = r.capacity; spent = false }

module _ {P : Type 0} (answer : P → Answer) where
  -- what the nodes of runs dropped
  abbrev pub dropped_of_runs : List (NetRunValue P) → List (List ℕ)
  dropped_of_runs runs = flat_map (λ r. dropped_of answer r.lives r.points) runs

-- The lives of runs stand behind those of a net: where its edges have carried what they should for some points, and those
-- of each run for the same ones, so have all; and where each has room for so many messages, so has each of all.
pub record HasJoined {N P S : Type 0} (g : Ghosts N P S) (runs : List (NetRunValue P)) (old new : NetValue N) : Type 0 where
  pub carried : (lives : List (List (Placed P))) (points : List PointValue) → HasCarried g lives points old
      → Each (λ r. r.points ≡ points) runs → HasCarried g (lives ++ lives_of_runs runs) points new
  pub room : (capacity : ℕ) → Each (HasRoomIn capacity) old.lives → Each (λ r. r.capacity ≡ capacity) runs
      → Each (HasRoomIn capacity) new.lives

module _ {P : Type 0} (answer : P → Answer) (names : List TaskNames) where
  -- a run has had the new points too, and what its lives do with their stamps is told
  pub record HasTold (new : List PointValue) (before after : NetRunValue P) (told : List PieceValue) : Type 0 where
    pub on : after ≡ with_points new before
    pub is : told ≡ map (piece_of names) (later_effects answer (length before.points) (length new)
        (from_first (before.points ++ new) before.lives))

  -- what lives do with a stamp
  abbrev pub does_with : List PointValue → List (List (Placed P)) → ℕ → List Effect
  does_with points lives s = course_effects_with answer s (from_first points lives)

  -- What lives do on new points behind others is told in parts, by stamp: the parts are these lives, some and then the
  -- next ones.
  pub record IsToldInParts (points new : List PointValue) (lives : List (List (Placed P)))
      (told : List (List PieceValue)) : Type 0 where
    pub parts : List (List (List (Placed P)))
    pub are : lives ≡ flat_map (λ part. part) parts
    pub is : told ≡ map (λ f. map (piece_of names) (by_stamp (length points) (length new) f))
        (map (does_with (points ++ new)) parts)

  -- lives that ran on new points behind others gave just what they do there, whole or told in parts
  abbrev pub HasRun : List PointValue → List PointValue → List (List (Placed P)) → Ran → Type 0
  HasRun points new lives (ran.Whole effects left) =
      effects_of answer lives (points ++ new) ≡ effects_of answer lives points ++ effects
  HasRun points new lives (ran.InParts told left) = IsToldInParts points new lives told.items
