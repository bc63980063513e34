-- What the lives of a store have done where the open ones alone have seen points.
use Rattle.std.proofs.Common.{◌≡◌, ℕ, ◌+◌, ◌-◌, not, List, [], ◌∷◌, ◌++◌, length, drop, Option, None, Some, refl, ap, ◌∙◌}
use Rattle.std.specs.Prelude.{if◌then◌else◌, is_some, flat_map}
use Rattle.kap_base.specs.Points.{PointValue}
use Rattle.kap_base.specs.declared.items.Effect.{Effect}
use Rattle.node_core.specs.Meaning.{Answer}
use Rattle.store_records.specs.declared.task.Life.{Life}
use Rattle.task_run.proofs.CourseLaws.{effects_from_first, none-behind}
use Rattle.task_run.specs.Courses.{Course, course_effects_with, course_gives, from_first}
use Rattle.task_run.specs.Graphs.{Placed, gives_behind, stamped_from}
use Rattle.task_run.specs.Lives.{effects_of, node_effects_with}
use Rattle.task_run.specs.Merging.{stamps}
use Rattle.life_effects.specs.Effects.{course_of, courses_of, seen_by, stored_effects, up_to}
use Rattle.life_effects.specs.OpenAlone.{AreOpenAlone, IsAlone, of_open}

module _ {P : Type 0} (answer : P → Answer) where
  -- a life without points has done nothing
  nothing-seen : (s : ℕ) (points : List PointValue) (life : Life) (nodes : List (Placed P)) → seen_by life points ≡ [] → node_effects_with s (course_gives answer (course_of life nodes points)) ≡ []
  nothing-seen s points life nodes none =
      ap (λ (ps : List PointValue). node_effects_with s (gives_behind answer ((life.first - 1) + length ps) (stamped_from ((life.first - 1) + 1) ps) [] nodes)) none
      ∙ none-behind answer s ((life.first - 1) + 0) [] nodes tt

  -- one that is open has the course of a life that begins at the first point
  all-seen : (points : List PointValue) (life : Life) (nodes : List (Placed P)) → life.last ≡ None → life.first ≡ 1 → course_of life nodes points ≡ record { nodes = nodes; base = 0; points = points }
  all-seen points life nodes lasts first =
      let of : ℕ → List PointValue → Course P = λ base ps. record { nodes = nodes; base = base; points = ps } in
      ap (λ (f : ℕ). of (f - 1) (drop (f - 1) (up_to life.last points))) first ∙ ap (λ (l : Option ℕ). of 0 (up_to l points)) lasts

  one-more : (s : ℕ) (points : List PointValue) (life : Life) (nodes : List (Placed P)) (graphs : List (List (Placed P))) (rest : List Effect) (last : Option ℕ) → life.last ≡ last
      → IsAlone (not (is_some last)) points life
      → rest ≡ course_effects_with answer s (from_first points graphs)
      → node_effects_with s (course_gives answer (course_of life nodes points)) ++ rest ≡ course_effects_with answer s (from_first points (if not (is_some last) then nodes ∷ graphs else graphs))
  one-more s points life nodes graphs rest None lasts first e =
      ap (λ (c : Course P). node_effects_with s (course_gives answer c) ++ rest) (all-seen points life nodes lasts first)
      ∙ ap (λ (es : List Effect). node_effects_with s (course_gives answer (record { nodes = nodes; base = 0; points = points })) ++ es) e
  one-more s points life nodes graphs rest (Some last) is none e =
      ap (λ (es : List Effect). es ++ rest) (nothing-seen s points life nodes none) ∙ e

  with-alone : (s : ℕ) (points : List PointValue) (lives : List Life) (graphs : List (List (Placed P))) → AreOpenAlone points lives
      → course_effects_with answer s (courses_of lives graphs points) ≡ course_effects_with answer s (from_first points (of_open lives graphs))
  with-alone s points [] graphs alone = refl
  with-alone s points (life ∷ lives) [] alone = refl
  with-alone s points (life ∷ lives) (nodes ∷ graphs) alone =
      one-more s points life nodes (of_open lives graphs) (course_effects_with answer s (courses_of lives graphs points)) life.last refl alone.0 (with-alone s points lives graphs alone.1)

  by-stamps : (points : List PointValue) (lives : List Life) (graphs : List (List (Placed P))) (ss : List ℕ) → AreOpenAlone points lives
      → flat_map (λ s. course_effects_with answer s (courses_of lives graphs points)) ss ≡ flat_map (λ s. course_effects_with answer s (from_first points (of_open lives graphs))) ss
  by-stamps points lives graphs [] alone = refl
  by-stamps points lives graphs (s ∷ ss) alone =
      ap (λ (es : List Effect). es ++ flat_map (λ t. course_effects_with answer t (courses_of lives graphs points)) ss) (with-alone s points lives graphs alone)
      ∙ ap (λ (es : List Effect). course_effects_with answer s (from_first points (of_open lives graphs)) ++ es) (by-stamps points lives graphs ss alone)

  -- what such lives have done is what the open ones do that run side by side on all points
  pub alone_effects : (points : List PointValue) (lives : List Life) (graphs : List (List (Placed P))) → AreOpenAlone points lives
      → stored_effects answer lives graphs points ≡ effects_of answer (of_open lives graphs) points
  alone_effects points lives graphs alone = by-stamps points lives graphs (stamps (length points)) alone ∙ effects_from_first answer (of_open lives graphs) points
