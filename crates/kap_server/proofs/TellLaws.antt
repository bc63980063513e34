-- The text of what nodes do on further points.
use Rattle.std.proofs.Common.{◌≡◌, ℕ, suc, List, [], ◌∷◌, ◌++◌, length, map, refl, sym, ap, ◌∙◌, append_assoc, append-nil}
use Rattle.std.specs.List.{sum_by}
use Rattle.std.proofs.lemmas.Grind.{flat_map-append}
use Rattle.kap_base.specs.Points.{PointValue}
use Rattle.kap_base.specs.declared.items.Effect.{Effect}
use Rattle.node_core.specs.Cut.{IsStamped}
use Rattle.node_core.specs.Meaning.{Answer, Input}
use Rattle.effect_text.specs.Lines.{event_in, events_of, text_behind, text_of}
use Rattle.effect_text.proofs.TextLaws.{text_more}
use Rattle.effect_text.specs.declared.names.TaskNames.{TaskNames}
use Rattle.effect_text.specs.Pieces.{PieceValue, by_stamp, piece_of, side_by_side}
use Rattle.task_run.specs.Courses.{from_first, later_effects}
use Rattle.task_run.specs.Graphs.{Placed}
use Rattle.task_run.specs.Lives.{effects_of, life_effects_with}
use Rattle.net_run.proofs.EpochLaws.{effects_later}
use Rattle.kap_server.proofs.PartLaws.{parts_later, told_count}
use Rattle.kap_server.specs.Parts.{IsToldInParts, does_with}
use Rattle.kap_server.specs.Replaying.{AddsText, Grows}
use Rattle.kap_server.specs.Runs.{run_text}

module _ {P : Type 0} (answer : P → Answer) (names : List TaskNames) (lives : List (List (Placed P))) where
  -- of no points there is no text
  pub text_none : run_text answer names lives [] ≡ []
  unfolding text_behind
  text_none = refl

  -- the effects of one point more
  abbrev next : List PointValue → PointValue → List Effect
  next points p = life_effects_with answer (suc (length points)) lives (points ++ p ∷ [])

  -- they stand behind those of the others
  abbrev pub GoesOn : Type 0
  GoesOn = (points : List PointValue) (p : PointValue) → effects_of answer lives (points ++ p ∷ []) ≡ effects_of answer lives points ++ next points p

  -- further effects of these points go on from those of the others
  abbrev pub GoBehind : List PointValue → List PointValue → List Effect → Type 0
  GoBehind points new effects = effects_of answer lives (points ++ new) ≡ effects_of answer lives points ++ effects

  -- the lines of further effects
  abbrev lines_of : List PointValue → List Effect → List ℕ
  lines_of points effects = text_behind names (events_of (effects_of answer lives points)) effects

  text_next : (points new : List PointValue) (effects : List Effect) → GoBehind points new effects → run_text answer names lives (points ++ new) ≡ run_text answer names lives points ++ lines_of points effects
  text_next points new effects on = ap (text_of names) on ∙ text_more names [] (effects_of answer lives points) effects

  -- their lines are the text of the points behind that of the others
  pub adds_text : (points new : List PointValue) (effects : List Effect) (due due_after : List ℕ) → GoBehind points new effects → due_after ≡ due ++ lines_of points effects
      → AddsText (run_text answer names lives) points new due due_after
  adds_text points new effects due due_after on added = record {
    lines = lines_of points effects;
    added = added;
    are = text_next points new effects on;
  }

  -- no points add nothing
  pub adds_none : (points new : List PointValue) (due : List ℕ) → new ≡ [] → AddsText (run_text answer names lives) points new due due
  adds_none points new due none = record {
    lines = [];
    added = sym (append-nil due);
    are = ap (λ (l : List PointValue). run_text answer names lives (points ++ l)) none ∙ ap (run_text answer names lives) (append-nil points) ∙ sym (append-nil (run_text answer names lives points));
  }

  pub events_next : (points new : List PointValue) (effects : List Effect) → GoBehind points new effects
      → events_of (effects_of answer lives (points ++ new)) ≡ events_of (effects_of answer lives points) ++ events_of effects
  events_next points new effects on = ap events_of on ∙ flat_map-append (λ e. event_in e.what) (effects_of answer lives points) effects

  pub grows : GoesOn → Grows (run_text answer names lives)
  grows on points [] = ([], ap (run_text answer names lives) (append-nil points) ∙ sym (append-nil (run_text answer names lives points)))
  grows on points (p ∷ others) =
      let g = grows on (points ++ p ∷ []) others in
      let text : List PointValue → List ℕ = run_text answer names lives in (
        lines_of points (next points p) ++ g.0,
        ap text (sym (append_assoc points (p ∷ []) others)) ∙ g.1 ∙ ap (λ (l : List ℕ). l ++ g.0) (text_next points (p ∷ []) (next points p) (on points p)) ∙ append_assoc (text points) (lines_of points (next points p)) g.0,
      )

-- ---- lives that are told in parts, by stamp, from the first new one on

module _ {P : Type 0} (answer : P → Answer) (names : List TaskNames) (lives : List (List (Placed P))) (points new : List PointValue) (told : List (List PieceValue)) (t : IsToldInParts answer names points new lives told)
    (from count : ℕ) where
  -- what each part does with a stamp
  abbrev pub done_by_parts : List (ℕ → List Effect)
  done_by_parts = map (does_with answer names (points ++ new)) t.parts

  -- what all do, in the order of effects
  abbrev pub effects_in_parts : List Effect
  effects_in_parts = by_stamp from count (side_by_side done_by_parts)

  pub told_by_stamp : from ≡ length points → count ≡ length new → told ≡ map (λ f. map (piece_of names) (by_stamp from count f)) done_by_parts
  told_by_stamp first many = rw (first, many) t.is

  -- it goes on from the effects of the other points
  pub parts_behind : (life number : P → ℕ) → ((p : P) (before : List Input) (x : Input) → IsStamped (life p) (number p) x.1.stamp.0 (answer p before x)) → from ≡ length points → count ≡ length new
      → GoBehind answer names lives points new effects_in_parts
  parts_behind life number stamped first many =
      let later : effects_in_parts ≡ later_effects answer (length points) (length new) (from_first (points ++ new) lives) =
      rw (first, many) (parts_later answer (length points) (length new) (points ++ new) t.parts)
      ∙ ap (λ (ls : List (List (Placed P))). later_effects answer (length points) (length new) (from_first (points ++ new) ls)) (sym t.are) in
      effects_later answer life number stamped points new lives ∙ ap (λ (es : List Effect). effects_of answer lives points ++ es) (sym later)

  -- as many as the parts tell in all
  pub parts_count : from ≡ length points → count ≡ length new → sum_by length told ≡ length effects_in_parts
  parts_count first many =
      ap (sum_by length) (told_by_stamp first many) ∙ told_count (piece_of names) from count done_by_parts
