-- What some lives tell, made ready before what others tell is known, and the text of all.
use Rattle.std.specs.Prelude.{ℕ, zero, suc, ◌≡◌, ◌+◌, ◌==◌, if◌then◌else◌, List, [], ◌∷◌, ◌++◌, drop, length, map, take, Option, None, Some}
use Rattle.std.specs.List.{AllByRecursion as Each, flat_map}
use Rattle.std.specs.Option.{option_to_list}
use Rattle.kap_base.specs.declared.items.Effect.{Effect}
use Rattle.kap_base.specs.Events.{EventValue}
use Rattle.kap_base.specs.declared.items.What.{What}
use Rattle.kap_base.specs.declared.items.What.TheVariants as what
use Rattle.topic_core.specs.Print.{transition_line}
use Rattle.topic_core.specs.Topics.{StandsFor, TopicsValue}
use Rattle.effect_text.specs.declared.names.TaskNames.{TaskNames}
use Rattle.effect_text.specs.declared.printing.Piece.{Piece}
use Rattle.effect_text.specs.Lines.{id_of, new_transitions, node_of, out_line}

-- An effect as it is told: its stamp, its line where it logs a point, and its event where it is one. The lines of an
-- event's transition are left open, since they need all events before it.
pub record PieceValue : Type 0 where
  pub stamp : ℕ
  pub line : List ℕ
  pub event : Option EventValue

-- the line of an effect that logs a point
abbrev pub point_line : List ℕ → List ℕ → What → List ℕ
point_line id node (what.Line p) = out_line id node p
point_line id node (what.Event e) = []

-- the event of one that isn't a logged point
abbrev pub told_event : What → Option EventValue
told_event (what.Line p) = None
told_event (what.Event e) = Some e

-- an effect as it is told, with the names of its task and its node
abbrev pub piece_of : List TaskNames → Effect → PieceValue
piece_of tasks e = record {
  stamp = e.stamp.0;
  line = point_line (id_of tasks e.life) (node_of tasks e.life e.node) e.what;
  event = told_event e.what;
}

-- the pieces that are kept as one text of all lines, with the size of each
abbrev pub pieces_in : List ℕ → List Piece → List PieceValue
pieces_in lines [] = []
pieces_in lines (p ∷ pieces) =
    record { stamp = p.stamp; line = take p.size lines; event = p.event } ∷ pieces_in (drop p.size lines) pieces

-- how many bytes the lines of pieces have
abbrev pub sizes : List Piece → ℕ
sizes [] = 0
sizes (p ∷ pieces) = p.size + sizes pieces

-- these are all bytes
abbrev pub AreCut : List ℕ → List Piece → Type 0
AreCut lines pieces = length lines ≡ sizes pieces

-- the lines of the transition that an event makes behind these events
abbrev pub event_lines : List EventValue → Option EventValue → List ℕ
event_lines events None = []
event_lines events (Some e) = flat_map transition_line (new_transitions events e)

-- the events of pieces
abbrev pub events_told : List PieceValue → List EventValue
events_told pieces = flat_map (λ p. option_to_list p.event) pieces

-- the text of pieces that come behind these events
unfoldable pub pieces_text : List EventValue → List PieceValue → List ℕ
pieces_text events [] = []
pieces_text events (p ∷ pieces) =
    (p.line ++ event_lines events p.event) ++ pieces_text (events ++ option_to_list p.event) pieces

-- Behind any events for which topics stand, their text goes on by that of pieces, and the topics take their events.
pub record Tells (topics : TopicsValue) (text : List ℕ) (after : TopicsValue) (longer : List ℕ)
    (pieces : List PieceValue) : Type 0 where
  pub lines : (events : List EventValue) → StandsFor events topics → longer ≡ text ++ pieces_text events pieces
  pub takes : (events : List EventValue) → StandsFor events topics → StandsFor (events ++ events_told pieces) after

-- what comes with the k stamps above n, stamp by stamp
unfoldable pub by_stamp : {A : Type 0} → ℕ → ℕ → (ℕ → List A) → List A
by_stamp n zero f = []
by_stamp n (suc k) f = f (suc n) ++ by_stamp (suc n) k f

-- the effects that come with a stamp have it
abbrev pub HaveTheirStamps : (ℕ → List Effect) → Type 0
HaveTheirStamps f = (s : ℕ) → Each (λ e. e.stamp.0 ≡ s) (f s)

-- of some lives and of others, what comes with a stamp: that of the first, and then that of the next ones
abbrev pub side_by_side : {A : Type 0} → List (ℕ → List A) → ℕ → List A
side_by_side fs s = flat_map (λ f. f s) fs

module _ {A : Type 0} (stamp_of : A → ℕ) where
  -- those at the front of a list that have a stamp
  unfoldable pub front_with : ℕ → List A → List A
  front_with s [] = []
  front_with s (x ∷ xs) = if stamp_of x == s then x ∷ front_with s xs else []

  -- those behind them
  unfoldable pub behind_with : ℕ → List A → List A
  behind_with s [] = []
  behind_with s (x ∷ xs) = if stamp_of x == s then behind_with s xs else x ∷ xs

  -- lists merged by the k stamps above n: with each stamp what the first has at its front, and then the next ones
  unfoldable pub merged : ℕ → ℕ → List (List A) → List A
  merged n zero lists = []
  merged n (suc k) lists = flat_map (front_with (suc n)) lists ++ merged (suc n) k (map (behind_with (suc n)) lists)
