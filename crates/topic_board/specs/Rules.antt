-- The rule of the book that holds the history of a board, and what its step tells.
use Rattle.std.specs.Prelude.{ℕ, ◌≡◌, ◌==◌, ◌<◌, true, List, [], ◌∷◌, ◌++◌, length, MatchBool}
use mathlib.Core.List.{IsPrefix}
use Rattle.logbook.specs.Pages.{Cell, Step, View, Book, Named}
use Rattle.topic_core.specs.declared.transition.Transition.{Transition}

-- The first word is the length of the history. A book has two words, of which this one leaves the second at 0.
pub record IsKept (cells : List Cell) (log : List Transition) : Type 0 where
  pub words : cells ≡ (length log, true) ∷ (0, true) ∷ []

-- the name of the first word of a book
abbrev pub head_of : Book → Named
head_of b = record { tracked = true; key = 0; book = b }

-- the transition was added to all that had been seen; or the history was longer, and was seen
abbrev pub Adds : Step Transition → View Transition ℕ → ℕ → View Transition ℕ → Type 0
Adds s v found w = MatchBool (found == s.old) (w.0 ≡ v.0 ++ s.ask ∷ []) (length w.0 ≡ found)

-- the second list begins with the first, and goes on
abbrev pub IsLonger : List Transition → List Transition → Type 0
IsLonger xs ys = IsPrefix xs ys × (length xs < length ys)
