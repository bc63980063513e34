-- What reading and writing make of a connection.
use Rattle.std.specs.Prelude.{◌≡◌, ℕ, List, Option, None}
use Rattle.http_dialog.specs.Dialogs.{DialogValue}
use Rattle.http_dialog.specs.declared.ending.LinkEnd.{LinkEnd}
use Rattle.http_dialog.specs.Links.{Goes, Connected}
use Rattle.kap_http.specs.Calls.{Call}

-- Wherever the connection came from, it goes on: what is left and what was written are told of the link before and
-- now. So these compose, over any number of reads, writes and polls.
abbrev pub GoesOn : Option (List ℕ) → Option (List ℕ) → Option (List ℕ) → Option (List ℕ) → DialogValue → DialogValue
    → Type 0
GoesOn left now_left written now_written old new =
    (number : ℕ) (l v : Option (List ℕ)) (s t : Option (List Call)) →
    Goes number l left s t v written old → Goes number l now_left s t v now_written new

-- the same, where bytes that came may be lost
abbrev pub GoesLost : Option (List ℕ) → Option (List ℕ) → Option (List ℕ) → Option (List ℕ) → DialogValue → Type 0
GoesLost left now_left written now_written old =
    (number : ℕ) (l v : Option (List ℕ)) (s t : Option (List Call)) → Goes number l left s t v written old
    → (new : DialogValue) × (new.ending ≡ None) × (new.due ≡ old.due) × Goes number l now_left s t v now_written new

-- The same of the connection with this number and of what its Serve tells. So steps and polls compose.
abbrev pub ComesOn : ℕ → Option (List ℕ) → Option (List ℕ) → Option (List Call) → Option (List Call)
    → Option (List ℕ) → Option (List ℕ) → DialogValue → DialogValue → Type 0
ComesOn number left now_left served now_served written now_written old new =
    (l v : Option (List ℕ)) (s : Option (List Call)) → Goes number l left s served v written old
    → Goes number l now_left s now_served v now_written new

-- wherever the connection came from, it has come to this end
abbrev pub ComesTo : ℕ → Option (List ℕ) → Option (List ℕ) → Option (List Call) → Option (List Call)
    → Option (List ℕ) → Option (List ℕ) → DialogValue → LinkEnd → Type 0
ComesTo number left now_left served now_served written now_written old ending =
    (l v : Option (List ℕ)) (s : Option (List Call)) → Goes number l left s served v written old
    → Connected number l now_left s now_served v now_written ending
