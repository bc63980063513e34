-- A loop of links: which are open, and how many were added.
use Rattle.std.specs.Prelude.{◌≡◌, ◌⊎◌, ℕ, ◌+◌, ◌≤◌, ◌<◌, Bool, false, ◌||◌, ◌==◌, ⊤, List, [], ◌∷◌, ◌++◌, length, All, Result, Ok, Err}
use Rattle.std.specs.List.{list_any}
use Rattle.http_dialog.specs.Dialogs.{fresh}
use Rattle.conn_loop.specs.declared.finished.AddFault.{AddFault}
use Rattle.conn_loop.specs.declared.finished.AddFault.TheVariants as faults
use Rattle.conn_loop.specs.declared.slot.Slot.{Slot}

-- the open links in order of their numbers, how many links were added, and how many can be open at once
pub record LoopState (L : Type 0) : Type 0 where
  pub links : List (Slot L)
  pub added : ℕ
  pub limit : ℕ

-- a link that was just added
abbrev pub new_link : {L : Type 0} → ℕ → L → Slot L
new_link number link = record { number = number; link = link; dialog = fresh; woken = false }

-- as many links are open as there can be, or as many were added as there are numbers
abbrev pub IsFull : {L : Type 0} → LoopState L → Type 0
IsFull loop = (loop.limit ≤ length loop.links) ⊎ (loop.added ≡ 4294967295)

-- the link is polled in a turn of these numbers
abbrev pub is_due : {L : Type 0} → List ℕ → Slot L → Bool
is_due ready slot = slot.woken || list_any (λ n. n == slot.number) ready

-- all have greater numbers
abbrev pub AreAbove : {L : Type 0} → ℕ → List (Slot L) → Type 0
AreAbove number slots = All (λ s. number < s.number) slots

-- the numbers rise
unfoldable pub AreRising : {L : Type 0} → List (Slot L) → Type 0
AreRising [] = ⊤
AreRising (s ∷ slots) = AreAbove s.number slots × AreRising slots

-- all have smaller numbers
abbrev pub AreBelow : {L : Type 0} → ℕ → List (Slot L) → Type 0
AreBelow number slots = All (λ s. s.number < number) slots

-- The link was added behind the others, and its number is how many were added before. Full comes exactly where the
-- loop is full, and each fault gives the link back and changes nothing.
abbrev pub Adds : {L : Type 0} → L → LoopState L → LoopState L → Result ℕ (AddFault L) → Type 0
Adds link old new (Ok number) =
    (number ≡ old.added) × (new.links ≡ old.links ++ new_link number link ∷ []) × (new.added ≡ old.added + 1)
    × (new.limit ≡ old.limit) × (IsFull old → ⊥)
Adds link old new (Err (faults.Full back)) = (back ≡ link) × (new ≡ old) × IsFull old
Adds link old new (Err (faults.NoMemory back)) = (back ≡ link) × (new ≡ old) × (IsFull old → ⊥)

-- What holds of a loop: the numbers of its open links rise, and are below that of the next one; no more are open than
-- can be, of which there are 1,024 at most.
pub record IsLoop {L : Type 0} (slots : List (Slot L)) (added limit : ℕ) : Type 0 where
  pub rising : AreRising slots
  pub below : AreBelow added slots
  pub most : length slots ≤ limit
  pub bound : limit ≤ 1024
