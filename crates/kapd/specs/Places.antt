-- The place before a command.
use Rattle.std.specs.Prelude.{ℕ, List, [], ◌∷◌, Option, Some, None, codes, if◌then◌else◌}
use Rattle.std.specs.Str.{bytes_eq}
use Rattle.kapd.specs.declared.places.Place.{Place as LentPlace}
use Rattle.kapd.specs.declared.places.Place.TheVariants as lent

-- where a store lies: nowhere but in memory, or in the folder of this path
pub data Place : Type 0 where
  Memory : Place
  Folder : (path : List ℕ) → Place

-- the same of a path that is lent
abbrev pub place_of : LentPlace → Place
place_of lent.Memory = Memory
place_of (lent.Folder path) = Folder path.now

-- the place that the words begin with, which is `-` for memory and else a path that isn't empty, and the words behind
-- it
abbrev pub place_in : List (List ℕ) → Option (Place × List (List ℕ))
place_in [] = None
place_in ([] ∷ words) = None
place_in ((byte ∷ bytes) ∷ words) =
    if bytes_eq (byte ∷ bytes) (codes "-") then Some (Memory, words) else Some (Folder (byte ∷ bytes), words)
