-- A disk of three files: what its calls do, and what a crash may leave between two syncs.
use Rattle.std.specs.Prelude.{◌≡◌, ◌⊎◌, ℕ, ◌+◌, ◌-◌, ◌≤◌, min, max, List, ◌++◌, length, take, drop, replicate}
use Rattle.kap_io.specs.declared.disk.Part.{Part}

-- the three files, as a read gives them or as a crash leaves them
abbrev pub Image : Type 0
Image = Part → List ℕ

-- a file with zeros up to this length
abbrev pub padded : ℕ → List ℕ → List ℕ
padded n file = file ++ replicate (n - length file) 0

-- a file after a write of these bytes at an offset; a gap behind the old end is filled with zeros
abbrev pub overwritten : ℕ → List ℕ → List ℕ → List ℕ
overwritten at piece file = take at (padded at file) ++ piece ++ drop (at + length piece) file

-- a file at this length; a gap behind the old end is filled with zeros
abbrev pub resized : ℕ → List ℕ → List ℕ
resized size file = take size (padded size file)

-- What a crash may leave of a write of n bytes: any bytes in the range and past the old end, the same bytes elsewhere,
-- and any length from the old one to that behind the write.
pub record Torn (at n : ℕ) (old new : List ℕ) : Type 0 where
  pub before : take (min at (length old)) new ≡ take at old
  pub after : drop (at + n) new ≡ drop (at + n) old
  pub no_shorter : length old ≤ length new
  pub no_longer : length new ≤ max (length old) (at + n)

-- What a crash may leave of a change of the length to n: any length between, and any bytes past the old end.
pub record Stretched (n : ℕ) (old new : List ℕ) : Type 0 where
  pub same : take (length old) new ≡ take (length new) old
  pub no_shorter : min n (length old) ≤ length new
  pub no_longer : length new ≤ max n (length old)

-- the other two files are as they were
abbrev pub Elsewhere : Part → Image → Image → Type 0
Elsewhere part old new = (q : Part) → (q ≡ part → ⊥) → new q ≡ old q

-- one file takes a step, and the other two stay
pub record On (part : Part) (becomes : List ℕ → List ℕ → Type 0) (old new : Image) : Type 0 where
  pub step : becomes (old part) (new part)
  pub elsewhere : Elsewhere part old new

-- an image that one of these becomes
pub record Reached (old : Image → Type 0) (becomes : Image → Image → Type 0) (new : Image) : Type 0 where
  pub origin : Image
  pub was : old origin
  pub how : becomes origin new

-- each image after a call is one from before it, with this step on one file
abbrev pub Follows : Part → (List ℕ → List ℕ → Type 0) → (Image → Type 0) → (Image → Type 0) → Type 0
Follows part becomes old new = (c : Image) → new c → Reached old (On part becomes) c

-- each image after a call was one before it
abbrev pub Narrows : (Image → Type 0) → (Image → Type 0) → Type 0
Narrows old new = (c : Image) → new c → old c

-- a crash leaves this in the file, and nothing else
abbrev pub OnlyIn : Part → List ℕ → (Image → Type 0) → Type 0
OnlyIn part file images = (c : Image) → images c → c part ≡ file

-- A call takes time. From its end on, a crash since some moment before it may have left what one until its start may
-- have left, or one of the images of now.
pub record Elapses (before now : ℕ) (past since : ℕ → Image → Type 0) (images : Image → Type 0) : Type 0 where
  pub later : before ≤ now
  pub nothing_else : (t : ℕ) (c : Image) → t ≤ before → since t c → past t c ⊎ images c
  pub keeps : (t : ℕ) (c : Image) → t ≤ before → past t c → since t c

-- what a read of a file places: its next bytes, and none only at its end or past it
pub record Places (at : ℕ) (file buf : List ℕ) (count : ℕ) : Type 0 where
  pub placed : take count buf ≡ take count (drop at file)
  pub within : at + count ≤ max at (length file)
  pub ends : count ≡ 0 → length file ≤ at
