-- What the bytes of a log stand for.
use Rattle.std.specs.Prelude.{◌≡◌, ◌⊎◌, ℕ, ◌+◌, ◌<◌, ◌≤◌, ◌^◌, List, [], ◌∷◌, ◌++◌, length, take}
use Rattle.std.specs.Int.{w32, to_be_bytes}
use Rattle.std.specs.List.{flat_map}

-- the bytes that a log begins with, `KAPLOG01`
abbrev pub magic : List ℕ
magic = 75 ∷ 65 ∷ 80 ∷ 76 ∷ 79 ∷ 71 ∷ 48 ∷ 49 ∷ []

-- a length as four bytes, the high one first
unfoldable pub size_bytes : ℕ → List ℕ
size_bytes n = to_be_bytes w32 n

-- a record: an open gate, the body's length, and the body
abbrev pub record_of : List ℕ → List ℕ
record_of body = 165 ∷ size_bytes (length body) ++ body

-- a log up to its closed gate
abbrev pub bytes_of : List (List ℕ) → List ℕ
bytes_of bodies = magic ++ flat_map record_of bodies

-- the length of each body has four bytes
abbrev pub Fit : List (List ℕ) → Type 0
Fit [] = Unit {0}
Fit (body ∷ bodies) = (length body < 2 ^ 32) × Fit bodies

-- The bytes are a log of these bodies: records behind open gates, and a closed gate with anything behind it. A gate is
-- open only where its byte is 0xA5.
pub record IsLog (bodies : List (List ℕ)) (bytes : List ℕ) : Type 0 where
  pub gate : ℕ
  pub rest : List ℕ
  pub is : bytes ≡ bytes_of bodies ++ gate ∷ rest
  pub closed : gate ≡ 165 → ⊥
  pub fit : Fit bodies

-- the bytes are a log of the bodies, with one more or without it
abbrev pub IsBeforeOrAfter : List (List ℕ) → List ℕ → List ℕ → Type 0
IsBeforeOrAfter bodies body bytes = IsLog bodies bytes ⊎ IsLog (bodies ++ body ∷ []) bytes

-- the first eight bytes differ, or there is no ninth byte
abbrev pub IsHeaderless : List ℕ → Type 0
IsHeaderless bytes = (length bytes < 9) ⊎ (take 8 bytes ≡ magic → ⊥)

-- what is behind an open gate is too short for a record and the next gate
abbrev pub IsShort : List ℕ → Type 0
IsShort rest = (length rest < 4) ⊎ ((n : ℕ) × (n < 2 ^ 32) × (take 4 rest ≡ size_bytes n) × (length rest ≤ 4 + n))

-- the record whose open gate stands at this offset, or the gate behind it, runs past the end
pub record IsTorn (offset : ℕ) (bytes : List ℕ) : Type 0 where
  pub bodies : List (List ℕ)
  pub rest : List ℕ
  pub is : bytes ≡ bytes_of bodies ++ 165 ∷ rest
  pub at : offset ≡ length (bytes_of bodies)
  pub fit : Fit bodies
  pub short : IsShort rest
