-- What reading all of the input gives.
use Rattle.std.specs.Prelude.{◌≡◌, ℕ, ◌<◌, ◌≤◌, List, length, Option, IfSome}
use Rattle.std.specs.Io.KnownBytes.{Consumes}
use Rattle.kap_base.specs.declared.limits.TheConstants.{SCRIPT_LIMIT}

-- this is all that was left of the input
abbrev pub IsAll : Option (List ℕ) → List ℕ → Type 0
IsAll s text = IfSome s (λ input. input ≡ text)

module _ (limit : ℕ) where
  -- it has so many bytes at most
  abbrev pub IsWithin : List ℕ → Type 0
  IsWithin text = length text ≤ limit

  -- more was left of the input
  abbrev pub IsBeyond : Option (List ℕ) → Type 0
  IsBeyond s = IfSome s (λ input. limit < length input)

  -- no more bytes were read
  pub record ReadsWithin (s t : Option (List ℕ)) : Type 0 where
    pub got : List ℕ
    pub took : Consumes s t got
    pub few : IsWithin got

-- a script may have so many bytes
abbrev pub IsShort : List ℕ → Type 0
IsShort text = IsWithin SCRIPT_LIMIT text

-- more was left of the input than a script may have
abbrev pub IsLong : Option (List ℕ) → Type 0
IsLong s = IsBeyond SCRIPT_LIMIT s

-- no more bytes were read than a script may have
abbrev pub ReadsFew : Option (List ℕ) → Option (List ℕ) → Type 0
ReadsFew s t = ReadsWithin SCRIPT_LIMIT s t
