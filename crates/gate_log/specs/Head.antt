-- The head of a store: its first bytes, and gates. The length of the leading run of open ones tells which log is the
-- current one.
use Rattle.std.specs.Prelude.{◌≡◌, ◌⊎◌, ℕ, ◌+◌, ◌<◌, List, [], ◌∷◌, ◌++◌, length, take, drop, replicate, Result}
use Rattle.std.specs.declared.result.Result.TheVariants.{Ok, Err}
use Rattle.kap_io.specs.Disk.{Image, OnlyIn}
use Rattle.kap_io.specs.declared.disk.Part.TheVariants as part
use Rattle.gate_log.specs.declared.fault.LogFault.{LogFault}
use Rattle.gate_log.specs.declared.fault.LogFault.TheVariants.{Header, DiskFault}

-- the bytes that a head begins with, `KAPHEAD1`
abbrev pub head_magic : List ℕ
head_magic = 75 ∷ 65 ∷ 80 ∷ 72 ∷ 69 ∷ 65 ∷ 68 ∷ 49 ∷ []

-- the first gate is closed; a missing one is
abbrev pub BeginsClosed : List ℕ → Type 0
BeginsClosed [] = Unit {0}
BeginsClosed (gate ∷ rest) = gate ≡ 165 → ⊥

-- a head whose gates begin with this many open ones
pub record IsHead (run : ℕ) (bytes : List ℕ) : Type 0 where
  pub rest : List ℕ
  pub is : bytes ≡ head_magic ++ (replicate run 165 ++ rest)
  pub ends : BeginsClosed rest

-- the head has this run, and a crash leaves what is read of it
pub record IsSettledHead (run : ℕ) (seen : Image) (images : Image → Type 0) : Type 0 where
  pub head : IsHead run (seen part.Head)
  pub durable : OnlyIn part.Head (seen part.Head) images

-- the first eight bytes differ, or aren't all there
abbrev pub HasNoHead : List ℕ → Type 0
HasNoHead bytes = (length bytes < 8) ⊎ (take 8 bytes ≡ head_magic → ⊥)

-- what stands at its begin, as it was found
abbrev pub StartsHead : List ℕ → Result ℕ LogFault → Type 0
StartsHead file (Ok size) = (size ≡ length file) × (take 8 file ≡ head_magic)
StartsHead file (Err Header) = HasNoHead file
StartsHead file (Err DiskFault) = Unit {0}
StartsHead file (Err _) = ⊥

-- what reading the head finds
abbrev pub HeadRead : List ℕ → Result ℕ LogFault → Type 0
HeadRead file (Ok run) = IsHead run file
HeadRead file (Err Header) = HasNoHead file
HeadRead file (Err DiskFault) = Unit {0}
HeadRead file (Err _) = ⊥

-- the run is found, unless the disk failed
abbrev pub RunIs : ℕ → Result ℕ LogFault → Type 0
RunIs run (Ok found) = found ≡ run
RunIs run (Err DiskFault) = Unit {0}
RunIs run (Err _) = ⊥

-- this many gates are open
abbrev pub RunSoFar : ℕ → List ℕ → Type 0
RunSoFar run file = file ≡ head_magic ++ (replicate run 165 ++ drop (8 + run) file)

-- the run, or one gate more
abbrev pub IsRunOrNext : ℕ → List ℕ → Type 0
IsRunOrNext run file = IsHead run file ⊎ IsHead (run + 1) file

-- a head whose first closed gate is there
pub record IsGated (run : ℕ) (bytes : List ℕ) : Type 0 where
  pub gate : ℕ
  pub more : List ℕ
  pub is : bytes ≡ (head_magic ++ replicate run 165) ++ gate ∷ more
  pub closed : gate ≡ 165 → ⊥
