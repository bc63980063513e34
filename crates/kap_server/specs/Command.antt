-- What a command answers, and when.
use Rattle.std.specs.Prelude.{◌≡◌, ◌⊎◌, ℕ, ◌<◌, ◌≤◌, Bool, true, false, List, length, Option, None, Some}
use Rattle.kap_base.specs.Words.{HasRisen}
use Rattle.kap_base.specs.declared.limits.TheConstants.{TASK_LIMIT}
use Rattle.kap_server.specs.declared.options.ReplayOptions.{ReplayOptions}
use Rattle.kap_server.specs.declared.status.Status.{Status}
use Rattle.kap_server.specs.declared.status.Status.TheVariants.{Ok, NotStore, NoTask, NoMemory, ReadFault, WriteFault, DiskFault}
use Rattle.kap_server.specs.declared.words.Listing.{Listing}
use Rattle.kap_server.specs.declared.options.WriteOptions.{WriteOptions}
use Rattle.kap_server.specs.declared.words.Change.{Change}
use Rattle.kap_server.specs.Words.{ChangeTask, Check, Compact, Define, Generate, Init, Pair, Replay, Request, Show, Summarize, Write, request_in}

-- this status comes exactly where the fact holds, but for want of memory
pub record ExactlyWhere (result status : Status) (fact : Type 0) : Type 0 where
  pub only : result ≡ status → fact
  pub always : fact → (result ≡ status) ⊎ (result ≡ NoMemory)

-- the words ask for a check of a script
abbrev pub AsksToCheck : List (List ℕ) → Type 0
AsksToCheck words = request_in words ≡ Some Check

-- the words ask for a replay for these tasks, which aren't too many, so as these options say
pub record AsksToReplay (words : List (List ℕ)) (options : ReplayOptions) (pairs : List Pair) : Type 0 where
  pub asks : request_in words ≡ Some (Replay options pairs)
  pub few : length pairs ≤ TASK_LIMIT

-- the words ask for a replay for more tasks than there may be
pub record ReplaysTooMany (words : List (List ℕ)) : Type 0 where
  pub options : ReplayOptions
  pub pairs : List Pair
  pub asks : request_in words ≡ Some (Replay options pairs)
  pub many : TASK_LIMIT < length pairs

-- the words ask for a summary for more tasks than there may be
pub record SummarizesTooMany (words : List (List ℕ)) : Type 0 where
  pub count : ℕ
  pub pairs : List Pair
  pub asks : request_in words ≡ Some (Summarize count pairs)
  pub many : TASK_LIMIT < length pairs

-- the words ask for one of these for more tasks than there may be
abbrev pub AsksForTooMany : List (List ℕ) → Type 0
AsksForTooMany words = ReplaysTooMany words ⊎ SummarizesTooMany words

-- the words ask for the sample recording of so many points
abbrev pub AsksToGenerate : List (List ℕ) → ℕ → Type 0
AsksToGenerate words n = request_in words ≡ Some (Generate n)

-- the words ask for the summary of its replay for these tasks, which aren't too many
pub record AsksToSummarize (words : List (List ℕ)) (n : ℕ) (pairs : List Pair) : Type 0 where
  pub asks : request_in words ≡ Some (Summarize n pairs)
  pub few : length pairs ≤ TASK_LIMIT

-- the words ask for a new store
abbrev pub AsksToInit : List (List ℕ) → Type 0
AsksToInit words = request_in words ≡ Some Init

-- the words ask for this list of what a store holds
abbrev pub AsksToShow : List (List ℕ) → Listing → Type 0
AsksToShow words listing = request_in words ≡ Some (Show listing)

-- the words ask for the definition of a task with this id
abbrev pub AsksToDefine : List (List ℕ) → List ℕ → Type 0
AsksToDefine words id = request_in words ≡ Some (Define id)

-- the words ask for this change of a task with this id
abbrev pub AsksToChange : List (List ℕ) → Change → List ℕ → Type 0
AsksToChange words change id = request_in words ≡ Some (ChangeTask change id)

-- the words ask to write points to this database and policy, so as these options say
abbrev pub AsksToWrite : List (List ℕ) → WriteOptions → List ℕ → List ℕ → Type 0
AsksToWrite words options db rp = request_in words ≡ Some (Write options db rp)

-- the words ask for the compaction of a store
abbrev pub AsksToCompact : List (List ℕ) → Type 0
AsksToCompact words = request_in words ≡ Some Compact

-- a command that defines a task
abbrev pub defines : Option Request → Bool
defines None = false
defines (Some (Define id)) = true
defines (Some other) = false

-- a command that opens a store to change it
abbrev pub changes_store : Option Request → Bool
changes_store None = false
changes_store (Some (Define id)) = true
changes_store (Some (ChangeTask change id)) = true
changes_store (Some (Write options db rp)) = true
changes_store (Some Compact) = true
changes_store (Some other) = false

-- the answer is this status, unless memory ran out or a device failed
abbrev pub IsUnlessFailed : Status → Status → Type 0
IsUnlessFailed result status =
    (result ≡ status) ⊎ ((result ≡ NoMemory) ⊎ ((result ≡ ReadFault) ⊎ (result ≡ WriteFault)))

-- the answer is this status, unless memory ran out or the disk failed
abbrev pub IsUnlessDiskFailed : Status → Status → Type 0
IsUnlessDiskFailed result status = (result ≡ status) ⊎ ((result ≡ NoMemory) ⊎ (result ≡ DiskFault))

-- memory ran out, or a device failed
abbrev pub HasFailed : Status → Type 0
HasFailed result =
    (result ≡ NoMemory) ⊎ ((result ≡ ReadFault) ⊎ ((result ≡ WriteFault) ⊎ (result ≡ DiskFault)))

-- a place is told, and a pattern was refused, whose count is before and after
abbrev pub IsToldRefused : ℕ → ℕ → Status → Type 0
IsToldRefused before after (NotStore part offset) = HasRisen before after
IsToldRefused before after other = ⊥

-- the answer is this status, unless memory ran out, a device failed, or a pattern of a script of the store was refused
abbrev pub IsUnlessStopped : ℕ → ℕ → Status → Status → Type 0
IsUnlessStopped before after result status = (result ≡ status) ⊎ (HasFailed result ⊎ IsToldRefused before after result)

-- the status of a change of a task: whether some task of the store has the id
abbrev pub change_status : Bool → Status
change_status true = Ok
change_status false = NoTask
