-- The words of a command line.
use Rattle.std.specs.Prelude.{◌≡◌, ℕ, ◌≤◌, ⊤, Bool, true, false, not, ◌&&◌, ◌==◌, List, [], ◌∷◌, length, map, nat_le, slice_index, Option, Some, None, codes, string_bytes, if◌then◌else◌, IsTrue}
use Rattle.std.specs.Option.{option_and_then, option_map}
use Rattle.std.specs.Str.{bytes_eq}
use Rattle.kap_base.specs.Texts.{has_line_feed, hyphen, is_task_id}
use Rattle.line_points.specs.declared.line.TheConstants.{LINE_LIMIT}
use Rattle.sample_points.specs.declared.samples.TheConstants.{SAMPLE_LIMIT}
use Rattle.kap_server.specs.declared.options.ReplayOptions.{ReplayOptions}
use Rattle.kap_server.specs.declared.options.WriteOptions.{WriteOptions}
use Rattle.kap_server.specs.declared.words.Change.{Change}
use Rattle.kap_server.specs.declared.words.Change.TheVariants.{Enable, Disable, Delete}
use Rattle.kap_server.specs.declared.words.Listing.{Listing}
use Rattle.kap_server.specs.declared.words.Listing.TheVariants.{Tasks, Topics, Alerts, Export}
use Rattle.kap_server.specs.declared.words.Request.{Request as LentRequest}
use Rattle.kap_server.specs.declared.words.Request.TheVariants as lent
use Rattle.kap_server.specs.Options.{AreWithinLimits, AreWriteLimits, no_options, no_write_options, number_within, with_counts, with_value, with_write_value}

-- the id of a task, and its script
pub record Pair : Type 0 where
  pub id : List ℕ
  pub script : List ℕ

-- what the words of a command line ask for: to check a script; to replay a recording for these tasks, so as options
-- say; to write the sample recording of so many points, or the summary of its replay for these tasks; to make a store;
-- to list what one holds; to define a task by a script; to change a task; to write points to a database and policy; or
-- to compact a store
pub data Request : Type 0 where
  Check : Request
  Replay : (options : ReplayOptions) (pairs : List Pair) → Request
  Generate : (count : ℕ) → Request
  Summarize : (count : ℕ) (pairs : List Pair) → Request
  Init : Request
  Show : (listing : Listing) → Request
  Define : (id : List ℕ) → Request
  ChangeTask : (change : Change) (id : List ℕ) → Request
  Write : (options : WriteOptions) (db rp : List ℕ) → Request
  Compact : Request

-- words two by two
abbrev pub pairs_of : List (List ℕ) → List Pair
pairs_of [] = []
pairs_of (id ∷ []) = []
pairs_of (id ∷ script ∷ words) = record { id = id; script = script } ∷ pairs_of words

-- the same of words that are lent
abbrev pub request_of : LentRequest → Request
request_of lent.Check = Check
request_of (lent.Replay options words) = Replay options (pairs_of (map string_bytes words.now))
request_of (lent.Generate count) = Generate count
request_of (lent.Summarize count words) = Summarize count (pairs_of (map string_bytes words.now))
request_of lent.Init = Init
request_of (lent.Show listing) = Show listing
request_of (lent.Define id) = Define id.now
request_of (lent.Change change id) = ChangeTask change id.now
request_of (lent.Write options db rp) = Write options db.now rp.now
request_of lent.Compact = Compact

-- the word begins with `--`, as options do
abbrev pub is_option : List ℕ → Bool
is_option word = slice_index word 0 == hyphen && slice_index word 1 == hyphen

-- each word but each second one is the id of a task, and has one behind it
abbrev pub are_pairs : List (List ℕ) → Bool
are_pairs [] = true
are_pairs (id ∷ []) = false
are_pairs (id ∷ script ∷ words) = is_task_id id && are_pairs words

-- `ID SCRIPT [ID SCRIPT]..`, behind these options
abbrev pub request_of_pairs : ReplayOptions → List (List ℕ) → Option Request
request_of_pairs options words = if are_pairs words then Some (Replay options (pairs_of words)) else None

-- The same with further options before it, each at most once: `--counts`, or another one with its value. The first id
-- is no word that begins as an option does.
abbrev pub replay_request : ReplayOptions → List (List ℕ) → Option Request
replay_request options [] = None
replay_request options (word ∷ []) = if is_option word then None else request_of_pairs options (word ∷ [])
replay_request options (word ∷ value ∷ words) =
    if not (is_option word) then request_of_pairs options (word ∷ value ∷ words) else
    if bytes_eq word (codes "--counts")
    then option_and_then (λ o. replay_request o (value ∷ words)) (with_counts options)
    else option_and_then (λ o. replay_request o words) (with_value options word value)

-- the sample recording of so many points, where no words stand behind the number, else `ID SCRIPT [ID SCRIPT]..`
abbrev pub gen_of : Option ℕ → List (List ℕ) → Option Request
gen_of None words = None
gen_of (Some n) [] = Some (Generate n)
gen_of (Some n) (word ∷ words) = if are_pairs (word ∷ words) then Some (Summarize n (pairs_of (word ∷ words))) else None

-- the number of points, 1 to 1,000,000, and words behind it
abbrev pub gen_request : List (List ℕ) → Option Request
gen_request [] = None
gen_request (word ∷ words) = gen_of (number_within 1 SAMPLE_LIMIT word) words

-- this request, where no words stand behind its command
abbrev pub request_alone : Request → List (List ℕ) → Option Request
request_alone request [] = Some request
request_alone request (word ∷ words) = None

-- the id of a task, where it is the only word; no word that begins as an option does
abbrev pub id_in : List (List ℕ) → Option (List ℕ)
id_in [] = None
id_in (id ∷ []) = if is_task_id id && not (is_option id) then Some id else None
id_in (id ∷ word ∷ words) = None

-- `ID`
abbrev pub define_request : List (List ℕ) → Option Request
define_request words = option_map Define (id_in words)

-- the same for a task that is there
abbrev pub change_request : Change → List (List ℕ) → Option Request
change_request change words = option_map (ChangeTask change) (id_in words)

-- a word that can be a database, or a policy
abbrev pub is_database : List ℕ → Bool
is_database word = nat_le (length word) LINE_LIMIT && not (has_line_feed word)

-- to write points to this database and policy, where no words stand behind them
abbrev pub write_to : WriteOptions → List ℕ → List ℕ → List (List ℕ) → Option Request
write_to options db rp [] = if is_database db && is_database rp then Some (Write options db rp) else None
write_to options db rp (word ∷ words) = None

-- `DB RP`, behind further options with their values, each at most once. No database is a word that begins as an option
-- does.
abbrev pub write_request : WriteOptions → List (List ℕ) → Option Request
write_request options [] = None
write_request options (word ∷ []) = None
write_request options (word ∷ value ∷ words) =
    if not (is_option word) then write_to options word value words
    else option_and_then (λ o. write_request o words) (with_write_value options word value)

-- the request of a command that changes a store
abbrev pub change_in : List ℕ → List (List ℕ) → Option Request
change_in command words =
    if bytes_eq command (codes "define") then define_request words else
    if bytes_eq command (codes "enable") then change_request Enable words else
    if bytes_eq command (codes "disable") then change_request Disable words else
    if bytes_eq command (codes "delete") then change_request Delete words else
    if bytes_eq command (codes "write") then write_request no_write_options words else
    if bytes_eq command (codes "compact") then request_alone Compact words else None

-- what the words ask for, if they are those of a command
abbrev pub request_in : List (List ℕ) → Option Request
request_in [] = None
request_in (command ∷ words) =
    if bytes_eq command (codes "check") then request_alone Check words else
    if bytes_eq command (codes "replay") then replay_request no_options words else
    if bytes_eq command (codes "gen") then gen_request words else
    if bytes_eq command (codes "init") then request_alone Init words else
    if bytes_eq command (codes "tasks") then request_alone (Show Tasks) words else
    if bytes_eq command (codes "topics") then request_alone (Show Topics) words else
    if bytes_eq command (codes "alerts") then request_alone (Show Alerts) words else
    if bytes_eq command (codes "export") then request_alone (Show Export) words else
    change_in command words

-- a command that reads the input
abbrev pub reads_input : Option Request → Bool
reads_input None = false
reads_input (Some Check) = true
reads_input (Some (Replay options pairs)) = true
reads_input (Some (Generate n)) = false
reads_input (Some (Summarize n pairs)) = false
reads_input (Some Init) = false
reads_input (Some (Show listing)) = false
reads_input (Some (Define id)) = true
reads_input (Some (ChangeTask change id)) = false
reads_input (Some (Write options db rp)) = true
reads_input (Some Compact) = false

-- a command that writes to the output
abbrev pub writes_output : Option Request → Bool
writes_output None = false
writes_output (Some Check) = true
writes_output (Some (Replay options pairs)) = true
writes_output (Some (Generate n)) = true
writes_output (Some (Summarize n pairs)) = true
writes_output (Some Init) = false
writes_output (Some (Show listing)) = true
writes_output (Some (Define id)) = false
writes_output (Some (ChangeTask change id)) = false
writes_output (Some (Write options db rp)) = true
writes_output (Some Compact) = false

-- a command that uses the disk
abbrev pub uses_disk : Option Request → Bool
uses_disk None = false
uses_disk (Some Check) = false
uses_disk (Some (Replay options pairs)) = false
uses_disk (Some (Generate n)) = false
uses_disk (Some (Summarize n pairs)) = false
uses_disk (Some Init) = true
uses_disk (Some (Show listing)) = true
uses_disk (Some (Define id)) = true
uses_disk (Some (ChangeTask change id)) = true
uses_disk (Some (Write options db rp)) = true
uses_disk (Some Compact) = true

-- a command that has points go through a net
abbrev pub runs_net : Option Request → Bool
runs_net None = false
runs_net (Some Check) = false
runs_net (Some (Replay options pairs)) = true
runs_net (Some (Generate n)) = false
runs_net (Some (Summarize n pairs)) = true
runs_net (Some Init) = false
runs_net (Some (Show listing)) = false
runs_net (Some (Define id)) = false
runs_net (Some (ChangeTask change id)) = false
runs_net (Some (Write options db rp)) = true
runs_net (Some Compact) = false

-- the options that a request gives are within their limits, a number of points is one that a sample recording can have,
-- a task that is to be defined has an id, and a database and a policy are on one line
abbrev pub IsWithinLimits : LentRequest → Type 0
IsWithinLimits lent.Check = ⊤
IsWithinLimits (lent.Replay options words) = AreWithinLimits options
IsWithinLimits (lent.Generate count) = count ≤ SAMPLE_LIMIT
IsWithinLimits (lent.Summarize count words) = count ≤ SAMPLE_LIMIT
IsWithinLimits lent.Init = ⊤
IsWithinLimits (lent.Show listing) = ⊤
IsWithinLimits (lent.Define id) = IsTrue (is_task_id id.now)
IsWithinLimits (lent.Change change id) = ⊤
IsWithinLimits (lent.Write options db rp) =
    AreWriteLimits options × (has_line_feed db.now ≡ false) × (has_line_feed rp.now ≡ false)
IsWithinLimits lent.Compact = ⊤
