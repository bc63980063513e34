-- The words behind `serve`.
use Rattle.std.specs.Prelude.{ℕ, Bool, true, false, not, ◌&&◌, ◌||◌, ◌==◌, List, [], ◌∷◌, Option, Some, None, is_some, codes, if◌then◌else◌, option_and_then}
use Rattle.std.specs.Str.{bytes_eq}
use Rattle.std.specs.Option.{option_map_or}
use Rattle.word_numbers.specs.Numbers.{number_within}
use Rattle.serve_words.specs.declared.lines.Seen.{Seen}

-- no option
abbrev pub nothing_seen : Seen
nothing_seen = record { addr = false; seats = false; idle = false; single = false }

-- what may be HOST:PORT: it isn't empty, and doesn't begin with `-`
abbrev pub is_address : List ℕ → Bool
is_address [] = false
is_address (byte ∷ bytes) = not (byte == 45)

-- with an address, where none was given before
abbrev pub with_addr : Seen → List ℕ → Option Seen
with_addr seen value = if seen.addr || not (is_address value) then None
    else Some (record { addr = true; seats = seen.seats; idle = seen.idle; single = seen.single })

-- with a number of seats, 1 to 64, where none was given before
abbrev pub with_seats : Seen → List ℕ → Option Seen
with_seats seen value = if seen.seats || not (is_some (number_within 1 64 value)) then None
    else Some (record { addr = seen.addr; seats = true; idle = seen.idle; single = seen.single })

-- with a number of seconds, 1 to 3,600, where none was given before
abbrev pub with_idle : Seen → List ℕ → Option Seen
with_idle seen value = if seen.idle || not (is_some (number_within 1 3600 value)) then None
    else Some (record { addr = seen.addr; seats = seen.seats; idle = true; single = seen.single })

-- with `--single`, where it wasn't given before
abbrev pub with_single : Seen → Option Seen
with_single seen = if seen.single then None
    else Some (record { addr = seen.addr; seats = seen.seats; idle = seen.idle; single = true })

-- with the option of this name and this value, where it is one and wasn't given before
abbrev pub with_value : Seen → List ℕ → List ℕ → Option Seen
with_value seen name value =
    if bytes_eq name (codes "--addr") then with_addr seen value else
    if bytes_eq name (codes "--seats") then with_seats seen value else
    if bytes_eq name (codes "--idle") then with_idle seen value else None

-- with all options of the words: `--single` alone, and each other one with its value behind it
abbrev pub seen_in : Seen → List (List ℕ) → Option Seen
seen_in seen [] = Some seen
seen_in seen (word ∷ []) = if bytes_eq word (codes "--single") then with_single seen else None
seen_in seen (word ∷ value ∷ words) = if bytes_eq word (codes "--single")
    then option_and_then (λ s. seen_in s (value ∷ words)) (with_single seen)
    else option_and_then (λ s. seen_in s words) (with_value seen word value)

-- an address is given, and not both seats and `--single`
abbrev pub is_whole : Seen → Bool
is_whole seen = seen.addr && not (seen.seats && seen.single)

-- the words are those of a service: its options, each at most once, in any order
abbrev pub is_serve_line : List (List ℕ) → Bool
is_serve_line words = option_map_or is_whole (seen_in nothing_seen words) false
