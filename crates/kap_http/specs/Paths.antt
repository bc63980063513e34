-- Targets: their path, part by part, and where it leads.
use Rattle.std.specs.Prelude.{ℕ, ◌+◌, Bool, true, false, ◌==◌, List, [], ◌∷◌, drop, Option, Some, None, option_and_then, codes, bytes_eq, if◌then◌else◌}
use Rattle.std.specs.List.{position_or_len, before_first}
use Rattle.form_urlencoded.specs.Form.{split}
use Rattle.percent_encoding.specs.Percent.{percent_decode}
use Rattle.kap_http.specs.declared.limits.TheConstants.{BODY_LIMIT, WRITE_LIMIT}
use Rattle.kap_http.specs.declared.path.Place.{Place}
use Rattle.kap_http.specs.declared.path.Place.TheVariants as places

-- the byte `/`
abbrev pub slash : ℕ
slash = 47

-- the byte is a `/`
abbrev pub is_slash : ℕ → Bool
is_slash b = b == slash

-- the byte is a `?`
abbrev pub is_question : ℕ → Bool
is_question b = b == 63

-- the path of a target: what stands before its first question mark
abbrev pub path_of : List ℕ → List ℕ
path_of target = before_first is_question target

-- the query of a target: what stands behind its first question mark
abbrev pub query_of : List ℕ → List ℕ
query_of target = drop (position_or_len is_question target + 1) target

-- The parts of a path, with their escapes: `/a/%62/` has `a`, `%62` and an empty one. A path that doesn't begin with a
-- slash has none.
abbrev pub parts_of : List ℕ → List (List ℕ)
parts_of [] = []
parts_of (b ∷ bytes) = if is_slash b then split slash bytes else []

-- the part is the word, once its escapes are replaced; a `+` is itself
abbrev pub is_part : List ℕ → List ℕ → Bool
is_part word part = bytes_eq (percent_decode part) word

-- the parts behind the first one, where that is the word
abbrev pub behind : List ℕ → List (List ℕ) → Option (List (List ℕ))
behind word [] = None
behind word (part ∷ parts) = if is_part word part then Some parts else None

-- the parts behind two words
abbrev pub behind_both : List ℕ → List ℕ → List (List ℕ) → Option (List (List ℕ))
behind_both first second parts = option_and_then (behind second) (behind first parts)

-- where a path leads, and the part that names a task or a topic there, with its escapes
abbrev pub Way : Type 0
Way = Place × List ℕ

-- the way from what is found, or else the other way
abbrev pub choose : {A : Type 0} → Option A → (A → Option Way) → Option Way → Option Way
choose None way other = other
choose (Some found) way other = way found

-- a place with nothing behind it
abbrev pub only : Place → List (List ℕ) → Option Way
only place [] = Some (place, [])
only place (part ∷ parts) = None

-- the place of all with nothing behind it, or of the one that the part behind it names
abbrev pub all_or_one : Place → Place → List (List ℕ) → Option Way
all_or_one all one [] = Some (all, [])
all_or_one all one (part ∷ []) = Some (one, part)
all_or_one all one (part ∷ other ∷ parts) = None

-- where the parts behind `/kapacitor/v1` lead
abbrev pub under_version : List (List ℕ) → Option Way
under_version parts =
    choose (behind (codes "ping") parts) (only places.Ping)
    (choose (behind (codes "write") parts) (only places.Write)
    (choose (behind (codes "tasks") parts) (all_or_one places.Tasks places.Task)
    (choose (behind_both (codes "alerts") (codes "topics") parts) (all_or_one places.Topics places.Topic)
    None)))

-- where parts lead
abbrev pub way_by : List (List ℕ) → Option Way
way_by parts =
    choose (behind (codes "write") parts) (only places.Write)
    (choose (behind_both (codes "kapacitor") (codes "v1") parts) under_version
    None)

-- where a path leads
unfoldable pub way_of : List ℕ → Option Way
way_of path = way_by (parts_of path)

-- points are written there
abbrev pub leads_to_write : Option Way → Bool
leads_to_write None = false
leads_to_write (Some (places.Write, name)) = true
leads_to_write (Some (_, name)) = false

-- the most bytes that a body of a request to this target may have: 8 MiB where points are written, else 1 MiB
abbrev pub limit_of : List ℕ → ℕ
limit_of target = if leads_to_write (way_of (path_of target)) then WRITE_LIMIT else BODY_LIMIT
