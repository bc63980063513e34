-- How the code walks a path; for private clauses.
use Rattle.std.specs.Prelude.{ℕ, not, ◌&&◌, List, [], ◌∷◌, take, drop, Option, Some, None, option_map, option_and_then, codes, if◌then◌else◌}
use Rattle.std.specs.List.{list_any, position_or_len}
use Rattle.kap_http.specs.declared.path.Place.{Place}
use Rattle.kap_http.specs.declared.path.Place.TheVariants as places
use Rattle.kap_http.specs.Paths.{is_part, is_slash, choose, Way}

-- the first part of what stands behind a slash
abbrev pub part_in : List ℕ → List ℕ
part_in bytes = take (position_or_len is_slash bytes) bytes

-- what stands behind the first part
abbrev pub behind_part : List ℕ → List ℕ
behind_part bytes = drop (position_or_len is_slash bytes) bytes

-- the path behind its first part, where that is the word
abbrev pub strip : List ℕ → List ℕ → Option (List ℕ)
strip word [] = None
strip word (b ∷ bytes) = if is_slash b && is_part word (part_in bytes) then Some (behind_part bytes) else None

-- the path behind two words
abbrev pub strip_both : List ℕ → List ℕ → List ℕ → Option (List ℕ)
strip_both first second path = option_and_then (strip second) (strip first path)

-- a place with nothing behind it
abbrev pub ends : Place → List ℕ → Option Way
ends place [] = Some (place, [])
ends place (b ∷ path) = None

-- the one part of a path
abbrev pub only_part : List ℕ → Option (List ℕ)
only_part [] = None
only_part (b ∷ bytes) = if is_slash b && not (list_any is_slash bytes) then Some bytes else None

-- the place of all with nothing behind it, or of the one that the part behind it names
abbrev pub ends_or_one : Place → Place → List ℕ → Option Way
ends_or_one all one [] = Some (all, [])
ends_or_one all one (b ∷ path) = option_map (λ name. (one, name)) (only_part (b ∷ path))

-- where the path behind `/kapacitor/v1` leads
abbrev pub walk_version : List ℕ → Option Way
walk_version path =
    choose (strip (codes "ping") path) (ends places.Ping)
    (choose (strip (codes "write") path) (ends places.Write)
    (choose (strip (codes "tasks") path) (ends_or_one places.Tasks places.Task)
    (choose (strip_both (codes "alerts") (codes "topics") path) (ends_or_one places.Topics places.Topic)
    None)))

-- where a path leads
unfoldable pub walk : List ℕ → Option Way
walk path =
    choose (strip (codes "write") path) (ends places.Write)
    (choose (strip_both (codes "kapacitor") (codes "v1") path) walk_version
    None)
