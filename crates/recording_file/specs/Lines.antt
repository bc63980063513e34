-- The lines of bytes.
use Rattle.std.specs.Prelude.{ℕ, Bool, ◌==◌, nat_lt, length, List, [], ◌∷◌, if◌then◌else◌}
use Rattle.std.specs.List.{slice_split}
use Rattle.kap_base.specs.Texts.{line_feed, is_empty}
use Rattle.line_points.specs.declared.line.TheConstants.{LINE_LIMIT}
use Rattle.line_points.specs.Body.{without_return}

-- the byte of a line feed
abbrev pub is_feed : ℕ → Bool
is_feed b = b == line_feed

-- a line that has too many bytes
abbrev pub is_long : List ℕ → Bool
is_long line = nat_lt LINE_LIMIT (length line)

-- what stands before each line feed, and last what stands behind the last one
abbrev pub raw_lines : List ℕ → List (List ℕ)
raw_lines bytes = slice_split is_feed bytes

-- the lines that have their line feed
abbrev pub closed_lines : List (List ℕ) → List (List ℕ)
closed_lines [] = []
closed_lines (last ∷ []) = []
closed_lines (line ∷ next ∷ more) = without_return line ∷ closed_lines (next ∷ more)

-- those, and what stands behind the last line feed, where that is anything
abbrev pub all_lines : List (List ℕ) → List (List ℕ)
all_lines [] = []
all_lines (last ∷ []) = if is_empty last then [] else without_return last ∷ []
all_lines (line ∷ next ∷ more) = without_return line ∷ all_lines (next ∷ more)

-- what stands behind the last line feed
abbrev pub last_part : List (List ℕ) → List ℕ
last_part [] = []
last_part (last ∷ []) = last
last_part (line ∷ next ∷ more) = last_part (next ∷ more)
