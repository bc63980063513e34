-- How many lines of a head are there.
use Rattle.std.specs.Prelude.{ℕ, zero, suc, ◌+◌, Bool, true, false, not, ◌&&◌, ◌||◌, ◌==◌, List, [], ◌∷◌, Option, Some, None, option_and_then, if◌then◌else◌}
use Rattle.httparse.specs.Pieces.{is_newline}
use Rattle.kap_base.specs.Texts.{begins_with, line_feed}
use Rattle.kap_http.specs.declared.limits.TheConstants.{FIELD_LIMIT}

-- the bytes behind the first line feed
abbrev pub behind_feed : List ℕ → Option (List ℕ)
behind_feed [] = None
behind_feed (b ∷ bytes) = if b == 10 then Some bytes else behind_feed bytes

-- the bytes behind n lines, where there are so many
unfoldable pub behind_lines : ℕ → List ℕ → Option (List ℕ)
behind_lines zero bytes = Some bytes
behind_lines (suc n) bytes = option_and_then (behind_lines n) (behind_feed bytes)

-- the bytes from the first one on that doesn't end a line
abbrev pub skip_newlines : List ℕ → List ℕ
skip_newlines [] = []
skip_newlines (b ∷ bytes) = if is_newline b then skip_newlines bytes else b ∷ bytes

-- there are bytes, and more than a carriage return
abbrev pub goes_on : Option (List ℕ) → Bool
goes_on None = false
goes_on (Some []) = false
goes_on (Some (b ∷ [])) = not (b == 13)
goes_on (Some (b ∷ c ∷ bytes)) = true

-- bytes of a head go on behind its first line and as many fields as it may have, and no empty line begins there
unfoldable pub has_more_lines : List ℕ → Bool
has_more_lines bytes = goes_on (behind_lines (FIELD_LIMIT + 1) (skip_newlines bytes))

-- an empty line stands at the front
abbrev pub begins_empty : List ℕ → Bool
begins_empty [] = false
begins_empty (b ∷ bytes) = b == line_feed || (b == 13 && begins_with line_feed bytes)

-- an empty line stands behind some line feed
abbrev pub has_empty_line : List ℕ → Bool
has_empty_line [] = false
has_empty_line (b ∷ bytes) = (b == line_feed && begins_empty bytes) || has_empty_line bytes
