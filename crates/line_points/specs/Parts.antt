-- The parts of a line that may hold escapes: where each ends, and what it stands for.
use Rattle.std.specs.Prelude.{ℕ, Bool, true, false, not, ◌&&◌, ◌||◌, ◌==◌, List, [], ◌∷◌, if◌then◌else◌}
use Rattle.kap_base.specs.Texts.{backslash}
use Rattle.line_points.specs.declared.part.Part.{Part}
use Rattle.line_points.specs.declared.part.Part.TheVariants.{Measurement, Key, Quoted}

-- the byte of a space
abbrev pub space : ℕ
space = 32

-- the byte of a double quote
abbrev pub quote : ℕ
quote = 34

-- the byte of a comma
abbrev pub comma : ℕ
comma = 44

-- the byte of an equals sign
abbrev pub equals : ℕ
equals = 61

-- a backslash before this byte stands for the byte; every other backslash is itself
abbrev pub escapes : Part → ℕ → Bool
escapes Measurement b = b == comma || b == space
escapes Key b = b == comma || b == space || b == equals
escapes Quoted b = b == quote || b == backslash

-- the part ends before this byte, where no backslash escapes it
abbrev pub stops : Part → ℕ → Bool
stops Measurement b = b == comma || b == space
stops Key b = b == comma || b == space || b == equals
stops Quoted b = b == quote

-- a byte that may end the part or begin an escape
abbrev pub marks : Part → ℕ → Bool
marks part b = stops part b || b == backslash

-- a space
abbrev pub is_space : ℕ → Bool
is_space b = b == space

-- a comma or a space
abbrev pub is_separator : ℕ → Bool
is_separator b = b == comma || b == space

-- a comma, a space or nothing comes next
abbrev pub is_at_separator : List ℕ → Bool
is_at_separator [] = true
is_at_separator (b ∷ bytes) = is_separator b

-- the bytes from the first one on that is no space
abbrev pub without_spaces : List ℕ → List ℕ
without_spaces [] = []
without_spaces (b ∷ bs) = if is_space b then without_spaces bs else b ∷ bs

-- there is a first byte, and it passes the test
abbrev pub begins : (ℕ → Bool) → List ℕ → Bool
begins p [] = false
begins p (b ∷ bs) = p b

-- the part ends before the byte b, behind the backslash of an escape or not
abbrev pub ends : Part → Bool → ℕ → Bool
ends part escaped b = stops part b && not escaped

-- the byte b is the backslash of an escape, where it stands before the bytes bs
abbrev pub opens_escape : Part → Bool → ℕ → List ℕ → Bool
opens_escape part escaped b bs = not escaped && (b == backslash) && begins (escapes part) bs

-- the text with the byte b before it, unless b is the backslash of an escape
abbrev pub unless : Bool → ℕ → List ℕ × List ℕ → List ℕ × List ℕ
unless true b text = text
unless false b text = (b ∷ text.0, text.1)

-- The text that the bytes begin with, and the bytes from its end on. `escaped` says that the backslash of an
-- escape stands before them.
unfoldable pub text_from : Part → Bool → List ℕ → List ℕ × List ℕ
text_from part escaped [] = ([], [])
text_from part escaped (b ∷ bs) =
    let escape = opens_escape part escaped b bs in
    if ends part escaped b then ([], b ∷ bs) else unless escape b (text_from part escape bs)

-- the text that the bytes begin with, and the bytes from its end on
abbrev pub text_at : Part → List ℕ → List ℕ × List ℕ
text_at part bytes = text_from part false bytes
