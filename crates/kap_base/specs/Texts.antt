-- Tests on the bytes of a text.
use Rattle.std.specs.Prelude.{ℕ, Bool, true, false, not, ◌&&◌, ◌||◌, ◌==◌, nat_lt, nat_le, List, [], ◌∷◌, length}
use Rattle.std.specs.Char.{is_ascii_alphanumeric}
use Rattle.std.specs.List.{list_all, list_any}
use Rattle.std.specs.Str.{is_utf8}
use Rattle.kap_base.specs.declared.limits.TheConstants.{ID_LIMIT}

-- the byte of a line feed
abbrev pub line_feed : ℕ
line_feed = 10

-- the byte of `#`
abbrev pub number_sign : ℕ
number_sign = 35

-- the byte of a backslash
abbrev pub backslash : ℕ
backslash = 92

-- the byte of `_`
abbrev pub underscore : ℕ
underscore = 95

-- the byte of `-`
abbrev pub hyphen : ℕ
hyphen = 45

-- the byte of `.`
abbrev pub full_stop : ℕ
full_stop = 46

-- there are no bytes
abbrev pub is_empty : List ℕ → Bool
is_empty [] = true
is_empty (b ∷ bytes) = false

-- these bytes, and the other ones where there are none
abbrev pub or_else : List ℕ → List ℕ → List ℕ
or_else [] others = others
or_else (b ∷ bytes) others = b ∷ bytes

-- the first byte is this one
abbrev pub begins_with : ℕ → List ℕ → Bool
begins_with b [] = false
begins_with b (x ∷ bytes) = x == b

-- the last byte is this one
abbrev pub ends_with : ℕ → List ℕ → Bool
ends_with b [] = false
ends_with b (x ∷ []) = x == b
ends_with b (x ∷ y ∷ bytes) = ends_with b (y ∷ bytes)

-- some byte is a line feed
abbrev pub has_line_feed : List ℕ → Bool
has_line_feed bytes = list_any (λ b. b == line_feed) bytes

-- UTF-8 without a line feed
abbrev pub is_line : List ℕ → Bool
is_line bytes = not (has_line_feed bytes) && is_utf8 bytes

-- a text that can be a key, the value of a tag or a measurement: not empty, on one line, and not ending in a backslash
abbrev pub is_name : List ℕ → Bool
is_name bytes = not (is_empty bytes) && not (ends_with backslash bytes) && is_line bytes

-- a text that is a name, but for that it is UTF-8
abbrev pub is_plain : List ℕ → Bool
is_plain bytes = not (is_empty bytes) && not (ends_with backslash bytes) && not (has_line_feed bytes)

-- a name that can be a measurement: a line that begins with a number sign is a comment
abbrev pub is_measurement : List ℕ → Bool
is_measurement bytes = not (begins_with number_sign bytes) && is_name bytes

-- what the id of a task is made of: an ASCII letter, a digit, `_`, `-` and `.`
abbrev pub is_id_byte : ℕ → Bool
is_id_byte b = is_ascii_alphanumeric b || b == underscore || b == hyphen || b == full_stop

-- the id of a task: one of those bytes at least, and at most as many as the limit says
abbrev pub is_task_id : List ℕ → Bool
is_task_id id = nat_lt 0 (length id) && nat_le (length id) ID_LIMIT && list_all is_id_byte id
