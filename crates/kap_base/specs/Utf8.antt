-- Where bytes stop being a text.
use Rattle.std.specs.Prelude.{ℕ, ◌+◌, ◌<◌, ◌≤◌, List, ◌++◌, length, take, drop, slice_index, if◌then◌else◌}
use Rattle.std.specs.Int.{is_in_range}
use Rattle.std.specs.Option.{unwrap_or}
use Rattle.std.specs.Str.{IsUtf8}
use Rattle.std.specs.Str.Lossy.{utf8_valid_len, utf8_error_len}

-- some text begins with these bytes
abbrev pub BeginsText : List ℕ → Type 0
BeginsText bytes = (more : List ℕ) × IsUtf8 (bytes ++ more)

-- the bytes before `at` go on to some text, and no text begins with them and the byte at `at`, where one stands there
pub record BreaksAt (bytes : List ℕ) (at : ℕ) : Type 0 where
  pub within : at ≤ length bytes
  pub goes_on : BeginsText (take at bytes)
  pub breaks : at < length bytes → ¬ (BeginsText (take (at + 1) bytes))

-- how many bytes at the front could begin a character, where no character stands there whole
unfoldable pub begun_len : List ℕ → ℕ
begun_len bytes =
    if is_in_range 0xC2 0xF4 (slice_index bytes 0) then unwrap_or (utf8_error_len bytes) (length bytes) else 0

-- the place of the first byte that doesn't continue a character, and the length where the bytes end inside one;
-- of bytes that aren't a text
unfoldable pub broken_at : List ℕ → ℕ
broken_at bytes = utf8_valid_len bytes + begun_len (drop (utf8_valid_len bytes) bytes)
