-- Names in targets.
use Rattle.std.proofs.Common.{◌≡◌, ℕ, ◌≤◌, Bool, true, false, not, ◌&&◌, List, length, refl, IsUtf8}
use Rattle.std.specs.Str.{is_utf8}
use Rattle.std.proofs.lemmas.Str.{IsUtf8-from_is_utf8, is_utf8-from_IsUtf8}
use Rattle.percent_encoding.specs.Percent.{percent_decode}
use Rattle.percent_encoding.proofs.PercentLemmas.{length-percent_decode}
use Rattle.kap_base.specs.Texts.{has_line_feed, is_line}

pub utf8_passes : (bytes : List ℕ) → IsUtf8 bytes → is_utf8 bytes ≡ true
utf8_passes bytes utf8 = is_utf8-from_IsUtf8 bytes utf8

pub other_fails : (bytes : List ℕ) → ¬ (IsUtf8 bytes) → is_utf8 bytes ≡ false
other_fails bytes other = by_test (is_utf8 bytes) refl
  where
    by_test : (t : Bool) → is_utf8 bytes ≡ t → t ≡ false
    by_test true passes = absurd (other (IsUtf8-from_is_utf8 bytes passes))
    by_test false fails = refl

pub passed_utf8 : (bytes : List ℕ) → is_utf8 bytes ≡ true → IsUtf8 bytes
passed_utf8 bytes passes = IsUtf8-from_is_utf8 bytes passes

pub no_line : (bytes : List ℕ) → is_utf8 bytes ≡ false → is_line bytes ≡ false
no_line bytes fails = rw fails (either (not (has_line_feed bytes)))
  where
    either : (t : Bool) → (t && false) ≡ false
    either true = refl
    either false = refl

pub decoded_len : (bytes : List ℕ) → length (percent_decode bytes) ≤ length bytes
decoded_len bytes = (length-percent_decode bytes).0
