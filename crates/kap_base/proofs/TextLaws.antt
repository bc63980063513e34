-- What is known of each text and of each number.
use Rattle.std.proofs.Common.{◌≡◌, ◌∙◌, ℕ, ◌+◌, ◌<◌, ◌≤◌, ◌^◌, ap, append_assoc, length-append, Bool, true, false, not, ◌&&◌, List, [], ◌∷◌, ◌++◌, length, take, take_at, Result, Ok, Err, IfOk, IsTrue, arith, ℤ, pos, negsuc, refl, subst, sym}
use Rattle.std.specs.Prelude.{IsUtf8}
use Rattle.std.specs.Int.{w64}
use mir.Val.{SFits}
use Rattle.std.proofs.lemmas.Bool.Decides.{nat_tests}
use Rattle.std.proofs.lemmas.List.{take-take}
use Rattle.std.specs.Str.{IsCharBoundary, is_utf8}
use Rattle.std.proofs.lemmas.Str.{IsUtf8-append, IsUtf8-from_is_utf8, IsUtf8-take, is_utf8-from_IsUtf8}
use Rattle.kap_base.specs.Points.{is_value}
use Rattle.kap_base.specs.Texts.{backslash, ends_with, has_line_feed, is_empty, is_name, is_plain, or_else}
use Rattle.kap_base.specs.declared.memory.NoMemory.{NoMemory}
use Rattle.kap_base.specs.declared.value.Value.TheVariants as values

pub text_is_utf8 : (text : List ℕ) → IsUtf8 text → is_utf8 text ≡ true
text_is_utf8 text utf8 = is_utf8-from_IsUtf8 text utf8

pub number_fits : (z : ℤ) → SFits w64 z → is_value (values.Int z) ≡ true
number_fits (pos n) fits = let lt : n < 2 ^ 63 = fits.sfits in grind (arith, nat_tests)
number_fits (negsuc n) fits = let lt : n < 2 ^ 63 = fits.sfits in grind (arith, nat_tests)

with_utf8 : (a b c : Bool) → ((a && b) && c) ≡ true → (u : Bool) → u ≡ true → ((a && b) && (c && u)) ≡ true
with_utf8 true true true e u h = h
with_utf8 true true false e u h = absurd cc
with_utf8 true false c e u h = absurd cc
with_utf8 false b c e u h = absurd cc

plain_is_name : (text : List ℕ) → IsTrue (is_plain text) → IsUtf8 text → IsTrue (is_name text)
plain_is_name text plain utf8 =
    with_utf8 (not (is_empty text)) (not (ends_with backslash text)) (not (has_line_feed text)) plain (is_utf8 text) (is_utf8-from_IsUtf8 text utf8)

-- a text that was made of a plain one is a name
pub own_is_name : (own : List ℕ) (r : Result (List ℕ) NoMemory) → IsTrue (is_plain own) → IfOk r (λ t. t ≡ own) → IfOk r (λ t. IsUtf8 t) → IfOk r (λ t. IsTrue (is_name t))
own_is_name own (Err e) plain same utf8 = tt
own_is_name own (Ok t) plain same utf8 = plain_is_name t (subst (λ (l : List ℕ). IsTrue (is_plain l)) (sym same) plain) utf8

-- what begins with a text has that text as its front
pub front_is_text : (text bytes rest whole : List ℕ) → bytes ≡ text → whole ≡ bytes ++ rest → IsUtf8 text → IsTrue (is_utf8 (take (length text) whole))
front_is_text text bytes rest whole same is utf8 = rw (is, same) (rw (take_at text rest (length text) refl) (is_utf8-from_IsUtf8 text utf8))

-- a text behind a text is the front of what begins with both
pub both_are_text : (front more tail cells : List ℕ) (len : ℕ) → length front ≡ len → cells ≡ more ++ tail → IsTrue (is_utf8 front) → IsUtf8 more → IsTrue (is_utf8 (take (len + length more) (front ++ cells)))
both_are_text front more tail cells len long is there utf8 =
    let whole : front ++ cells ≡ (front ++ more) ++ tail = ap (λ (l : List ℕ). front ++ l) is ∙ sym (append_assoc front more tail) in
    let count : len + length more ≡ length (front ++ more) = ap (λ (n : ℕ). n + length more) (sym long) ∙ sym (length-append front more) in
    rw (whole, count) (rw (take_at (front ++ more) tail (length (front ++ more)) refl) (is_utf8-from_IsUtf8 (front ++ more) (IsUtf8-append front more (IsUtf8-from_is_utf8 front there) utf8)))

-- where there are bytes, the other ones don't count
pub or_else_some : (bytes others : List ℕ) → 0 < length bytes → or_else bytes others ≡ bytes
or_else_some [] others some = absurd (omega (arith, some))
or_else_some (b ∷ bytes) others some = refl

-- the front of a front is a text, where a character of the whole one begins behind it
pub front_of_front_is_text : (line bytes front cells : List ℕ) (len limit : ℕ) → cells ≡ front → front ≡ take limit bytes → bytes ≡ line → len ≤ limit → IsUtf8 line → IsCharBoundary line len → IsTrue (is_utf8 (take len cells))
front_of_front_is_text line bytes front cells len limit is it same short utf8 begins =
    rw (is, it, same, take-take len limit line short) (is_utf8-from_IsUtf8 (take len line) (IsUtf8-take line len utf8 begins))

-- the front of a text counts, where there are no other bytes before it
pub front_counts : (none front line : List ℕ) (len : ℕ) → none ≡ [] → front ≡ take len line → IsUtf8 line → IsCharBoundary line len → IsUtf8 (or_else none front)
front_counts none front line len empty is utf8 begins = rw (empty, is) (IsUtf8-take line len utf8 begins)
