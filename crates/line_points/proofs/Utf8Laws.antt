-- A text that is cut at ASCII bytes, or that loses some, is text.
use Rattle.std.proofs.Common.{◌≡◌, ℕ, ◌+◌, ◌-◌, ◌<◌, ◌≤◌, Bool, true, false, cond, List, [], ◌∷◌, ◌++◌, length, get_or, drop, refl, sym, ap, subst, ◌∙◌, append_assoc, arith}
use Rattle.std.specs.Prelude.{IsUtf8}
use Rattle.std.specs.Str.{IsCharBoundary}
use Rattle.std.proofs.Math.Seq.{get_or-append_seam, take-append_seam, drop-append_seam, drop-append-add}
use Rattle.std.proofs.lemmas.List.{append-nil, length-append}
use Rattle.std.proofs.lemmas.Str.{IsUtf8-append, IsUtf8-nil, IsUtf8-take, IsUtf8-drop, IsCharBoundary-before_ascii, IsCharBoundary-after_ascii, IsCharBoundary-at_seam}
use Rattle.std.proofs.lemmas.Bool.Decides.{nat_tests}
use Rattle.line_points.specs.declared.part.Part.{Part}
use Rattle.line_points.specs.declared.part.Part.TheVariants.{Measurement, Key, Quoted}
use Rattle.line_points.specs.Parts.{ends, opens_escape, unless, text_from, text_at}

-- the parts round an ASCII byte
pub record Around (xs ys : List ℕ) (b : ℕ) : Type 0 where
  pub before : IsUtf8 xs
  pub from : IsUtf8 (b ∷ ys)
  pub behind : IsUtf8 ys

pub around : (xs : List ℕ) (b : ℕ) (ys : List ℕ) → IsUtf8 (xs ++ b ∷ ys) → b < 128 → Around xs ys b
around xs b ys text ascii =
    let bytes = xs ++ b ∷ ys in
    let within : length xs < length bytes = omega (arith, length-append xs (b ∷ ys)) in
    let low : get_or bytes (length xs) 0 < 128 = omega (arith, get_or-append_seam xs b ys 0) in
    let here = IsCharBoundary-before_ascii bytes (length xs) within low in
    let past = IsCharBoundary-after_ascii bytes (length xs) text within low in
    record {
      before = subst IsUtf8 (take-append_seam xs (b ∷ ys)) (IsUtf8-take bytes (length xs) text here);
      from = subst IsUtf8 (drop-append_seam xs (b ∷ ys)) (IsUtf8-drop bytes (length xs) text here);
      behind = subst IsUtf8 (drop-append-add xs (b ∷ ys) 1) (IsUtf8-drop bytes (length xs + 1) text past);
    }

ends-ascii : (part : Part) (escaped : Bool) (b : ℕ) → ends part escaped b ≡ true → b < 128
ends-ascii Measurement escaped b h = grind (arith, nat_tests)
ends-ascii Key escaped b h = grind (arith, nat_tests)
ends-ascii Quoted escaped b h = grind (arith, nat_tests)

opens-ascii : (part : Part) (escaped : Bool) (b : ℕ) (bs : List ℕ) → opens_escape part escaped b bs ≡ true → b < 128
opens-ascii part escaped b bs h = grind (arith, nat_tests)

-- what was read before makes a text with the part, and so does what is left
pub record AreTexts (front : List ℕ) (parts : List ℕ × List ℕ) : Type 0 where
  pub text : IsUtf8 (front ++ parts.0)
  pub rest : IsUtf8 parts.1

keeps : (front : List ℕ) (b : ℕ) (parts : List ℕ × List ℕ) → AreTexts (front ++ b ∷ []) parts → AreTexts front (b ∷ parts.0, parts.1)
keeps front b parts are = record { text = subst IsUtf8 (append_assoc front (b ∷ []) parts.0) are.text; rest = are.rest }

pub text_from-utf8 : (part : Part) (escaped : Bool) (front bytes : List ℕ) → IsUtf8 (front ++ bytes) → AreTexts front (text_from part escaped bytes)
unfolding text_from
text_from-utf8 part escaped front [] text = record { text = text; rest = IsUtf8-nil }
text_from-utf8 part escaped front (b ∷ bs) text =
    elim (ends part escaped b) as (λ e. ends part escaped b ≡ e → AreTexts front (cond e ([], b ∷ bs) (unless (opens_escape part escaped b bs) b (text_from part (opens_escape part escaped b bs) bs)))) [
      | true ↦ λ e.
          let parts = around front b bs text (ends-ascii part escaped b e) in
          record { text = subst IsUtf8 (sym (append-nil front)) parts.before; rest = parts.from }
      | false ↦ λ _. elim (opens_escape part escaped b bs) as (λ o. opens_escape part escaped b bs ≡ o → AreTexts front (unless o b (text_from part o bs))) [
        | true ↦ λ o.
            let parts = around front b bs text (opens-ascii part escaped b bs o) in
            text_from-utf8 part true front bs (IsUtf8-append front bs parts.before parts.behind)
        | false ↦ λ _. keeps front b (text_from part false bs) (text_from-utf8 part false (front ++ b ∷ []) bs (subst IsUtf8 (sym (append_assoc front (b ∷ []) bs)) text))
      ] refl
    ] refl

-- bytes stand before the rest
pub record IsBehind (rest bytes : List ℕ) : Type 0 where
  pub front : List ℕ
  pub is : bytes ≡ front ++ rest

further : (b : ℕ) (rest bs : List ℕ) → IsBehind rest bs → IsBehind rest (b ∷ bs)
further b rest bs behind = record { front = b ∷ behind.front; is = ap (λ (x : List ℕ). b ∷ x) behind.is }

pub text_from-behind : (part : Part) (escaped : Bool) (bytes : List ℕ) → IsBehind (text_from part escaped bytes).1 bytes
unfolding text_from
text_from-behind part escaped [] = record { front = []; is = refl }
text_from-behind part escaped (b ∷ bs) =
    elim (ends part escaped b) as (λ e. IsBehind (cond e ([], b ∷ bs) (unless (opens_escape part escaped b bs) b (text_from part (opens_escape part escaped b bs) bs))).1 (b ∷ bs)) [
      | true ↦ record { front = []; is = refl }
      | false ↦ elim (opens_escape part escaped b bs) as (λ o. IsBehind (unless o b (text_from part o bs)).1 (b ∷ bs)) [
        | true ↦ further b _ bs (text_from-behind part true bs)
        | false ↦ further b _ bs (text_from-behind part false bs)
      ]
    ]

-- the text of a part and what stands behind it, where the bytes are UTF-8
pub record Unescaped (bytes text rest : List ℕ) : Type 0 where
  pub valid : IsUtf8 text
  pub shorter : length rest ≤ length bytes
  pub boundary : IsCharBoundary bytes (length bytes - length rest)
  pub rest_is : drop (length bytes - length rest) bytes ≡ rest

pub unescaped : (part : Part) (bytes text rest : List ℕ) → IsUtf8 bytes → text_at part bytes ≡ (text, rest) → Unescaped bytes text rest
unescaped part bytes text rest valid is =
    let texts = subst (AreTexts []) is (text_from-utf8 part false [] bytes valid) in
    let behind = subst (λ (p : List ℕ × List ℕ). IsBehind p.1 bytes) is (text_from-behind part false bytes) in
    let longer : length bytes ≡ length behind.front + length rest = ap length behind.is ∙ length-append behind.front rest in
    let place : length behind.front ≡ length bytes - length rest = omega (arith, longer) in
    record {
      valid = texts.text;
      shorter = omega (arith, longer);
      boundary = subst (IsCharBoundary bytes) place (IsCharBoundary-at_seam bytes behind.front rest behind.is texts.rest);
      rest_is = ap (λ (n : ℕ). drop n bytes) (sym place) ∙ ap (drop (length behind.front)) behind.is ∙ drop-append_seam behind.front rest;
    }

pub text_at-shorter : (part : Part) (bytes text rest : List ℕ) → text_at part bytes ≡ (text, rest) → length rest ≤ length bytes
text_at-shorter part bytes text rest is =
    let behind = subst (λ (p : List ℕ × List ℕ). IsBehind p.1 bytes) is (text_from-behind part false bytes) in
    omega (arith, ap length behind.is, length-append behind.front rest)
