-- Reading a part byte by byte gives the text that it stands for.
use Rattle.std.proofs.Common.{◌≡◌, ℕ, ◌+◌, ◌<◌, Bool, true, false, not, cond, ◌||◌, List, [], ◌∷◌, ◌++◌, refl, ap, subst, ◌∙◌, append_assoc, length, take, drop, eqb, arith}
use Rattle.std.specs.List.{position_or_len}
use Rattle.std.proofs.lemmas.Bool.Decides.{nat_tests}
use Rattle.kap_base.specs.Texts.{backslash, begins_with}
use Rattle.line_points.specs.declared.part.Part.TheVariants.{Measurement, Key, Quoted}
use Rattle.std.proofs.lemmas.List.{append-nil}
use Rattle.line_points.proofs.PlaceLaws.{drop_more, take_more}
use Rattle.kap_base.proofs.TestLaws.{first_false, second_false}
use Rattle.line_points.specs.declared.part.Part.{Part}
use Rattle.line_points.specs.Parts.{stops, marks, ends, opens_escape, text_from, text_at}

-- what was read before, and what is still read
abbrev pub joined : List ℕ → List ℕ × List ℕ → List ℕ × List ℕ
joined front text = (front ++ text.0, text.1)

-- a byte that the text has
pub joined-keeps : (part : Part) (escaped : Bool) (front : List ℕ) (b : ℕ) (bs : List ℕ) → ends part escaped b ≡ false → opens_escape part escaped b bs ≡ false → joined front (text_from part escaped (b ∷ bs)) ≡ joined (front ++ b ∷ []) (text_from part false bs)
unfolding text_from
joined-keeps part escaped front b bs goes none = rw (goes, none) (ap (λ (x : List ℕ). (x, (text_from part false bs).1)) (simp append_assoc))

-- the backslash of an escape
pub joined-skips : (part : Part) (escaped : Bool) (front : List ℕ) (b : ℕ) (bs : List ℕ) → ends part escaped b ≡ false → opens_escape part escaped b bs ≡ true → joined front (text_from part escaped (b ∷ bs)) ≡ joined front (text_from part true bs)
unfolding text_from
joined-skips part escaped front b bs goes some = rw (goes, some) refl

-- the end of the part
pub joined-ends : (part : Part) (escaped : Bool) (front : List ℕ) (b : ℕ) (bs : List ℕ) → ends part escaped b ≡ true → joined front (text_from part escaped (b ∷ bs)) ≡ (front, b ∷ bs)
unfolding text_from
joined-ends part escaped front b bs stop = rw stop (ap (λ (x : List ℕ). (x, b ∷ bs)) (append-nil front))

pub joined-done : (part : Part) (escaped : Bool) (front bs : List ℕ) → length bs ≡ 0 → joined front (text_from part escaped bs) ≡ (front, bs)
unfolding text_from
joined-done part escaped front [] none = ap (λ (x : List ℕ). let y : List ℕ × List ℕ = (x, []) in y) (append-nil front)
joined-done part escaped front (b ∷ bs) none = absurd (omega arith)

-- ---- where no backslash stands

-- a byte that ends the part
stopped : (part : Part) (b : ℕ) (bs : List ℕ) → marks part b ≡ true → eqb b backslash ≡ false → text_from part false (b ∷ bs) ≡ ([], b ∷ bs)
unfolding text_from
stopped part b bs mark none =
    let stop : stops part b ≡ true = or_else (stops part b) (eqb b backslash) mark none in
    rw stop refl
  where
    or_else : (x y : Bool) → (x || y) ≡ true → y ≡ false → x ≡ true
    or_else true y h none = refl
    or_else false y h none = absurd cc

-- a byte that is itself
kept : (part : Part) (b : ℕ) (bs front rest : List ℕ) → marks part b ≡ false → text_from part false bs ≡ (front, rest) → text_from part false (b ∷ bs) ≡ (b ∷ front, rest)
unfolding text_from
kept part b bs front rest none read =
    let goes : stops part b ≡ false = first_false (stops part b) (eqb b backslash) none in
    let plain : eqb b backslash ≡ false = second_false (stops part b) (eqb b backslash) none in
    rw (goes, plain, read) refl

-- up to the first byte that may end the part or begin an escape, the bytes are the text
pub plain_from : (part : Part) (bytes : List ℕ) → begins_with backslash (drop (position_or_len (marks part) bytes) bytes) ≡ false → text_from part false bytes ≡ (take (position_or_len (marks part) bytes) bytes, drop (position_or_len (marks part) bytes) bytes)
unfolding text_from
plain_from part [] none = refl
plain_from part (b ∷ bs) none =
    elim (marks part b) as (λ m. marks part b ≡ m → begins_with backslash (drop (cond (not m) (1 + position_or_len (marks part) bs) 0) (b ∷ bs)) ≡ false → text_from part false (b ∷ bs) ≡ (take (cond (not m) (1 + position_or_len (marks part) bs) 0) (b ∷ bs), drop (cond (not m) (1 + position_or_len (marks part) bs) 0) (b ∷ bs))) [
      | true ↦ λ m none. stopped part b bs m none
      | false ↦ λ m none.
          let n = position_or_len (marks part) bs in
          kept part b bs (take n bs) (drop n bs) m (plain_from part bs (subst (λ (x : List ℕ). begins_with backslash x ≡ false) (drop_more n b bs) none))
          ∙ rw (take_more n b bs, drop_more n b bs) refl
    ] refl none

-- a byte behind which a part ends, or begins an escape, is ASCII
pub marks-ascii : (part : Part) (b : ℕ) → marks part b ≡ true → b < 128
marks-ascii Measurement b h = grind (arith, nat_tests)
marks-ascii Key b h = grind (arith, nat_tests)
marks-ascii Quoted b h = grind (arith, nat_tests)

pub plain_parts : (part : Part) (bytes text rest : List ℕ) (n : ℕ) → n ≡ position_or_len (marks part) bytes → text ≡ take n bytes → rest ≡ drop n bytes → begins_with backslash rest ≡ false → text_at part bytes ≡ (text, rest)
plain_parts part bytes text rest n is text_is rest_is none =
    rw (text_is, rest_is, is) (plain_from part bytes (subst (λ (x : List ℕ). begins_with backslash x ≡ false) (rest_is ∙ ap (λ (k : ℕ). drop k bytes) is) none))
