-- UTF-8 without a line feed: such bytes may be cut at ASCII bytes, and what they spell is so too.
use Rattle.std.proofs.Common.{◌≡◌, ℕ, zero, suc, Bool, true, false, not, ◌&&◌, ◌||◌, List, [], ◌∷◌, ◌++◌, refl, sym, subst, append_assoc, eqb, arith}
use Rattle.std.specs.Prelude.{IsUtf8, nat_lt}
use Rattle.std.specs.Str.{is_utf8}
use Rattle.std.proofs.lemmas.Bool.{ltb-true}
use Rattle.std.proofs.lemmas.Bool.Decides.{nat_tests}
use Rattle.std.proofs.lemmas.List.{append-nil}
use Rattle.std.proofs.lemmas.Str.{IsUtf8-append, IsUtf8-nil, is_utf8-from_IsUtf8}
use Rattle.kap_base.specs.Texts.{backslash, line_feed, has_line_feed, is_line, is_empty, ends_with, is_name}
use Rattle.line_points.specs.declared.part.Part.{Part}
use Rattle.line_points.specs.declared.part.Part.TheVariants as parts
use Rattle.line_points.specs.Parts.{space, escapes, begins}
use Rattle.line_points.specs.Grammar.{Spells, no_bytes, plain, behind_backslash, spaces}
use Rattle.kap_base.proofs.TestLaws.{second_of, first_false, second_false, both, not_false}
use Rattle.line_points.proofs.Utf8Laws.{around}

pub record IsClean (bytes : List ℕ) : Type 0 where
  pub one_line : has_line_feed bytes ≡ false
  pub valid : IsUtf8 bytes

pub clean_line : (bytes : List ℕ) → IsClean bytes → is_line bytes ≡ true
clean_line bytes c = both (not (has_line_feed bytes)) (is_utf8 bytes) (not_false (has_line_feed bytes) c.one_line) (is_utf8-from_IsUtf8 bytes c.valid)

feeds_before : (xs ys : List ℕ) → has_line_feed (xs ++ ys) ≡ false → has_line_feed xs ≡ false
feeds_before [] ys h = refl
feeds_before (x ∷ xs) ys h =
    let here : eqb x line_feed ≡ false = first_false (eqb x line_feed) (has_line_feed (xs ++ ys)) h in
    rw here (feeds_before xs ys (second_false (eqb x line_feed) (has_line_feed (xs ++ ys)) h))

feeds_behind : (xs ys : List ℕ) → has_line_feed (xs ++ ys) ≡ false → has_line_feed ys ≡ false
feeds_behind [] ys h = h
feeds_behind (x ∷ xs) ys h = feeds_behind xs ys (second_false (eqb x line_feed) (has_line_feed (xs ++ ys)) h)

-- an ASCII byte, or nothing, comes next
abbrev pub starts_ascii : List ℕ → Bool
starts_ascii [] = true
starts_ascii (b ∷ bs) = nat_lt b 128

pub record IsCut (xs ys : List ℕ) : Type 0 where
  pub before : IsClean xs
  pub behind : IsClean ys

-- before an ASCII byte
pub cut : (xs ys : List ℕ) → starts_ascii ys ≡ true → IsClean (xs ++ ys) → IsCut xs ys
cut xs [] ascii c = record { before = subst IsClean (append-nil xs) c; behind = record { one_line = refl; valid = IsUtf8-nil } }
cut xs (y ∷ ys) ascii c =
    let a = around xs y ys c.valid (ltb-true _ _ ascii) in
    record {
      before = record { one_line = feeds_before xs (y ∷ ys) c.one_line; valid = a.before };
      behind = record { one_line = feeds_behind xs (y ∷ ys) c.one_line; valid = a.from };
    }

-- behind an ASCII byte
pub behind_ascii : (b : ℕ) (ys : List ℕ) → nat_lt b 128 ≡ true → IsClean (b ∷ ys) → IsClean ys
behind_ascii b ys ascii c = record { one_line = feeds_behind (b ∷ []) ys c.one_line; valid = (around [] b ys c.valid (ltb-true _ _ ascii)).behind }

-- around an ASCII byte
pub cut_at : (xs : List ℕ) (b : ℕ) (ys : List ℕ) → nat_lt b 128 ≡ true → IsClean (xs ++ b ∷ ys) → IsCut xs ys
cut_at xs b ys ascii c =
    let two = cut xs (b ∷ ys) ascii c in
    record { before = two.before; behind = behind_ascii b ys ascii two.behind }

pub behind_clean_spaces : (n : ℕ) (ys : List ℕ) → IsClean (spaces n ++ ys) → IsClean ys
behind_clean_spaces zero ys c = c
behind_clean_spaces (suc n) ys c = behind_clean_spaces n ys (behind_ascii space (spaces n ++ ys) refl c)

-- ---- what clean bytes spell

spelled-feeds : {part : Part} {text spelling : List ℕ} → Spells part text spelling → has_line_feed spelling ≡ false → has_line_feed text ≡ false
spelled-feeds no_bytes h = refl
spelled-feeds (plain b text bytes alone more) h =
    let here : eqb b line_feed ≡ false = first_false (eqb b line_feed) (has_line_feed bytes) h in
    rw here (spelled-feeds more (second_false (eqb b line_feed) (has_line_feed bytes) h))
spelled-feeds (behind_backslash b text bytes can more) h =
    let here : eqb b line_feed ≡ false = first_false (eqb b line_feed) (has_line_feed bytes) h in
    rw here (spelled-feeds more (second_false (eqb b line_feed) (has_line_feed bytes) h))

spelled-utf8 : {part : Part} {text spelling : List ℕ} → Spells part text spelling → (front : List ℕ) → IsUtf8 (front ++ spelling) → IsUtf8 (front ++ text)
spelled-utf8 no_bytes front valid = valid
spelled-utf8 (plain b text bytes alone more) front valid =
    subst IsUtf8 (append_assoc front (b ∷ []) text) (spelled-utf8 more (front ++ b ∷ []) (subst IsUtf8 (sym (append_assoc front (b ∷ []) bytes)) valid))
spelled-utf8 {part} (behind_backslash b text bytes can more) front valid =
    let outer = around front backslash (b ∷ bytes) valid (omega arith) in
    let whole : IsUtf8 (front ++ (b ∷ bytes)) = IsUtf8-append front (b ∷ bytes) outer.before outer.behind in
    subst IsUtf8 (append_assoc front (b ∷ []) text) (spelled-utf8 more (front ++ b ∷ []) (subst IsUtf8 (sym (append_assoc front (b ∷ []) bytes)) whole))

pub spelled_clean : {part : Part} {text spelling : List ℕ} → Spells part text spelling → IsClean spelling → IsClean text
spelled_clean spells c = record { one_line = spelled-feeds spells c.one_line; valid = spelled-utf8 spells [] c.valid }

-- ---- names

nothing_spelled : {part : Part} {text spelling : List ℕ} → Spells part text spelling → is_empty text ≡ true → is_empty spelling ≡ true
nothing_spelled no_bytes none = refl
nothing_spelled (plain b text bytes alone more) none = absurd cc
nothing_spelled (behind_backslash b text bytes can more) none = absurd cc

nothing_begins : (p : ℕ → Bool) (bytes : List ℕ) → is_empty bytes ≡ true → begins p bytes ≡ false
nothing_begins p [] none = refl
nothing_begins p (b ∷ bytes) none = absurd cc

longer : (b : ℕ) (text : List ℕ) → ends_with backslash text ≡ false → (is_empty text ≡ true → eqb b backslash ≡ false) → ends_with backslash (b ∷ text) ≡ false
longer b [] more last = last refl
longer b (c ∷ text) more last = more

lone_last : (b : ℕ) (x : Bool) → (not (eqb b backslash) || x) ≡ true → x ≡ false → eqb b backslash ≡ false
lone_last b true h none = absurd cc
lone_last b false h none = elim (eqb b backslash) as (λ t. (not t || false) ≡ true → t ≡ false) [ true ↦ λ h. absurd cc | false ↦ λ _. refl ] h

other_byte : (part : Part) (b : ℕ) → escapes part b ≡ true → escapes part backslash ≡ false → eqb b backslash ≡ false
other_byte parts.Measurement b can never = grind (arith, nat_tests)
other_byte parts.Key b can never = grind (arith, nat_tests)
other_byte parts.Quoted b can never = absurd cc

spelled-ends : {part : Part} {text spelling : List ℕ} → Spells part text spelling → escapes part backslash ≡ false → ends_with backslash text ≡ false
spelled-ends no_bytes never = refl
spelled-ends {part} (plain b text bytes alone more) never =
    longer b text (spelled-ends more never) (λ none. lone_last b (begins (λ c. not (escapes part c)) bytes) (second_of _ _ alone) (nothing_begins (λ c. not (escapes part c)) bytes (nothing_spelled more none)))
spelled-ends {part} (behind_backslash b text bytes can more) never =
    longer b text (spelled-ends more never) (λ _. other_byte part b can never)

pub spelled_name : {part : Part} {text spelling : List ℕ} → Spells part text spelling → escapes part backslash ≡ false → is_empty text ≡ false → IsClean spelling → is_name text ≡ true
spelled_name {part} {text} spells never some c =
    both (not (is_empty text) && not (ends_with backslash text)) (is_line text)
    (both (not (is_empty text)) (not (ends_with backslash text)) (not_false (is_empty text) some) (not_false (ends_with backslash text) (spelled-ends spells never)))
    (clean_line text (spelled_clean spells c))
