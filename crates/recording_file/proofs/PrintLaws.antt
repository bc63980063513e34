-- Records that are printed, read again.
use Rattle.std.proofs.Common.{◌≡◌, ℕ, suc, ◌^◌, ◌<◌, ◌≤◌, true, false, cond, not, List, [], ◌∷◌, ◌++◌, length, map, refl, sym, ap, ◌∙◌, subst, append_assoc, arith, length-append}
use Rattle.std.specs.Prelude.{ℤ, pos, negsuc, IsTrue, ◌==◌, All}
use Rattle.std.specs.Char.{is_ascii_digit}
use Rattle.std.specs.List.{flat_map, list_all}
use Rattle.std.specs.Str.{is_utf8}
use Rattle.std.specs.Fmt.{decimal, signed_decimal}
use Rattle.std.proofs.lemmas.Bool.{leb-true, ltb-true}
use Rattle.std.proofs.lemmas.Bool.Decides.{nat_tests}
use Rattle.std.proofs.lemmas.List.Elements.{All-nil, All-cons}
use Rattle.std.proofs.lemmas.List.Splits.{slice_split_at}
use Rattle.kap_base.specs.Texts.{line_feed, has_line_feed, is_line}
use Rattle.kap_base.specs.Points.{PointValue, IsPoint, is_time}
use Rattle.line_points.specs.Body.{without_return, carriage_return}
use Rattle.line_points.specs.Numbers.{is_digits}
use Rattle.line_points.specs.Print.{Print}
use Rattle.line_points.proofs.PrintLaws.{decimal_digits}
use Rattle.line_points.proofs.PrintedLaws.{prints_again}
use Rattle.kap_base.proofs.TestLaws.{first_of, second_of, first_false, second_false, not_true}
use Rattle.recording_file.specs.Lines.{is_feed, raw_lines, all_lines}
use Rattle.recording_file.specs.Recording.{IsName, AreGroups, Recording}
use Rattle.recording_file.specs.Printed.{IsRecordable, read_again, record_text}
use Rattle.recording_file.proofs.LineLaws.{some_raw, all_more}

-- ---- lines

no_feeds : (line : List ℕ) → has_line_feed line ≡ false → All (λ b. is_feed b ≡ false) line
no_feeds [] none = All-nil (λ b. is_feed b ≡ false)
no_feeds (b ∷ line) none =
    All-cons (λ (x : ℕ). is_feed x ≡ false) b line (first_false (is_feed b) (has_line_feed line) none)
    (no_feeds line (second_false (is_feed b) (has_line_feed line) none))

no_feed : (line : List ℕ) → IsTrue (is_line line) → has_line_feed line ≡ false
no_feed line is = not_true (has_line_feed line) (first_of (not (has_line_feed line)) (is_utf8 line) is)

-- a line before others
first_line : (line rest : List ℕ) → IsTrue (is_line line) → without_return line ≡ line → all_lines (raw_lines (line ++ line_feed ∷ rest)) ≡ line ∷ all_lines (raw_lines rest)
first_line line rest is kept =
    ap all_lines (slice_split_at is_feed line line_feed rest (no_feeds line (no_feed line is)) refl)
    ∙ all_more line (raw_lines rest) (some_raw rest)
    ∙ ap (λ (l : List ℕ). l ∷ all_lines (raw_lines rest)) kept

-- ---- the printed line ends in a digit

no_return : (bytes : List ℕ) → list_all is_ascii_digit bytes ≡ true → without_return bytes ≡ bytes
no_return [] digits = refl
no_return (b ∷ []) digits = ap (λ t. cond t [] (b ∷ [])) (not_that b (first_of (is_ascii_digit b) _ digits)) where
  not_that : (b : ℕ) → is_ascii_digit b ≡ true → (b == carriage_return) ≡ false
  not_that b digit = grind (arith, nat_tests)
no_return (b ∷ c ∷ bytes) digits = ap (λ (l : List ℕ). b ∷ l) (no_return (c ∷ bytes) (second_of (is_ascii_digit b) _ digits))

behind_others : (xs ys : List ℕ) → 0 < length ys → without_return ys ≡ ys → without_return (xs ++ ys) ≡ xs ++ ys
behind_others [] ys some kept = kept
behind_others (x ∷ []) [] some kept = absurd (omega arith)
behind_others (x ∷ []) (y ∷ ys) some kept = ap (λ (l : List ℕ). x ∷ l) kept
behind_others (x ∷ z ∷ xs) ys some kept = ap (λ (l : List ℕ). x ∷ l) (behind_others (z ∷ xs) ys some kept)

-- bytes that don't end in a carriage return
record Kept (bytes : List ℕ) : Type 0 where
  some : 0 < length bytes
  kept : without_return bytes ≡ bytes

kept_behind : (xs ys : List ℕ) → Kept ys → Kept (xs ++ ys)
kept_behind xs ys h =
    let some = h.some in
    record { some = omega (arith, length-append xs ys); kept = behind_others xs ys some h.kept }

digits_kept : (bytes : List ℕ) → is_digits bytes ≡ true → Kept bytes
digits_kept [] digits = absurd cc
digits_kept (b ∷ bytes) digits = record { some = omega arith; kept = no_return (b ∷ bytes) digits }

time_kept : (t : ℤ) → is_time t ≡ true → Kept (signed_decimal t)
time_kept (pos n) small = let le = leb-true _ _ small in digits_kept (decimal n) (decimal_digits n (omega arith))
time_kept (negsuc n) small = let lt = ltb-true _ _ small in kept_behind (45 ∷ []) (decimal (suc n)) (digits_kept (decimal (suc n)) (decimal_digits (suc n) (omega arith)))

print_kept : (p : PointValue) → IsPoint p → Kept (Print p)
print_kept p is = kept_behind _ _ (kept_behind _ _ (kept_behind (32 ∷ []) _ (kept_behind _ _ (kept_behind (32 ∷ []) _ (time_kept p.time is.time)))))

-- ---- records

joined : (a b c rest : List ℕ) → (a ++ (line_feed ∷ (b ++ (line_feed ∷ (c ++ line_feed ∷ []))))) ++ rest ≡ a ++ line_feed ∷ (b ++ line_feed ∷ (c ++ line_feed ∷ rest))
joined a b c rest = simp append_assoc

record_lines : (p : PointValue) (rest : List ℕ) → IsRecordable p → all_lines (raw_lines (record_text p ++ rest)) ≡ p.db ∷ p.rp ∷ Print p ∷ all_lines (raw_lines rest)
record_lines p rest h =
    let again = prints_again (Print p) p h.point refl in
    ap (λ (l : List ℕ). all_lines (raw_lines l)) (joined p.db p.rp (Print p) rest)
    ∙ first_line p.db _ h.point.db h.db
    ∙ ap (λ (l : List (List ℕ)). p.db ∷ l) (first_line p.rp _ h.point.rp h.rp)
    ∙ ap (λ (l : List (List ℕ)). p.db ∷ p.rp ∷ l) (first_line (Print p) rest again.one_line (print_kept p h.point).kept)

name_of : (line : List ℕ) → IsTrue (is_line line) → length line ≤ 65536 → IsName line
name_of line is within = record { utf8 = second_of (not (has_line_feed line)) (is_utf8 line) is; within = within }

are_groups : (ps : List PointValue) → All IsRecordable ps → AreGroups (all_lines (raw_lines (flat_map record_text ps))) (map read_again ps)
are_groups [] each = tt
are_groups (p ∷ ps) each =
    let h : IsRecordable p = each 0 p (omega arith) in
    let again = prints_again (Print p) p h.point refl in
    subst (λ l. AreGroups l (map read_again (p ∷ ps))) (sym (record_lines p (flat_map record_text ps) h))
    (name_of p.db h.point.db h.db_within, name_of p.rp h.point.rp h.rp_within, again.again h.line_within, are_groups ps (λ k d lt. each (suc k) d (omega arith)))

pub records_again : (ps : List PointValue) → All IsRecordable ps → length (flat_map record_text ps) ≤ 2 ^ 30 → Recording (flat_map record_text ps) (map read_again ps)
records_again ps each within = record { within = within; groups = are_groups ps each }
