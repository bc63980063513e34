-- Where the first line feed stands, found by a search that begins behind bytes without one.
use Rattle.std.proofs.Common.{◌≡◌, ◌≢◌, ℕ, ◌+◌, ◌-◌, ◌<◌, ◌≤◌, ◌++◌, Bool, true, false, cond, not, ◌||◌, suc, take, Some, None, List, [], ◌∷◌, length, get_or, drop, refl, sym, ap, ◌∙◌, subst, arith, length-drop}
use Rattle.std.proofs.lemmas.Bool.Decides.{nat_tests}
use Rattle.std.specs.Prelude.{slice_index, nat_lt, ◌==◌}
use Rattle.std.specs.List.{position_or_len}
use Rattle.std.proofs.lemmas.List.{get_or-drop, length-take, take-append-drop}
use Rattle.std.proofs.lemmas.List.Sums.{position_or_len_is, fails_before_first}
use Rattle.kap_base.specs.Texts.{has_line_feed}
use Rattle.memchr.specs.Find.{IsFirstByte, is_byte}
use Rattle.line_points.specs.Body.{without_return}
use Rattle.recording_file.specs.Lines.{is_feed}

no_feed : (b : Bool) → b ≢ true → b ≡ false
no_feed true not_true = absurd (not_true refl)
no_feed false not_true = refl

-- no byte before the place s + n is a feed
none_before : (bytes : List ℕ) (s n : ℕ) → s ≤ position_or_len is_feed bytes → ((k : ℕ) → 0 ≤ k → k < n → is_feed (slice_index (drop s bytes) k) ≢ true) → (k : ℕ) → k < s + n → is_feed (get_or bytes k 0) ≡ false
none_before bytes s n searched nowhere k lt =
    elim (nat_lt k s) as (λ b. nat_lt k s ≡ b → is_feed (get_or bytes k 0) ≡ false) [
      | true ↦ λ e. fails_before_first is_feed bytes k 0 (grind (arith, nat_tests))
      | false ↦ λ e.
          let behind : k - s < n = grind (arith, nat_tests) in
          let place : s + (k - s) ≡ k = grind (arith, nat_tests) in
          let same : get_or (drop s bytes) (k - s) 0 ≡ get_or bytes k 0 = get_or-drop s bytes (k - s) 0 ∙ ap (λ (i : ℕ). get_or bytes i 0) place in
          subst (λ (x : ℕ). is_feed x ≡ false) same (no_feed _ (nowhere (k - s) (omega arith) behind))
    ] refl

pub end_found : (bytes : List ℕ) (s n : ℕ) → s ≤ length bytes → s ≤ position_or_len is_feed bytes → IsFirstByte (is_byte 10) (drop s bytes) (Some n) → s + n ≡ position_or_len is_feed bytes
end_found bytes s n within searched found =
    let at_feed : is_feed (get_or bytes (s + n) 0) ≡ true = subst (λ (x : ℕ). is_feed x ≡ true) (get_or-drop s bytes n 0) found.1 in
    let below : n < length (drop s bytes) = found.0.high in
    sym (position_or_len_is is_feed bytes (s + n) 0 (omega (arith, length-drop s bytes)) (none_before bytes s n searched found.0.before) (λ _. at_feed))

pub end_missing : (bytes : List ℕ) (s : ℕ) → s ≤ length bytes → s ≤ position_or_len is_feed bytes → IsFirstByte (is_byte 10) (drop s bytes) None → length bytes ≡ position_or_len is_feed bytes
end_missing bytes s within searched nowhere =
    let whole : s + length (drop s bytes) ≡ length bytes = omega (arith, length-drop s bytes) in
    sym (position_or_len_is is_feed bytes (length bytes) 0 (omega arith) (λ k lt. none_before bytes s (length (drop s bytes)) searched nowhere k (omega arith)) (λ lt. absurd (omega arith)))

any_step : (a b : Bool) → (a || b) ≡ false → b ≡ false
any_step true b e = cc
any_step false b e = e

any_first : (a b : Bool) → (a || b) ≡ false → a ≡ false
any_first true b e = cc
any_first false b e = refl

return_kept : (line : List ℕ) → has_line_feed line ≡ false → has_line_feed (without_return line) ≡ false
return_kept [] none = refl
return_kept (b ∷ []) none = elim (b == 13) as (λ t. has_line_feed (cond t [] (b ∷ [])) ≡ false) [ true ↦ refl | false ↦ none ]
return_kept (b ∷ c ∷ line) none = ap (λ t. t || has_line_feed (without_return (c ∷ line))) (any_first (is_feed b) _ none) ∙ return_kept (c ∷ line) (any_step (is_feed b) _ none)

prefix_feedless : (bytes : List ℕ) → has_line_feed (take (position_or_len is_feed bytes) bytes) ≡ false
prefix_feedless [] = refl
prefix_feedless (b ∷ bytes) = elim (is_feed b) as (λ f. is_feed b ≡ f → has_line_feed (take (cond (not f) (1 + position_or_len is_feed bytes) 0) (b ∷ bytes)) ≡ false) [
  | true ↦ λ e. refl
  | false ↦ λ e. let one : 1 + position_or_len is_feed bytes ≡ suc (position_or_len is_feed bytes) = omega arith in
      rw one (ap (λ t. t || has_line_feed (take (position_or_len is_feed bytes) bytes)) e ∙ prefix_feedless bytes)
] refl

-- a line has no line feed
pub feedless : (bytes line : List ℕ) (k : ℕ) → k ≡ position_or_len is_feed bytes → line ≡ without_return (take k bytes) → not (has_line_feed line) ≡ true
feedless bytes line k is line_is = ap (λ (l : List ℕ). not (has_line_feed l)) line_is
    ∙ ap not (return_kept (take k bytes) (subst (λ n. has_line_feed (take n bytes) ≡ false) (sym is) (prefix_feedless bytes)))

-- ---- a line that is known

-- what keeps its size without a carriage return at its end has none there
return_none : (line : List ℕ) → length (without_return line) ≡ length line → without_return line ≡ line
return_none [] all = refl
return_none (b ∷ []) all = elim (b == 13) as (λ t. length (cond t [] (b ∷ [])) ≡ 1 → cond t [] (b ∷ []) ≡ b ∷ []) [
  | true ↦ λ e. absurd (omega arith)
  | false ↦ λ e. refl
] all
return_none (b ∷ c ∷ line) all = ap (λ (l : List ℕ). b ∷ l) (return_none (c ∷ line) (omega arith))

-- a line feed behind bytes without one is the first
feed_behind : (text more : List ℕ) → has_line_feed text ≡ false → 0 < length more → is_feed (get_or more 0 0) ≡ true → position_or_len is_feed (text ++ more) ≡ length text
feed_behind [] [] none some feed = absurd (omega arith)
feed_behind [] (b ∷ more) none some feed = ap (λ f. cond (not f) (1 + position_or_len is_feed more) 0) feed
feed_behind (b ∷ text) more none some feed =
    let further : position_or_len is_feed (b ∷ (text ++ more)) ≡ 1 + position_or_len is_feed (text ++ more) = ap (λ f. cond (not f) (1 + position_or_len is_feed (text ++ more)) 0) (any_first (is_feed b) _ none) in
    let rest = feed_behind text more (any_step (is_feed b) _ none) some feed in
    let one : 1 + position_or_len is_feed (text ++ more) ≡ suc (length text) = omega arith in
    further ∙ one

pub known_end : (bytes text : List ℕ) → has_line_feed text ≡ false → length text < length bytes → is_feed (get_or bytes (length text) 0) ≡ true → without_return (take (length text) bytes) ≡ text → length text ≡ position_or_len is_feed bytes
known_end bytes text none within feed same =
    let n = length text in
    let size : length (take n bytes) ≡ n = omega (arith, length-take n bytes) in
    let front : take n bytes ≡ text = sym (return_none (take n bytes) (ap length same ∙ sym size)) ∙ same in
    let parts : text ++ drop n bytes ≡ bytes = ap (λ (l : List ℕ). l ++ drop n bytes) (sym front) ∙ take-append-drop n bytes in
    let zero_more : n + 0 ≡ n = omega arith in
    let first : get_or (drop n bytes) 0 0 ≡ get_or bytes n 0 = get_or-drop n bytes 0 0 ∙ ap (λ (i : ℕ). get_or bytes i 0) zero_more in
    sym (ap (position_or_len is_feed) (sym parts) ∙ feed_behind text (drop n bytes) none (omega (arith, length-drop n bytes)) (subst (λ (x : ℕ). is_feed x ≡ true) (sym first) feed))
