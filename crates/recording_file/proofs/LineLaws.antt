-- The first line of what is seen of bytes.
use Rattle.std.proofs.Common.{◌≡◌, ℕ, zero, suc, ◌+◌, ◌-◌, ◌<◌, ◌≤◌, Bool, true, false, cond, not, List, [], ◌∷◌, length, take, drop, min, refl, sym, ap, ◌∙◌, subst, arith, length-drop}
use Rattle.std.proofs.lemmas.List.{length-take, drop-take}
use Rattle.std.proofs.Math.Seq.{take-length}
use Rattle.std.specs.Prelude.{nat_le, nat_lt}
use Rattle.std.specs.List.{position_or_len, onto_first}
use Rattle.std.proofs.lemmas.Bool.Decides.{nat_tests}
use Rattle.std.proofs.lemmas.List.Splits.{slice_split_first, length-slice_split}
use Rattle.line_points.specs.Body.{without_return}
use Rattle.recording_file.specs.Lines.{is_feed, raw_lines, closed_lines, all_lines, last_part}
use Rattle.recording_file.specs.Recording.{of_whole_input, of_input_so_far, of_input_past_limit, of_input, at_end}
use Rattle.recording_file.specs.Steps.{before}

-- ---- the raw lines

-- there is one at least
pub some_raw : (bytes : List ℕ) → 0 < length (raw_lines bytes)
some_raw bytes = rw (length-slice_split is_feed bytes) (omega arith)

pub closed_more : (x : List ℕ) (r : List (List ℕ)) → 0 < length r → closed_lines (x ∷ r) ≡ without_return x ∷ closed_lines r
closed_more x [] some = absurd (omega arith)
closed_more x (y ∷ r) some = refl

pub all_more : (x : List ℕ) (r : List (List ℕ)) → 0 < length r → all_lines (x ∷ r) ≡ without_return x ∷ all_lines r
all_more x [] some = absurd (omega arith)
all_more x (y ∷ r) some = refl

pub last_more : (x : List ℕ) (r : List (List ℕ)) → 0 < length r → last_part (x ∷ r) ≡ last_part r
last_more x [] some = absurd (omega arith)
last_more x (y ∷ r) some = refl

pub raw_line : (bytes : List ℕ) (k : ℕ) → k ≡ position_or_len is_feed bytes → k < length bytes → raw_lines bytes ≡ take k bytes ∷ raw_lines (drop (k + 1) bytes)
raw_line bytes k is lt = slice_split_first is_feed bytes 0 (subst (λ n. n < length bytes) is lt) ∙ ap (λ n. take n bytes ∷ raw_lines (drop (n + 1) bytes)) (sym is)

-- without a line feed the bytes are one line
pub raw_last : (bytes : List ℕ) → position_or_len is_feed bytes ≡ length bytes → raw_lines bytes ≡ bytes ∷ []
raw_last [] none = refl
raw_last (b ∷ bytes) none =
    let at : Bool → Type 0 = λ f. cond (not f) (1 + position_or_len is_feed bytes) 0 ≡ suc (length bytes) in
    elim (is_feed b) as (λ f. is_feed b ≡ f → cond f ([] ∷ raw_lines bytes) (onto_first b (raw_lines bytes)) ≡ (b ∷ bytes) ∷ []) [
      | true ↦ λ e. let zero_is : 0 ≡ suc (length bytes) = subst at e none in absurd (omega arith)
      | false ↦ λ e.
          let one_more : 1 + position_or_len is_feed bytes ≡ suc (length bytes) = subst at e none in
          ap (onto_first b) (raw_last bytes (omega arith))
    ] refl

-- ---- the first line of what is seen

pub whole_line : (bytes : List ℕ) (k : ℕ) → k ≡ position_or_len is_feed bytes → k < length bytes → of_whole_input bytes ≡ before (without_return (take k bytes)) (of_whole_input (drop (k + 1) bytes))
whole_line bytes k is lt =
    ap (λ (l : List (List ℕ)). record { lines = l; stop = at_end }) (ap all_lines (raw_line bytes k is lt) ∙ all_more (take k bytes) (raw_lines (drop (k + 1) bytes)) (some_raw (drop (k + 1) bytes)))

pub so_far_line : (bytes : List ℕ) (k : ℕ) → k ≡ position_or_len is_feed bytes → k < length bytes → of_input_so_far bytes ≡ before (without_return (take k bytes)) (of_input_so_far (drop (k + 1) bytes))
so_far_line bytes k is lt =
    let rest = raw_lines (drop (k + 1) bytes) in
    rw (raw_line bytes k is lt, closed_more (take k bytes) rest (some_raw (drop (k + 1) bytes)), last_more (take k bytes) rest (some_raw (drop (k + 1) bytes))) refl

pub cut_line : (bytes : List ℕ) (k : ℕ) → k ≡ position_or_len is_feed bytes → k < length bytes → of_input_past_limit bytes ≡ before (without_return (take k bytes)) (of_input_past_limit (drop (k + 1) bytes))
cut_line bytes k is lt =
    let rest = raw_lines (drop (k + 1) bytes) in
    rw (raw_line bytes k is lt, closed_more (take k bytes) rest (some_raw (drop (k + 1) bytes)), last_more (take k bytes) rest (some_raw (drop (k + 1) bytes))) refl

-- a last line without its line feed
pub whole_last : (b : ℕ) (bytes : List ℕ) → position_or_len is_feed (b ∷ bytes) ≡ length (b ∷ bytes) → of_whole_input (b ∷ bytes) ≡ before (without_return (b ∷ bytes)) (of_whole_input [])
whole_last b bytes none = rw (raw_last (b ∷ bytes) none) refl

-- ---- bytes of which some may not come

-- a line feed that stands before the limit stands at the same place before it
pub place_before : (limit : ℕ) (bytes : List ℕ) → position_or_len is_feed bytes < limit → position_or_len is_feed bytes < length bytes → position_or_len is_feed (take limit bytes) ≡ position_or_len is_feed bytes
place_before zero bytes low lt = absurd (omega arith)
place_before (suc limit) [] low lt = absurd (omega arith)
place_before (suc limit) (b ∷ bytes) low lt =
    let at : Bool → Type 0 = λ f. cond (not f) (1 + position_or_len is_feed (take limit bytes)) 0 ≡ cond (not f) (1 + position_or_len is_feed bytes) 0 in
    let below : Bool → Type 0 = λ f. cond (not f) (1 + position_or_len is_feed bytes) 0 < suc limit in
    let within : Bool → Type 0 = λ f. cond (not f) (1 + position_or_len is_feed bytes) 0 < suc (length bytes) in
    elim (is_feed b) as (λ f. is_feed b ≡ f → at f) [
      | true ↦ λ e. refl
      | false ↦ λ e.
          let one : 1 + position_or_len is_feed bytes < suc limit = subst below e low in
          let other : 1 + position_or_len is_feed bytes < suc (length bytes) = subst within e lt in
          ap (λ n. 1 + n) (place_before limit bytes (omega arith) (omega arith))
    ] refl

pub take_prefix : (k n : ℕ) (bytes : List ℕ) → k ≤ n → take k (take n bytes) ≡ take k bytes
take_prefix zero n bytes h = refl
take_prefix (suc k) zero bytes h = absurd (omega arith)
take_prefix (suc k) (suc n) [] h = refl
take_prefix (suc k) (suc n) (b ∷ bytes) h = ap (λ (l : List ℕ). b ∷ l) (take_prefix k n bytes (omega arith))

le_less : (a b c : ℕ) → c ≤ b → nat_le a b ≡ nat_le (a - c) (b - c)
le_less a b c h = grind (arith, nat_tests)

drop_short : (k : ℕ) (bytes : List ℕ) → length bytes ≤ k → drop k bytes ≡ []
drop_short zero [] h = refl
drop_short (suc k) [] h = refl
drop_short zero (b ∷ bytes) h = absurd (omega arith)
drop_short (suc k) (b ∷ bytes) h = drop_short k bytes (omega arith)

-- the first line, with its line feed, and the limit behind it
pub of_input_line : (limit : ℕ) (bytes : List ℕ) (k : ℕ) → k ≡ position_or_len is_feed bytes → k < length bytes → k + 1 ≤ limit
    → of_input limit bytes ≡ before (without_return (take k bytes)) (of_input (limit - (k + 1)) (drop (k + 1) bytes))
of_input_line limit bytes k is lt fits =
    let rest = drop (k + 1) bytes in
    let left = limit - (k + 1) in
    let size : length rest ≡ length bytes - (k + 1) = length-drop (k + 1) bytes in
    let same : nat_le (length bytes) limit ≡ nat_le (length rest) left = le_less (length bytes) limit (k + 1) fits ∙ ap (λ n. nat_le n left) (sym size) in
    let some = take limit bytes in
    let place : position_or_len is_feed some ≡ position_or_len is_feed bytes = place_before limit bytes (omega arith) (omega arith) in
    let within : k < length some = omega (arith, length-take limit bytes) in
    let first : take k some ≡ take k bytes = take_prefix k limit bytes (omega arith) in
    let behind : drop (k + 1) some ≡ take left rest = ap (λ n. drop (k + 1) (take n bytes)) (omega arith) ∙ drop-take (k + 1) left bytes in
    elim (nat_le (length rest) left) as (λ t. nat_le (length bytes) limit ≡ t → cond (nat_le (length bytes) limit) (of_whole_input bytes) (of_input_past_limit (take limit bytes)) ≡ before (without_return (take k bytes)) (cond t (of_whole_input rest) (of_input_past_limit (take left rest)))) [
      | true ↦ λ e. ap (λ t. cond t (of_whole_input bytes) (of_input_past_limit (take limit bytes))) e ∙ whole_line bytes k is lt
      | false ↦ λ e. ap (λ t. cond t (of_whole_input bytes) (of_input_past_limit (take limit bytes))) e
          ∙ cut_line some k (is ∙ sym place) within
          ∙ ap (λ l. before (without_return l) (of_input_past_limit (drop (k + 1) some))) first
          ∙ ap (λ l. before (without_return (take k bytes)) (of_input_past_limit l)) behind
    ] same

le_true : (a b : ℕ) → a ≤ b → nat_le a b ≡ true
le_true a b h = grind (arith, nat_tests)

-- nothing is seen of nothing
pub of_input_none : (limit : ℕ) → of_input limit [] ≡ of_whole_input []
of_input_none limit = ap (λ t. cond t (of_whole_input []) (of_input_past_limit (take limit []))) (le_true 0 limit (omega arith))

of_input_last : (limit left : ℕ) (bytes : List ℕ) → 0 < length bytes → position_or_len is_feed bytes ≡ length bytes → length bytes ≤ limit → of_input limit bytes ≡ before (without_return bytes) (of_input left [])
of_input_last limit left [] some none fits = absurd (omega arith)
of_input_last limit left (b ∷ bytes) some none fits =
    ap (λ t. cond t (of_whole_input (b ∷ bytes)) (of_input_past_limit (take limit (b ∷ bytes)))) (le_true (length (b ∷ bytes)) limit fits)
    ∙ whole_last b bytes none
    ∙ ap (before (without_return (b ∷ bytes))) (sym (of_input_none left))

-- the first line, which ends where its line feed is or where the bytes end
pub of_input_first : (limit : ℕ) (bytes : List ℕ) (k : ℕ) → k ≡ position_or_len is_feed bytes → k ≤ length bytes → 0 < length bytes → min (k + 1) (length bytes) ≤ limit
    → of_input limit bytes ≡ before (without_return (take k bytes)) (of_input (limit - min (k + 1) (length bytes)) (drop (k + 1) bytes))
of_input_first limit bytes k is within some fits =
    elim (nat_lt k (length bytes)) as (λ t. nat_lt k (length bytes) ≡ t → of_input limit bytes ≡ before (without_return (take k bytes)) (of_input (limit - min (k + 1) (length bytes)) (drop (k + 1) bytes))) [
      | true ↦ λ e.
          let lt : k < length bytes = grind (arith, nat_tests) in
          let size : min (k + 1) (length bytes) ≡ k + 1 = omega arith in
          of_input_line limit bytes k is lt (omega arith) ∙ ap (λ n. before (without_return (take k bytes)) (of_input (limit - n) (drop (k + 1) bytes))) (sym size)
      | false ↦ λ e.
          let last : k ≡ length bytes = grind (arith, nat_tests) in
          let all_taken : take k bytes ≡ bytes = ap (λ n. take n bytes) last ∙ take-length bytes in
          let none_left : drop (k + 1) bytes ≡ [] = drop_short (k + 1) bytes (omega arith) in
          of_input_last limit (limit - min (k + 1) (length bytes)) bytes some (sym is ∙ last) (omega arith)
          ∙ ap (λ l. before (without_return l) (of_input (limit - min (k + 1) (length bytes)) [])) (sym all_taken)
          ∙ ap (λ l. before (without_return (take k bytes)) (of_input (limit - min (k + 1) (length bytes)) l)) (sym none_left)
    ] refl
