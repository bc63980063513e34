-- How many bytes the body of a record of transitions has.
use Rattle.std.proofs.Common.{◌≡◌, ℕ, suc, zero, ◌+◌, ◌-◌, ◌<◌, ◌≤◌, ◌^◌, List, [], ◌∷◌, ◌++◌, length, min, refl, sym, ap, ◌∙◌, arith, length-append, append-nil}
use Rattle.std.specs.Prelude.{take, drop, flat_map, slice_get, Some}
use Rattle.std.specs.Int.{w32}
use Rattle.std.proofs.lemmas.List.{take-append-drop}
use Rattle.std.proofs.lemmas.List.Concat.{flat_map-append}
use Rattle.state_code.specs.Spelling.{spell_number}
use Rattle.store_records.specs.Transitions.{spell_transition}
use Rattle.topic_core.specs.declared.transition.Transition.{Transition}
use Rattle.engine_store.specs.Adding.{IsClosed, body_len}
use Rattle.engine_store.specs.declared.TheConstants.{PIECE_LIMIT}

count-size : (n : ℕ) → length (spell_number w32 n) ≡ 4
unfolding spell_number
count-size n = refl

body-is : (ts : List Transition) → body_len ts ≡ 5 + length (flat_map spell_transition ts)
body-is ts = omega (arith, length-append (spell_number w32 (length ts)) (flat_map spell_transition ts), count-size (length ts))

-- that of none has five
pub none_len : body_len [] ≡ 5
none_len = body-is []

-- one transition more
body-more : (ts : List Transition) (t : Transition) → body_len (ts ++ t ∷ []) ≡ body_len ts + length (spell_transition t)
body-more ts t =
    let joined : length (flat_map spell_transition (ts ++ t ∷ [])) ≡ length (flat_map spell_transition ts ++ (spell_transition t ++ [])) = ap length (flat_map-append spell_transition ts (t ∷ [])) in
    let alone : length (spell_transition t ++ []) ≡ length (spell_transition t) = ap length (append-nil (spell_transition t)) in
    omega (arith, body-is ts, body-is (ts ++ t ∷ []), joined, length-append (flat_map spell_transition ts) (spell_transition t ++ []), alone)

take-next : (n : ℕ) (ts : List Transition) (t : Transition) → slice_get ts n ≡ Some t → take (suc n) ts ≡ take n ts ++ t ∷ []
take-next zero [] t e = absurd cc
take-next zero (x ∷ ts) t e = let same : x ≡ t = cc in ap (λ (y : Transition). y ∷ []) same
take-next (suc n) [] t e = absurd cc
take-next (suc n) (x ∷ ts) t e = ap (λ (l : List Transition). x ∷ l) (take-next n ts t e)

take_more : (n : ℕ) (ts : List Transition) (t : Transition) → slice_get ts n ≡ Some t → take (n + 1) ts ≡ take n ts ++ t ∷ []
take_more n ts t e = let one : n + 1 ≡ suc n = omega arith in ap (λ (m : ℕ). take m ts) one ∙ take-next n ts t e

pub len_more : (n : ℕ) (ts : List Transition) (t : Transition) → slice_get ts n ≡ Some t → body_len (take (n + 1) ts) ≡ body_len (take n ts) + length (spell_transition t)
len_more n ts t e = ap body_len (take_more n ts t e) ∙ body-more (take n ts) t

-- fewer have no more
pub len_less : (n : ℕ) (ts : List Transition) → body_len (take n ts) ≤ body_len ts
len_less n ts =
    let cut : length (flat_map spell_transition (take n ts) ++ flat_map spell_transition (drop n ts)) ≡ length (flat_map spell_transition ts) =
    ap length (sym (flat_map-append spell_transition (take n ts) (drop n ts)) ∙ ap (λ (l : List Transition). flat_map spell_transition l) (take-append-drop n ts)) in
    omega (arith, body-is ts, body-is (take n ts), cut, length-append (flat_map spell_transition (take n ts)) (flat_map spell_transition (drop n ts)))

-- a record that didn't pass the limit is closed where no more come
pub closed_at_end : (ts : List Transition) → body_len ts ≤ PIECE_LIMIT → IsClosed ts
closed_at_end ts le = let less : body_len (take (length ts - 1) ts) ≤ body_len ts = len_less (length ts - 1) ts in omega (arith, le, less)

-- what is counted is the length, where it doesn't pass the limit
pub counted : (size len spelled sum before after : ℕ) → spelled ≡ min len (2 ^ 64 - 1) → sum ≡ min (size + spelled) (2 ^ 64 - 1) → size ≡ before → after ≡ before + len → sum ≤ PIECE_LIMIT → sum ≡ after
counted size len spelled sum before after a b d e low = let limit : PIECE_LIMIT ≡ 1048576 = refl in omega (arith, a, b, d, e, low, limit)

-- and where it passes it the length does
pub over_limit : (size len spelled sum before after : ℕ) → spelled ≡ min len (2 ^ 64 - 1) → sum ≡ min (size + spelled) (2 ^ 64 - 1) → size ≡ before → after ≡ before + len → PIECE_LIMIT < sum → PIECE_LIMIT < after
over_limit size len spelled sum before after a b d e high = omega (arith, a, b, d, e, high)
