-- No value of a query is longer than the query.
use Rattle.std.specs.Prelude.{if◌then◌else◌}
use Rattle.std.proofs.Common.{ℕ, ◌==◌, ◌+◌, ◌≤◌, true, false, List, [], ◌∷◌, length, map, filter, arith, bytes_eq}
use Rattle.std.specs.List.{position_or_len}
use Rattle.std.proofs.lemmas.List.{length-map, length-drop}
use Rattle.percent_encoding.proofs.PercentLemmas.{length-percent_decode}
use Rattle.form_urlencoded.specs.Form.{decode, is_nonempty, onto_first, plus_to_space, raw_pairs, split, split_pair}
use Rattle.kap_http.specs.Queries.{value_of}

-- none of the lists is longer
abbrev AreWithin : ℕ → List (List ℕ) → Type 0
AreWithin n [] = Unit {0}
AreWithin n (piece ∷ pieces) = (length piece ≤ n) × AreWithin n pieces

weaker : (n m : ℕ) (pieces : List (List ℕ)) → n ≤ m → AreWithin n pieces → AreWithin m pieces
weaker n m [] le all = tt
weaker n m (piece ∷ pieces) le all = (let here = all.0 in omega arith, weaker n m pieces le all.1)

onto_within : (b n : ℕ) (pieces : List (List ℕ)) → AreWithin n pieces → AreWithin (n + 1) (onto_first b pieces)
onto_within b n [] all = (omega arith, tt)
onto_within b n (piece ∷ pieces) all = (let here = all.0 in omega arith, weaker n (n + 1) pieces (omega arith) all.1)

pieces_within : (bytes : List ℕ) → AreWithin (length bytes) (split 38 bytes)
unfolding split
pieces_within [] = (omega arith, tt)
pieces_within (b ∷ bytes) =
    elim (b == 38) as (λ t. AreWithin (length (b ∷ bytes)) (if t then [] ∷ split 38 bytes else onto_first b (split 38 bytes))) [
      | true ↦ (omega arith, weaker (length bytes) (length (b ∷ bytes)) (split 38 bytes) (omega arith) (pieces_within bytes))
      | false ↦ weaker (length bytes + 1) (length (b ∷ bytes)) (onto_first b (split 38 bytes)) (omega arith) (onto_within b (length bytes) (split 38 bytes) (pieces_within bytes))
    ]

decode_len : (bytes : List ℕ) → length (decode bytes) ≤ length bytes
decode_len bytes = omega (arith, (length-percent_decode (map plus_to_space bytes)).0, length-map bytes plus_to_space)

behind_len : (piece : List ℕ) → length ((split_pair piece).1) ≤ length piece
behind_len piece = omega (arith, length-drop (position_or_len (λ b. b == 61) piece + 1) piece)

found_len : (name : List ℕ) (n : ℕ) (pieces : List (List ℕ)) → AreWithin n pieces → length (value_of name (map split_pair (filter is_nonempty pieces))) ≤ n
found_len name n [] all = omega arith
found_len name n (piece ∷ pieces) all =
    elim (is_nonempty piece) as (λ t. length (value_of name (map split_pair (if t then piece ∷ filter is_nonempty pieces else filter is_nonempty pieces))) ≤ n) [
      | true ↦ elim (bytes_eq (decode ((split_pair piece).0)) name) as (λ t. length (if t then decode ((split_pair piece).1) else value_of name (map split_pair (filter is_nonempty pieces))) ≤ n) [
        | true ↦ let here = all.0 in omega (arith, decode_len ((split_pair piece).1), behind_len piece)
        | false ↦ found_len name n pieces all.1
      ]
      | false ↦ found_len name n pieces all.1
    ]

pub value_len : (name query : List ℕ) → length (value_of name (raw_pairs query)) ≤ length query
unfolding raw_pairs
value_len name query = found_len name (length query) (split 38 query) (pieces_within query)
