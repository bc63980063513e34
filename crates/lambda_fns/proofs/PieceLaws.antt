-- A text's pieces make the text again, and the first place is the first.
use Rattle.std.proofs.Common.{◌≡◌, ℕ, zero, suc, ◌+◌, ◌-◌, ◌<◌, ◌≤◌, Bool, true, false, List, [], ◌∷◌, ◌++◌, length, take, drop, Option, None, Some, option_map, refl, sym, ap, ◌∙◌, arith, append-nil}
use Rattle.std.specs.Prelude.{nat_eq, cond, MatchOption}
use Rattle.std.specs.Char.{encode_utf8}
use Rattle.std.specs.List.{starts_with}
use Rattle.std.specs.Option.{option_map_or}
use Rattle.std.specs.Str.{encode_utf8_all}
use Rattle.std.proofs.lemmas.Bool.Decides.{Decides-eqb}
use Rattle.std.proofs.lemmas.List.{length-append, length-drop, take-append-drop, drop-drop}
use Rattle.std.proofs.lemmas.Slice.Eq.{starts_is}
use Rattle.lambda_fns.specs.Texts.{first_place, text_of_pieces, pieces, pieces_between, last_piece, piece, stands_at, IsFirst, IsNowhere}
use Rattle.lambda_fns.proofs.ReplaceLaws.{with_places, with_places_none, with_places_more, between_step, between_nil}

at_start : (a : List ℕ) (b : Bool) → starts_with nat_eq [] a ≡ b → MatchOption (cond b (Some 0) None) (IsNowhere a []) (λ i. IsFirst a [] i)
at_start a true e = record { within = omega arith; here = e; before = λ k lt. absurd (omega arith) }
at_start a false e = λ i le. let zero_is : i ≡ 0 = omega arith in rw zero_is e

further : (a cs : List ℕ) (c : ℕ) (o : Option ℕ) → starts_with nat_eq (c ∷ cs) a ≡ false → MatchOption o (IsNowhere a cs) (λ i. IsFirst a cs i)
    → MatchOption (option_map (λ i. i + 1) o) (IsNowhere a (c ∷ cs)) (λ i. IsFirst a (c ∷ cs) i)
further a cs c None e nowhere = go
  where
    go : (i : ℕ) → i ≤ length (c ∷ cs) → stands_at a (c ∷ cs) i ≡ false
    go zero le = e
    go (suc i) le = nowhere i (omega arith)
further a cs c (Some i) e first = let next : i + 1 ≡ suc i = omega arith in rw next (record { within = inside; here = first.here; before = earlier })
  where
    inside : suc i ≤ length (c ∷ cs)
    inside = let le = first.within in omega arith

    earlier : (k : ℕ) → k < suc i → stands_at a (c ∷ cs) k ≡ false
    earlier zero lt = e
    earlier (suc k) lt = first.before k (omega arith)

pub first_laws : (a s : List ℕ) → MatchOption (first_place a s) (IsNowhere a s) (λ i. IsFirst a s i)
unfolding first_place
first_laws a [] = at_start a (starts_with nat_eq [] a) refl
first_laws a (c ∷ cs) = go (starts_with nat_eq (c ∷ cs) a) refl (first_laws a cs)
  where
    go : (b : Bool) → starts_with nat_eq (c ∷ cs) a ≡ b → MatchOption (first_place a cs) (IsNowhere a cs) (λ i. IsFirst a cs i)
        → MatchOption (cond b (Some 0) (option_map (λ i. i + 1) (first_place a cs))) (IsNowhere a (c ∷ cs)) (λ i. IsFirst a (c ∷ cs) i)
    go true e others = record { within = omega arith; here = e; before = λ k lt. absurd (omega arith) }
    go false e others = further a cs c (first_place a cs) e others

first_at : (a s : List ℕ) (i : ℕ) → first_place a s ≡ Some i → IsFirst a s i
first_at a s i e = rw e at (first_laws a s)

-- what stands behind a place begins with a
behind_place : (a s : List ℕ) (i : ℕ) → IsFirst a s i → a ++ drop (i + length a) s ≡ drop i s
behind_place a s i first =
    let split = (starts_is Decides-eqb (drop i s) a (starts_with nat_eq (drop i s) a) refl).0 first.here in
    rw drop-drop at (sym split)

pub pieces_again : (n : ℕ) (a s : List ℕ) → text_of_pieces a (pieces n a s) ≡ s
unfolding pieces
pieces_again zero a s = append-nil s
pieces_again (suc n) a s = go (λ i. pieces_again n a (drop (i + length a) s)) (first_place a s) refl
  where
    go : ((i : ℕ) → text_of_pieces a (pieces n a (drop (i + length a) s)) ≡ drop (i + length a) s) → (o : Option ℕ) → first_place a s ≡ o → text_of_pieces a (pieces (suc n) a s) ≡ s
    go others None none = with_places_none (suc n) a a s none
    go others (Some i) e =
        let back : suc n - 1 ≡ n = omega arith in
        let more : with_places (suc n) a a s ≡ take i s ++ drop i s = rw (back, others i, behind_place a s i (first_at a s i e)) at (with_places_more (suc n) i a a s (omega arith) e) in
        more ∙ take-append-drop i s

pub pieces_at_most : (n : ℕ) (a s : List ℕ) → length (pieces n a s) ≤ n + 1
unfolding pieces
pieces_at_most zero a s = omega arith
pieces_at_most (suc n) a s = go (λ i. pieces_at_most n a (drop (i + length a) s)) (first_place a s)
  where
    go : ((i : ℕ) → length (pieces n a (drop (i + length a) s)) ≤ n + 1) → (o : Option ℕ) → length (option_map_or (λ i. take i s ∷ pieces n a (drop (i + length a) s)) o (s ∷ [])) ≤ suc n + 1
    go others None = omega arith
    go others (Some i) = let le = others i in omega arith

last_of_more : (n : ℕ) (a s p : List ℕ) → last_piece (p ∷ pieces n a s) ≡ last_piece (pieces n a s)
unfolding pieces
last_of_more zero a s p = refl
last_of_more (suc n) a s p = go (first_place a s)
  where
    go : (o : Option ℕ) → last_piece (p ∷ option_map_or (λ i. take i s ∷ pieces n a (drop (i + length a) s)) o (s ∷ [])) ≡ last_piece (option_map_or (λ i. take i s ∷ pieces n a (drop (i + length a) s)) o (s ∷ []))
    go None = refl
    go (Some i) = refl

pub none_is_left : (n : ℕ) (a s : List ℕ) → 0 < length a → length s < n → first_place a (last_piece (pieces n a s)) ≡ None
unfolding pieces
none_is_left zero a s some lt = absurd (omega arith)
none_is_left (suc n) a s some lt = go (λ i. none_is_left n a (drop (i + length a) s) some) (first_place a s) refl
  where
    go : ((i : ℕ) → length (drop (i + length a) s) < n → first_place a (last_piece (pieces n a (drop (i + length a) s))) ≡ None) → (o : Option ℕ) → first_place a s ≡ o
        → first_place a (last_piece (option_map_or (λ i. take i s ∷ pieces n a (drop (i + length a) s)) o (s ∷ []))) ≡ None
    go others None none = none
    go others (Some i) e = rw last_of_more (others i (shorter i (first_at a s i e)))
      where
        shorter : (i : ℕ) → IsFirst a s i → length (drop (i + length a) s) < n
        shorter i first =
            let same = simp (length-append, length-drop) at (ap length (behind_place a s i first)) in
            omega (arith, length-drop (i + length a) s)

nothing : (n : ℕ) → piece n [] ≡ []
nothing zero = refl
nothing (suc n) = refl

-- characters, cut behind each
pub characters_again : (n : ℕ) (cs : List ℕ) → text_of_pieces [] (pieces_between n cs) ≡ encode_utf8_all cs
characters_again n [] = between_nil n [] ∙ nothing n
characters_again n (c ∷ cs) = between_step n [] cs c ∙ rw (nothing n) (ap (λ (t : List ℕ). encode_utf8 c ++ t) (characters_again (n - 1) cs))
