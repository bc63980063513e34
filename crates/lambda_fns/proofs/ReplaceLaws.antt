-- How the replaced text grows, place by place.
use Rattle.std.proofs.Common.{◌≡◌, ℕ, zero, suc, ◌+◌, ◌-◌, ◌<◌, List, [], ◌∷◌, ◌++◌, length, take, drop, Option, None, Some, refl, ap, arith, append_assoc, append-nil}
use Rattle.std.specs.Char.{encode_utf8}
use Rattle.std.specs.List.{flat_map}
use Rattle.std.specs.Option.{option_map_or}
use Rattle.std.specs.Str.{chars, encode_utf8_all}
use Rattle.std.specs.Str.Pattern.{FindsText, SplitsAroundMatch}
use Rattle.std.proofs.lemmas.List.{length-append}
use Rattle.std.proofs.lemmas.Str.{chars-nil}
use Rattle.lambda_fns.specs.Texts.{first_place, text_of_pieces, piece, pieces, pieces_behind, pieces_between}
use Rattle.lambda_fns.proofs.PlaceLaws.{first_place_is, first_place_none}

-- b before each piece
each_behind : (b p : List ℕ) (ps : List (List ℕ)) → flat_map (λ q. b ++ q) (p ∷ ps) ≡ b ++ text_of_pieces b (p ∷ ps)
each_behind b p ps = append_assoc b p (flat_map (λ q. b ++ q) ps)

alone : (b p : List ℕ) → text_of_pieces b (p ∷ []) ≡ p
alone b p = append-nil p

behind_pieces : (n : ℕ) (a b s : List ℕ) → flat_map (λ q. b ++ q) (pieces n a s) ≡ b ++ text_of_pieces b (pieces n a s)
unfolding pieces
behind_pieces zero a b s = each_behind b s []
behind_pieces (suc n) a b s = go (first_place a s)
  where
    go : (o : Option ℕ) → flat_map (λ q. b ++ q) (option_map_or (λ i. take i s ∷ pieces n a (drop (i + length a) s)) o (s ∷ [])) ≡ b ++ text_of_pieces b (option_map_or (λ i. take i s ∷ pieces n a (drop (i + length a) s)) o (s ∷ []))
    go None = each_behind b s []
    go (Some i) = each_behind b (take i s) (pieces n a (drop (i + length a) s))

-- s with b in the place of a
abbrev pub with_places : ℕ → List ℕ → List ℕ → List ℕ → List ℕ
with_places n a b s = text_of_pieces b (pieces n a s)

pub with_places_none : (n : ℕ) (a b s : List ℕ) → first_place a s ≡ None → with_places n a b s ≡ s
unfolding pieces
with_places_none zero a b s none = alone b s
with_places_none (suc n) a b s none = rw none (alone b s)

pub with_places_more : (n i : ℕ) (a b s : List ℕ) → 0 < n → first_place a s ≡ Some i → with_places n a b s ≡ take i s ++ (b ++ with_places (n - 1) a b (drop (i + length a) s))
unfolding pieces
with_places_more zero i a b s some e = absurd (omega arith)
with_places_more (suc n) i a b s some e =
    let back : suc n - 1 ≡ n = omega arith in
    rw (e, back) (ap (λ (t : List ℕ). take i s ++ t) (behind_pieces n a b (drop (i + length a) s)))

-- a round of the loop
pub step_kept : (n : ℕ) (a b rest made whole before after : List ℕ) → 0 < n → SplitsAroundMatch (FindsText a) rest before after → made ++ with_places n a b rest ≡ whole
    → ((made ++ before) ++ b) ++ with_places (n - 1) a b after ≡ whole
step_kept n a b rest made whole before after some h e =
    let ends : h.1 ≡ h.0 + length a = h.2.1.ends in
    let first = first_place_is a rest _ h.0 (omega arith) h.2.0 h.2.1.split in
    let behind : after ≡ drop (h.0 + length a) rest = rw (← ends) h.4 in
    let now : made ++ (take h.0 rest ++ (b ++ with_places (n - 1) a b (drop (h.0 + length a) rest))) ≡ whole = rw (with_places_more n h.0 a b rest some first) at e in
    rw (behind, h.3, append_assoc (made ++ take h.0 rest) b (with_places (n - 1) a b (drop (h.0 + length a) rest)), append_assoc made (take h.0 rest) (b ++ with_places (n - 1) a b (drop (h.0 + length a) rest))) now

-- no place is left
pub ended : (n : ℕ) (a b rest made whole : List ℕ) → FindsText a rest None → made ++ with_places n a b rest ≡ whole → made ++ rest ≡ whole
ended n a b rest made whole h e = rw (with_places_none n a b rest (first_place_none a rest h)) at e

-- or no round
pub spent : (n : ℕ) (a b rest made whole : List ℕ) → n ≡ 0 → made ++ with_places n a b rest ≡ whole → made ++ rest ≡ whole
unfolding pieces
spent n a b rest made whole none e = rw (none, alone b rest) at e

-- a front that is too long makes the whole too long
pub too_long : (front back whole : List ℕ) (n : ℕ) → front ++ back ≡ whole → n < length front → n < length whole
too_long front back whole n e h = rw (← e) (omega (arith, length-append front back))

-- characters with b at their first n places
abbrev pub between : ℕ → List ℕ → List ℕ → List ℕ
between n b cs = text_of_pieces b (pieces_between n cs)

behind_characters : (n : ℕ) (b cs : List ℕ) → flat_map (λ q. b ++ q) (pieces_behind n cs) ≡ b ++ text_of_pieces b (pieces_behind n cs)
unfolding pieces_behind
behind_characters zero b cs = each_behind b (encode_utf8_all cs) []
behind_characters (suc n) b [] = each_behind b [] []
behind_characters (suc n) b (c ∷ cs) = each_behind b (encode_utf8 c) (pieces_behind n cs)

pub between_step : (n : ℕ) (b cs : List ℕ) (c : ℕ) → between n b (c ∷ cs) ≡ piece n b ++ (encode_utf8 c ++ between (n - 1) b cs)
unfolding pieces_behind
between_step zero b cs c = rw (alone b (encode_utf8_all (c ∷ cs)), alone b (encode_utf8_all cs)) refl
between_step (suc n) b cs c =
    let back : suc n - 1 ≡ n = omega arith in
    rw (back, behind_characters n b (c ∷ cs)) (ap (λ (t : List ℕ). b ++ t) (after n))
  where
    after : (n : ℕ) → text_of_pieces b (pieces_behind n (c ∷ cs)) ≡ encode_utf8 c ++ between n b cs
    after zero = rw (alone b (encode_utf8_all (c ∷ cs)), alone b (encode_utf8_all cs)) refl
    after (suc n) = refl

pub between_nil : (n : ℕ) (b : List ℕ) → between n b [] ≡ piece n b
unfolding pieces_behind
between_nil zero b = refl
between_nil (suc n) b = rw (behind_characters n b []) (last n)
  where
    last : (n : ℕ) → b ++ text_of_pieces b (pieces_behind n []) ≡ b
    last zero = append-nil b
    last (suc n) = append-nil b

-- a round of the loop over characters
pub spread_kept : (n : ℕ) (b cs made whole : List ℕ) (c : ℕ) → made ++ between n b (c ∷ cs) ≡ whole → ((made ++ piece n b) ++ encode_utf8 c) ++ between (n - 1) b cs ≡ whole
spread_kept n b cs made whole c e =
    let now : made ++ (piece n b ++ (encode_utf8 c ++ between (n - 1) b cs)) ≡ whole = rw (between_step n b cs c) at e in
    rw (append_assoc (made ++ piece n b) (encode_utf8 c) (between (n - 1) b cs), append_assoc made (piece n b) (encode_utf8 c ++ between (n - 1) b cs)) now

-- no character is left
pub spread_done : (n : ℕ) (b rest made whole : List ℕ) → length rest ≡ 0 → made ++ between n b (chars rest) ≡ whole → made ++ piece n b ≡ whole
spread_done n b [] made whole none e = rw (chars-nil, between_nil n b) at e
spread_done n b (x ∷ xs) made whole none e = absurd (omega arith)
