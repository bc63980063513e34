-- Lives that run while points come of which none begins or ends one.
use Rattle.std.proofs.Common.{◌≡◌, ℕ, zero, suc, ◌+◌, ◌-◌, ◌<◌, ◌≤◌, Bool, true, false, cond, List, [], ◌∷◌, ◌++◌, length, map, drop, Option, None, Some, inl, inr, refl, sym, ap, subst, ◌∙◌, arith}
use Rattle.std.specs.Prelude.{Contains, MatchOption, slice_get}
use Rattle.std.specs.List.{AllByRecursion as Each, remove}
use Rattle.std.specs.Option.{option_map_or}
use Rattle.store_records.specs.declared.task.Life.{Life}
use Rattle.life_effects.specs.Effects.{Fares, before, later, through}
use Rattle.engine_runs.specs.Spans.{AreThere, FirstsRise, HasEnded, HasEndedBy, IsAway, IsOnward, IsOpenOver, IsThere, Spans, last_of, numbers_from, picked}

-- what holds of each follows for each
pub each_to : {A : Type 0} (P Q : A → Type 0) (xs : List A) → ((x : A) → P x → Q x) → Each P xs → Each Q xs
each_to P Q [] f h = tt
each_to P Q (x ∷ xs) f h = (f x h.0, each_to P Q xs f h.1)

pub each_drop : {A : Type 0} (P : A → Type 0) (i : ℕ) (xs : List A) → Each P xs → Each P (drop i xs)
each_drop P zero xs h = h
each_drop P (suc i) [] h = tt
each_drop P (suc i) (x ∷ xs) h = each_drop P i xs h.1

-- ---- one life

pub onward_less : (x y : ℕ) (last : Option ℕ) → y ≤ x → IsOnward x last → IsOnward y last
onward_less x y None le h = tt
onward_less x y (Some l) le h = let high : x ≤ l = h in omega (arith, high, le)

open_part : (k a b n : ℕ) (life : Life) → a + b ≤ n → IsOpenOver k n life → IsOpenOver (k + a) b life
open_part k a b n life le h =
    let began : life.first ≤ k + 1 = h.began in
    record { first = h.first; began = omega (arith, began); onward = onward_less (k + n) (k + a + b) life.last (omega (arith, le)) h.onward }

ended_on : (k m : ℕ) (life : Life) → k ≤ m → HasEnded k life → HasEnded m life
ended_on k m life le h =
    let began : life.first ≤ k + 1 = h.began in
    let ended : h.last ≤ k = h.ended in
    record { first = h.first; began = omega (arith, began, le); last = h.last; is = h.is; ended = omega (arith, ended, le) }

away_part : (k a b n : ℕ) (life : Life) → a + b ≤ n → IsAway k n life → IsAway (k + a) b life
away_part k a b n life le (inl lt) = inl (omega (arith, le, lt))
away_part k a b n life le (inr h) = inr (ended_on k (k + a) life (omega arith) h)

there_part : (k a b n : ℕ) (runs : Bool) (life : Life) → a + b ≤ n → IsThere k n runs life → IsThere (k + a) b runs life
there_part k a b n true life le h = open_part k a b n life le h
there_part k a b n false life le h = ended_on k (k + a) life (omega arith) h

-- ---- a part of the points

are_there_part : (k a b n : ℕ) (runs : List Bool) (lives : List Life) → a + b ≤ n → AreThere k n runs lives → AreThere (k + a) b runs lives
are_there_part k a b n [] lives le h = tt
are_there_part k a b n (r ∷ runs) [] le h = absurd h
are_there_part k a b n (r ∷ runs) (life ∷ lives) le h = (there_part k a b n r life le h.0, are_there_part k a b n runs lives le h.1)

-- behind a of n points, where b more come
pub spans_part : (k a b n : ℕ) (runs : List Bool) (lives : List Life) → a + b ≤ n → Spans k n runs lives → Spans (k + a) b runs lives
spans_part k a b n runs lives le h = record {
  there = are_there_part k a b n runs lives le h.there;
  away = each_to (IsAway k n) (IsAway (k + a) b) (drop (length runs) lives) (λ life. away_part k a b n life le) h.away;
}

-- fewer points
pub spans_less : (k m n : ℕ) (runs : List Bool) (lives : List Life) → m ≤ n → Spans k n runs lives → Spans k m runs lives
spans_less k m n runs lives le h =
    let same : k + 0 ≡ k = omega arith in
    subst (λ (i : ℕ). Spans i m runs lives) same (spans_part k 0 m n runs lives (omega (arith, le)) h)

-- ---- how lives fare

away_fares : (k n : ℕ) (life : Life) → IsAway k n life → Fares k n life
away_fares k n life (inl lt) = later lt
away_fares k n life (inr h) = before h.first h.began h.last h.is h.ended

there_fares : (k n : ℕ) (runs : Bool) (life : Life) → IsThere k n runs life → Fares k n life
there_fares k n true life h = through h.first h.began h.onward
there_fares k n false life h = before h.first h.began h.last h.is h.ended

fare_by : (k n : ℕ) (runs : List Bool) (lives : List Life) → AreThere k n runs lives → Each (IsAway k n) (drop (length runs) lives) → Each (Fares k n) lives
fare_by k n [] lives there away = each_to (IsAway k n) (Fares k n) lives (away_fares k n) away
fare_by k n (r ∷ runs) [] there away = absurd there
fare_by k n (r ∷ runs) (life ∷ lives) there away = (there_fares k n r life there.0, fare_by k n runs lives there.1 away)

pub spans_fare : (k n : ℕ) (runs : List Bool) (lives : List Life) → Spans k n runs lives → Each (Fares k n) lives
spans_fare k n runs lives h = fare_by k n runs lives h.there h.away

-- ---- their last stamps

-- more points come, where none ends before
pub there_onward : (k m n : ℕ) (runs : List Bool) (lives : List Life) → AreThere k m runs lives → Each (IsOnward (k + n)) (picked runs (map (λ life. life.last) lives)) → AreThere k n runs lives
there_onward k m n [] lives h on = tt
there_onward k m n (r ∷ runs) [] h on = absurd h
there_onward k m n (true ∷ runs) (life ∷ lives) h on = (record { first = h.0.first; began = h.0.began; onward = on.0 }, there_onward k m n runs lives h.1 on.1)
there_onward k m n (false ∷ runs) (life ∷ lives) h on = (h.0, there_onward k m n runs lives h.1 on)

numbers-above : (n : ℕ) (runs : List Bool) (lives : List Life) → Each (λ number. n ≤ number) (picked runs (numbers_from n lives))
numbers-above n [] lives = tt
numbers-above n (r ∷ runs) [] = tt
numbers-above n (true ∷ runs) (life ∷ lives) = (omega arith, each_to (λ number. n + 1 ≤ number) (λ number. n ≤ number) (picked runs (numbers_from (n + 1) lives)) (λ number (le : n + 1 ≤ number). omega (arith, le)) (numbers-above (n + 1) runs lives))
numbers-above n (false ∷ runs) (life ∷ lives) = each_to (λ number. n + 1 ≤ number) (λ number. n ≤ number) (picked runs (numbers_from (n + 1) lives)) (λ number (le : n + 1 ≤ number). omega (arith, le)) (numbers-above (n + 1) runs lives)

last-from : ℕ → List Life → ℕ → Option ℕ
last-from n lives number = option_map_or (λ life. life.last) (slice_get lives (number - n)) None

last-behind : (n : ℕ) (life : Life) (lives : List Life) (number : ℕ) → n + 1 ≤ number → last-from n (life ∷ lives) number ≡ last-from (n + 1) lives number
unfolding last-from
last-behind n life lives number le =
    let one : number - n ≡ suc (number - (n + 1)) = omega (arith, le) in
    ap (λ (i : ℕ). option_map_or (λ (l : Life). l.last) (slice_get (life ∷ lives) i) None) one

lasts-behind : (n : ℕ) (life : Life) (lives : List Life) (numbers : List ℕ) → Each (λ number. n + 1 ≤ number) numbers → map (last-from n (life ∷ lives)) numbers ≡ map (last-from (n + 1) lives) numbers
lasts-behind n life lives [] h = refl
lasts-behind n life lives (number ∷ numbers) h = rw (last-behind n life lives number h.0, lasts-behind n life lives numbers h.1) refl

lasts-from : (n : ℕ) (runs : List Bool) (lives : List Life) → map (last-from n lives) (picked runs (numbers_from n lives)) ≡ picked runs (map (λ life. life.last) lives)
unfolding last-from
lasts-from n [] lives = refl
lasts-from n (r ∷ runs) [] = refl
lasts-from n (true ∷ runs) (life ∷ lives) =
    let own : n - n ≡ 0 = omega arith in
    ap (λ (i : ℕ). option_map_or (λ (l : Life). l.last) (slice_get (life ∷ lives) i) None ∷ map (last-from n (life ∷ lives)) (picked runs (numbers_from (n + 1) lives))) own
    ∙ ap (λ (ls : List (Option ℕ)). life.last ∷ ls) (lasts-behind n life lives (picked runs (numbers_from (n + 1) lives)) (numbers-above (n + 1) runs lives) ∙ lasts-from (n + 1) runs lives)
lasts-from n (false ∷ runs) (life ∷ lives) = lasts-behind n life lives (picked runs (numbers_from (n + 1) lives)) (numbers-above (n + 1) runs lives) ∙ lasts-from (n + 1) runs lives

-- those of the lives with these numbers
pub lasts_picked : (runs : List Bool) (lives : List Life) → map (last_of lives) (picked runs (numbers_from 1 lives)) ≡ picked runs (map (λ life. life.last) lives)
unfolding last-from
lasts_picked runs lives = lasts-from 1 runs lives

-- ---- a life that ends

-- without the one at this place among those with true
abbrev pub without : List Bool → ℕ → List Bool
without [] place = []
without (true ∷ runs) zero = false ∷ runs
without (true ∷ runs) (suc place) = true ∷ without runs place
without (false ∷ runs) place = false ∷ without runs place

pub without_length : (runs : List Bool) (place : ℕ) → length (without runs place) ≡ length runs
without_length [] place = refl
without_length (true ∷ runs) zero = refl
without_length (true ∷ runs) (suc place) = ap suc (without_length runs place)
without_length (false ∷ runs) place = ap suc (without_length runs place)

pub picked_without : {A : Type 0} (runs : List Bool) (xs : List A) (place : ℕ) → picked (without runs place) xs ≡ remove (picked runs xs) place
picked_without [] xs zero = refl
picked_without [] xs (suc place) = refl
picked_without (true ∷ runs) [] zero = refl
picked_without (true ∷ runs) [] (suc place) = refl
picked_without (false ∷ runs) [] zero = refl
picked_without (false ∷ runs) [] (suc place) = refl
picked_without (true ∷ runs) (x ∷ xs) zero = refl
picked_without (true ∷ runs) (x ∷ xs) (suc place) = ap (λ (l : List _). x ∷ l) (picked_without runs xs place)
picked_without (false ∷ runs) (x ∷ xs) place = picked_without runs xs place

same-last : (a b : Option ℕ) → Some a ≡ Some b → a ≡ b
same-last a b e = cc

-- one that has ended runs no more
pub there_without : (k last place : ℕ) (runs : List Bool) (lives : List Life) → AreThere k 0 runs lives → slice_get (picked runs (map (λ life. life.last) lives)) place ≡ Some (Some last) → last ≤ k → AreThere k 0 (without runs place) lives
there_without k last place [] lives h at low = tt
there_without k last place (r ∷ runs) [] h at low = absurd h
there_without k last zero (true ∷ runs) (life ∷ lives) h at low = (record { first = h.0.first; began = h.0.began; last = last; is = same-last life.last (Some last) at; ended = low }, h.1)
there_without k last (suc place) (true ∷ runs) (life ∷ lives) h at low = (h.0, there_without k last place runs lives h.1 at low)
there_without k last place (false ∷ runs) (life ∷ lives) h at low = (h.0, there_without k last place runs lives h.1 at low)

-- ---- a life that begins

pub picked_more : {A : Type 0} (runs : List Bool) (xs : List A) (x : A) (r : Bool) → slice_get xs (length runs) ≡ Some x → picked (runs ++ r ∷ []) xs ≡ picked runs xs ++ cond r (x ∷ []) []
picked_more [] [] x r at = absurd cc
picked_more [] (y ∷ xs) x true at = let same : y ≡ x = cc in ap (λ (z : _). z ∷ picked [] xs) same
picked_more [] (y ∷ xs) x false at = refl
picked_more (s ∷ runs) [] x r at = absurd cc
picked_more (true ∷ runs) (y ∷ xs) x r at = ap (λ (l : List _). y ∷ l) (picked_more runs xs x r at)
picked_more (false ∷ runs) (y ∷ xs) x r at = picked_more runs xs x r at

pub there_more : (k n : ℕ) (runs : List Bool) (lives : List Life) (life : Life) (r : Bool) → AreThere k n runs lives → slice_get lives (length runs) ≡ Some life → IsThere k n r life → AreThere k n (runs ++ r ∷ []) lives
there_more k n [] [] life r h at is = absurd cc
there_more k n [] (other ∷ lives) life r h at is = let same : other ≡ life = cc in (subst (λ (l : Life). IsThere k n r l) (sym same) is, tt)
there_more k n (s ∷ runs) [] life r h at is = absurd h
there_more k n (s ∷ runs) (other ∷ lives) life r h at is = (h.0, there_more k n runs lives life r h.1 at is)

-- the life at the place is the first of those behind
pub away_at : (k n i : ℕ) (lives : List Life) (life : Life) → Each (IsAway k n) (drop i lives) → slice_get lives i ≡ Some life → IsAway k n life
away_at k n zero [] life h at = absurd cc
away_at k n zero (other ∷ lives) life h at = let same : other ≡ life = cc in subst (λ (l : Life). IsAway k n l) same h.0
away_at k n (suc i) [] life h at = absurd cc
away_at k n (suc i) (other ∷ lives) life h at = away_at k n i lives life h at

-- where the first of those behind begins later, all do
pub away_later : (k n i : ℕ) (lives : List Life) (life : Life) → FirstsRise lives → slice_get lives i ≡ Some life → k + n < life.first → Each (IsAway k n) (drop i lives)
away_later k n zero [] life rise at lt = absurd cc
away_later k n zero (other ∷ lives) life rise at lt =
    let same : other ≡ life = cc in
    let here : k + n < other.first = subst (λ (l : Life). k + n < l.first) (sym same) lt in
    (inl here, each_to (λ (l : Life). other.first ≤ l.first) (IsAway k n) lives (λ l (le : other.first ≤ l.first). inl (omega (arith, here, le))) rise.0)
away_later k n (suc i) [] life rise at lt = absurd cc
away_later k n (suc i) (other ∷ lives) life rise at lt = away_later k n i lives life rise.1 at lt

-- where there are none behind
pub away_none : (k n i : ℕ) (lives : List Life) → slice_get lives i ≡ None → Each (IsAway k n) (drop i lives)
away_none k n zero [] at = tt
away_none k n zero (life ∷ lives) at = absurd cc
away_none k n (suc i) [] at = tt
away_none k n (suc i) (life ∷ lives) at = away_none k n i lives at

-- ---- of lives in a net the first that has ended

contains-behind : (x y : ℕ) (xs : List ℕ) → Contains xs y → Contains (x ∷ xs) y
contains-behind x y xs h = let lt : h.0 < length xs = h.1 in (suc h.0, omega (arith, lt), h.2)

-- the first one hasn't, and this is the first of the others that has, if one has
pub ended_behind : (points : ℕ) (lives : List Life) (x : ℕ) (xs all : List ℕ) (r : Option ℕ) → all ≡ x ∷ xs → IsOnward (points + 1) (last_of lives x)
    → MatchOption r (Each (IsOnward (points + 1)) (map (last_of lives) xs)) (λ number. Contains xs number × HasEndedBy points (last_of lives number))
    → MatchOption r (Each (IsOnward (points + 1)) (map (last_of lives) all)) (λ number. Contains all number × HasEndedBy points (last_of lives number))
ended_behind points lives x xs all None e on h = subst (λ (l : List ℕ). Each (IsOnward (points + 1)) (map (last_of lives) l)) (sym e) (on, h)
ended_behind points lives x xs all (Some number) e on h = (subst (λ (l : List ℕ). Contains l number) (sym e) (contains-behind x number xs h.0), h.1)
