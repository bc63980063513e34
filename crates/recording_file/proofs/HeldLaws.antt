-- How many line feeds stand in bytes, and what the last three tell of it.
use Rattle.std.proofs.Common.{◌≡◌, ℕ, zero, suc, ◌+◌, ◌-◌, ◌<◌, ◌≤◌, Bool, true, false, cond, not, List, [], ◌∷◌, ◌++◌, length, take, drop, get_or, refl, sym, ap, ◌∙◌, subst, inl, inr, arith, drop-drop}
use Rattle.std.specs.List.{count_by, position_or_len}
use Rattle.std.proofs.lemmas.List.{take-append-drop}
use Rattle.std.proofs.lemmas.List.Sums.{sum_by-append, sum_by-cons, sum_by-drop_more, sum_by-take-drop}
use Rattle.std.specs.Prelude.{IsTrue}
use Rattle.recording_file.specs.Feeds.{Shows}
use Rattle.recording_file.specs.Finding.{ReadPlace, HoldsLines}
use Rattle.recording_file.specs.Lines.{is_feed}

-- ---- counts

pub count_more : (xs ys : List ℕ) → count_by is_feed (xs ++ ys) ≡ count_by is_feed xs + count_by is_feed ys
count_more xs ys = sum_by-append (λ b. cond (is_feed b) 1 0) xs ys

is_one : (f : Bool) → f ≡ true → cond {A = ℕ} f 1 0 ≡ 1
is_one f e = rw e refl

is_none : (f : Bool) → f ≡ false → cond {A = ℕ} f 1 0 ≡ 0
is_none f e = rw e refl

count_first : (x : ℕ) (xs : List ℕ) → count_by is_feed (x ∷ xs) ≡ cond (is_feed x) 1 0 + count_by is_feed xs
count_first x xs = sum_by-cons (λ b. cond (is_feed b) 1 0) x xs

-- behind fewer bytes as many stand at least
pub count_behind : (n m : ℕ) (xs : List ℕ) → n ≤ m → count_by is_feed (drop m xs) ≤ count_by is_feed (drop n xs)
count_behind n m xs le =
    let place : n + (m - n) ≡ m = omega arith in
    let parts = sum_by-take-drop (λ b. cond (is_feed b) 1 0) (drop n xs) (m - n) in
    let rest : count_by is_feed (drop (m - n) (drop n xs)) ≡ count_by is_feed (drop m xs) = ap (count_by is_feed) (drop-drop (m - n) n xs ∙ ap (λ (i : ℕ). drop i xs) place) in
    omega arith

-- with other bytes behind, those behind some of the first are these and those of the others
pub count_on : (n : ℕ) (xs ys : List ℕ) → 0 < count_by is_feed (drop n xs) → count_by is_feed (drop n (xs ++ ys)) ≡ count_by is_feed (drop n xs) + count_by is_feed ys
count_on zero xs ys some = count_more xs ys
count_on (suc n) [] ys some = absurd (omega arith)
count_on (suc n) (x ∷ xs) ys some = count_on n xs ys some

pub count_far : (xs ys : List ℕ) (n : ℕ) → count_by is_feed (drop (length xs + n) (xs ++ ys)) ≡ count_by is_feed (drop n ys)
count_far [] ys n = let same : length {A = ℕ} [] + n ≡ n = omega arith in ap (λ (i : ℕ). count_by is_feed (drop i ys)) same
count_far (x ∷ xs) ys n =
    let further : length (x ∷ xs) + n ≡ suc (length xs + n) = omega arith in
    rw further (count_far xs ys n)

-- one stands at this place
pub count_from : (xs : List ℕ) (n : ℕ) → n < length xs → is_feed (get_or xs n 0) ≡ true → 0 < count_by is_feed (drop n xs)
count_from xs n lt is =
    let parts = sum_by-drop_more (λ b. cond (is_feed b) 1 0) xs n 0 lt in
    let there = is_one (is_feed (get_or xs n 0)) is in
    omega arith

-- the first one ends the first line
pub count_line : (xs : List ℕ) (n : ℕ) → n ≡ position_or_len is_feed xs → n < length xs → count_by is_feed xs ≡ 1 + count_by is_feed (drop (n + 1) xs)
count_line [] n is lt = absurd (omega arith)
count_line (x ∷ xs) n is lt =
    let first = count_first x xs in
    elim (is_feed x) as (λ f. is_feed x ≡ f → n ≡ cond (not f) (1 + position_or_len is_feed xs) 0 → count_by is_feed (x ∷ xs) ≡ 1 + count_by is_feed (drop (n + 1) (x ∷ xs))) [
      | true ↦ λ e at.
          let there = is_one (is_feed x) e in
          let place : n + 1 ≡ 1 = omega arith in
          rw place (first ∙ ap (λ (i : ℕ). i + count_by is_feed xs) there)
      | false ↦ λ e at.
          let there = is_none (is_feed x) e in
          let place : n + 1 ≡ suc (position_or_len is_feed xs + 1) = omega arith in
          let rest = count_line xs (position_or_len is_feed xs) refl (omega arith) in
          let both : count_by is_feed (x ∷ xs) ≡ 1 + count_by is_feed (drop (position_or_len is_feed xs + 1) xs) = omega arith in
          rw place both
    ] refl is

-- none stands where the first is sought to the end
pub count_none : (xs : List ℕ) → position_or_len is_feed xs ≡ length xs → count_by is_feed xs ≡ 0
count_none [] none = refl
count_none (x ∷ xs) none =
    let first = count_first x xs in
    elim (is_feed x) as (λ f. is_feed x ≡ f → cond (not f) (1 + position_or_len is_feed xs) 0 ≡ suc (length xs) → count_by is_feed (x ∷ xs) ≡ 0) [
      | true ↦ λ e at. absurd (omega arith)
      | false ↦ λ e at.
          let there = is_none (is_feed x) e in
          let rest = count_none xs (omega arith) in
          omega arith
    ] refl none

-- ---- what the last ones tell

pub shows_kept : (k p : ℕ) (b c : List ℕ) (x : ℕ) → 0 < k → Shows k p b x → Shows k p (b ++ c) x
shows_kept k p b c x some told lt =
    let there = told lt in
    let same = count_on (x - p - 1) b c (omega arith) in
    omega arith

pub shows_more : (k m n p : ℕ) (b c : List ℕ) (x : ℕ) → 0 < k → m ≤ count_by is_feed c → n ≤ k + m → Shows k p b x → Shows n p (b ++ c) x
shows_more k m n p b c x some more few told lt =
    let there = told lt in
    let same = count_on (x - p - 1) b c (omega arith) in
    omega arith

pub shows_new : (k p start n : ℕ) (b c : List ℕ) (x : ℕ) → x ≤ start + n + 1 → start ≤ p + length b → k ≤ count_by is_feed (drop n c) → Shows k p (b ++ c) x
shows_new k p start n b c x at within more lt =
    let less = count_behind (x - p - 1) (length b + n) (b ++ c) (omega arith) in
    let same = count_far b c n in
    omega arith

pub shows_passed : (k p n : ℕ) (b : List ℕ) (x : ℕ) → Shows k p b x → Shows k (p + n) (drop n b) x
shows_passed k p n b x told lt =
    let place : n + (x - (p + n) - 1) ≡ x - p - 1 = omega arith in
    rw (drop-drop (x - (p + n) - 1) n b, place) (told (omega arith))

-- one that stands before this place stands before those behind it
pub count_before : (bytes : List ℕ) (at n : ℕ) → 0 < count_by is_feed (drop n (take at bytes)) → count_by is_feed (drop n bytes) ≡ count_by is_feed (drop n (take at bytes)) + count_by is_feed (drop at bytes)
count_before bytes at n some =
    subst (λ (l : List ℕ). count_by is_feed (drop n l) ≡ count_by is_feed (drop n (take at bytes)) + count_by is_feed (drop at bytes))
    (take-append-drop at bytes) (count_on n (take at bytes) (drop at bytes) some)

-- ---- what is held

-- where one that stands behind the passed bytes tells of so many, they are there
pub shown : (k p : ℕ) (b : List ℕ) (x : ℕ) → p < x → Shows k p b x → k ≤ count_by is_feed b
shown k p b x lt told =
    let all = count_behind 0 (x - p - 1) b (omega arith) in
    let there = told lt in
    omega arith

-- all line feeds that were read and aren't held ended lines that were passed
abbrev pub Counted : ReadPlace → Type 0
Counted at = at.ended ≡ false → count_by is_feed at.got + 1 ≡ at.line + count_by is_feed at.bytes

-- where a line is held and no line feed, the source has ended
pub ended_there : (at : ReadPlace) → Counted at → position_or_len is_feed at.bytes ≡ length at.bytes → HoldsLines 1 at → IsTrue at.ended
ended_there at counted none (inl over) = over
ended_there at counted none (inr there) =
    elim at.ended as (λ e. at.ended ≡ e → e ≡ true) [
      | true ↦ λ e. refl
      | false ↦ λ e.
          let sum = counted e in
          let nothing = count_none at.bytes none in
          absurd (omega arith)
    ] refl

pub count_passed : (b c d : List ℕ) (n size : ℕ) → b ≡ d → c ≡ drop n b → size ≡ position_or_len is_feed d → size < length b → n ≡ size + 1
    → (k line : ℕ) → k ≡ line + count_by is_feed b → k ≡ line + 1 + count_by is_feed c
count_passed b c d n size same rest ends within is k line sum =
    let first = count_line b size (ends ∙ ap (position_or_len is_feed) (sym same)) within in
    let behind : count_by is_feed c ≡ count_by is_feed (drop (size + 1) b) = ap (count_by is_feed) (rest ∙ ap (λ (i : ℕ). drop i b) is) in
    omega arith

-- behind a line that was passed one less is held
pub held_behind : (n : ℕ) (a b : ReadPlace) → b.got ≡ a.got → b.line ≡ a.line + 1 → b.ended ≡ a.ended → HoldsLines (1 + n) a → HoldsLines n b
held_behind n a b got line ended (inl over) = inl (ended ∙ over)
held_behind n a b got line ended (inr there) = inr (rw got (omega arith))
